-- Law: each packet of a queue is delivered once and in order.
use Rattle.std.proofs.{Common.{◌≡◌, ◌∙◌, ℕ, ◌+◌, ◌<◌, Bool, true, false, Option, Some, None, List, [], ◌∷◌, ◌++◌, append_assoc, length}}
use Rattle.std.proofs.{Common.{refl, sym, ap, arith}, lemmas.{Grind.common_steps, List.append-nil}}
use Rattle.std.specs.{Option.option_map_or, Prelude.{◌==◌, ◌&&◌, ◌||◌, drop, if◌then◌else◌, is_some, slice_get}}
use Rattle.machine_model.proofs.{QueueFacts.{armed-by, interrupted-by, packet-by}, TableFacts.{at-either, at-kept, at-same, map_at}}
use Rattle.machine_model.specs.Device.{QueueView, after_packet, armed, has_room, holding, interrupted, new_queue, notified}
use Rattle.machine_model.specs.Device.{queue_completed, queue_delivered, queue_polled, without_held, without_next}
use Rattle.machine_model.specs.Devices.{QueueViews, has_room_at, next_held_at, next_packet_at, with_device}
use Rattle.machine_model.specs.Processor.{ProcessorView, happens, is_batching, is_polling, step, upcoming}
use Rattle.machine_model.specs.declared.settings.MachineSettings.{MachineSettings}
use Rattle.device_places.specs.Places.{added_at, at, changed}
use Rattle.machine.proofs.MoveFacts.{Change, Delivered, Move, arrival-of, changes, event-of, hands, holds, interrupts, leaves-all, out_for}
use Rattle.machine.proofs.MoveFacts.{passes, polled, takes, takes_oldest}
use Rattle.machine.{proofs.WorkFacts.{arrived, goes-on}, specs.Fates.{DeliversInOrder, came, delivered_packets, delivery_by, finds_room}}
use Rattle.machine.specs.{Fates.{hand_of, next_delivery, packet_for, queue_ring, taken_in}, Lives.{MachineEvent, behind, next, packet}}

-- ---- the packets of a queue

unfoldable pub queued : Option QueueView → List ℕ
queued o = taken_in o ++ queue_ring o

-- packets leave the ring before they are processed: with a backlog or with batches
abbrev pub takes_out : MachineSettings → Bool
takes_out s = (s.backlog || is_batching s) && is_polling s

abbrev pub IsPlain : MachineSettings → Option QueueView → Type 0
IsPlain s o = takes_out s ≡ false → taken_in o ≡ []

-- a change of a queue, by which these packets leave it
record Leaves (s : MachineSettings) (out : List ℕ) (before after : Option QueueView) : Type 0 where
  pub plain : IsPlain s after
  -- a queue that doesn't exist gives no packet
  pub there : is_some before ≡ false → out ≡ []
  pub order : out ++ queued after ≡ queued before

abbrev Same : QueueView → QueueView → Type 0
Same d e = (e.taken ≡ d.taken) × (e.ring ≡ d.ring)

-- the driver unmasks the card, and the queue keeps its packets
same-armed : (now : ℕ) (s : MachineSettings) (d : QueueView) → Same d (armed now s d)
unfolding notified
same-armed now s d = armed-by (Same d) now s d (λ owed. (refl, refl)) (λ free. (refl, refl))

same-polled : (now given : ℕ) (s : MachineSettings) (d : QueueView) → Same d (queue_polled now given s d)
unfolding queue_polled queue_completed
same-polled now given s d = grind (arith, common_steps, same-armed)

leaves-none : (s : MachineSettings) (f : QueueView → QueueView) (o : Option QueueView) → ((d : QueueView) → Same d (f d)) → IsPlain s o
    → Leaves s [] o (map_at f o)
unfolding map_at queued
leaves-none s f None same plain = record { plain = plain; there = λ none. refl; order = refl }
leaves-none s f (Some d) same plain =
    record { plain = rw (same d).0 plain; there = λ none. refl; order = rw ((same d).0, (same d).1) refl }

front-none : (xs : List ℕ) → slice_get xs 0 ≡ None → xs ≡ []
front-none [] is = refl
front-none (x ∷ xs) is = cc is

leaves-next : (s : MachineSettings) (backlog : Bool) (o : Option QueueView) (out : Option ℕ) → (backlog ≡ false → taken_in o ≡ [])
    → (takes_out s ≡ false → backlog ≡ false) → next_packet_at backlog o ≡ out
    → Leaves s (out_for out true) o (map_at (without_next backlog) o)
unfolding map_at queued
leaves-next s backlog o None h1 h2 h3 = grind (arith, common_steps, front-none)
leaves-next s backlog o (Some came) h1 h2 h3 = grind (arith, common_steps)

-- a packet leaves the ring and GRO holds it
held-queued : (ring taken : List ℕ) (first : Option ℕ) → slice_get ring 0 ≡ first
    → (option_map_or (λ (came : ℕ). taken ++ came ∷ []) first taken) ++ (option_map_or (λ (came : ℕ). drop 1 ring) first ring)
    ≡ taken ++ ring
held-queued ring taken first h1 = grind (arith, common_steps)

leaves-held : (s : MachineSettings) (o : Option QueueView) → is_polling s ≡ true → is_batching s ≡ true → Leaves s [] o (map_at holding o)
unfolding map_at queued
leaves-held s o h1 h2 = grind (arith, common_steps, held-queued)

leaves-handed : (s : MachineSettings) (o : Option QueueView) (out : Option ℕ) → next_held_at o ≡ out → IsPlain s o
    → Leaves s (out_for out true) o (map_at without_held o)
unfolding map_at queued
leaves-handed s o None h1 h2 = grind (arith, common_steps, front-none)
leaves-handed s o (Some came) h1 h2 = grind (arith, common_steps)

change-leaves : (s : MachineSettings) (now : ℕ) (o : Option QueueView) (last : Bool) (f : QueueView → QueueView) (out : Option ℕ)
    → Change s now o last f out → IsPlain s o → Leaves s (out_for out true) o (map_at f o)
unfolding interrupted
change-leaves s now o last f out (takes first polling single is) plain =
    leaves-next s s.backlog o out (λ no. grind (arith, common_steps)) (λ inside. grind (arith, common_steps)) is
change-leaves s now o last f out (takes_oldest first lone is) plain =
    leaves-next s false o out (λ no. grind (arith, common_steps)) (λ inside. refl) is
change-leaves s now o last f out (holds polling batch) plain = leaves-held s o polling batch
change-leaves s now o last f out (hands first is) plain = leaves-handed s o out is plain
change-leaves s now o last f out (polled given) plain = leaves-none s (queue_polled now given s) o (same-polled now given s) plain
change-leaves s now o last f out (interrupts until asks) plain =
    leaves-none s f o (λ d. interrupted-by (Same d) until (is_polling s) d (λ fired. (refl, refl)) (λ calm. (refl, refl))) plain
change-leaves s now o last f out change plain = leaves-none s f o (λ d. (refl, refl)) plain

out-other : (out : Option ℕ) → out_for out false ≡ []
out-other None = refl
out-other (Some came) = refl

-- ---- a processor, after each move

-- the packets of a queue: the one that a poll processes, those that `process_backlog` moved or GRO holds, and those in its ring
abbrev pub packets_of : ℕ → ProcessorView → List ℕ
packets_of n p = hand_of n p.work ++ queued (at n p.devices)

-- All packets of the queue are those that were delivered before this event and by it, and those that are still there.
pub record Keeps (n : ℕ) (all done : List ℕ) (gives : Option (ℕ × ℕ)) (p : ProcessorView) : Type 0 where
  pub plain : IsPlain p.settings (at n p.devices)
  -- a queue that doesn't exist has no packet in the hands of a poll
  pub there : is_some (at n p.devices) ≡ false → hand_of n p.work ≡ []
  pub order : done ++ (packet_for n gives ++ packets_of n p) ≡ all

module _ (n : ℕ) (all done : List ℕ) where
  pub keeps-move : (last : Bool) (gives : Option (ℕ × ℕ)) (p q : ProcessorView) → Move p last q → Keeps n all done gives p
      → Keeps n all done gives q
  keeps-move last gives p q (passes r settings devices hand) k = record {
    plain = rw (settings, devices) k.plain;
    there = rw (devices, hand n) k.there;
    order = rw (devices, hand n) k.order;
  }
  keeps-move last gives p q (changes m f out r change settings devices hand) k = record {
    plain = rw (settings, devices) l.plain;
    there = rw devices (λ none.
        let no = sym (at-kept is_some f m n p.devices (λ d. refl)) ∙ none in rw (hand n, k.there no, l.there no) refl);
    order = rw (devices, hand n, append_assoc (hand_of n p.work) (out_for out (m == n)) _, l.order) k.order;
  }
    where
      l : Leaves p.settings (out_for out (m == n)) (at n p.devices) (at n (changed f m p.devices))
      l = at-either (λ here o. Leaves p.settings (out_for out here) (at n p.devices) o) f m n p.devices
          (λ here. change-leaves p.settings p.clock (at n p.devices) last f out
          (at-same (λ o. Change p.settings p.clock o last f out) m n p.devices here change) k.plain)
          (λ other. record { plain = k.plain; there = λ none. out-other out; order = rw (out-other out) refl })

  pub keeps-delivered : (now m came : ℕ) (p q : ProcessorView) → Delivered now m came p q → Keeps n all done None p
      → Keeps n all done (Some (m, came)) q
  unfolding queued
  keeps-delivered now m came p q h k = record {
    plain = rw (h.settings, h.devices, at-kept taken_in (queue_delivered now came) m n p.devices (λ d. refl)) k.plain;
    there = λ none. h.free n;
    order = rw (h.devices, h.free n, at-kept queued (queue_delivered now came) m n p.devices (λ d. refl)) (rw (h.hand n) at k.order);
  }

-- ---- when a packet arrives

unfoldable pub made_at : ℕ → Option QueueView → QueueView
made_at capacity None = new_queue capacity
made_at capacity (Some d) = d

at-added-here : (capacity n : ℕ) (ds : QueueViews) (o : Option QueueView) → at n ds ≡ o → n < length ds
    → at n (added_at n (new_queue capacity) o ds) ≡ Some (made_at capacity o)
unfolding made_at
at-added-here capacity n ds o is below = grind (arith, common_steps)

with-here : (capacity n : ℕ) (ds : QueueViews) → at n (with_device capacity n ds) ≡ Some (made_at capacity (at n ds))
unfolding with_device
with-here capacity n ds = grind (arith, common_steps, at-added-here)

with-apart : (capacity m n : ℕ) (ds : QueueViews) → (m == n) ≡ false → at n (with_device capacity m ds) ≡ at n ds
unfolding with_device
with-apart capacity m n ds other = grind (arith, common_steps)

-- what has to be shown when a packet arrives: about its queue, with the packet, and about each other queue, which is unchanged
pub at-arrived : (Q : Bool → Option QueueView → Type 0) (moment m n : ℕ) (p : ProcessorView)
    → ((m == n) ≡ true → Q true (Some (after_packet moment p.settings (made_at p.settings.ring (at n p.devices)))))
    → ((m == n) ≡ false → Q false (at n p.devices))
    → Q (m == n) (at n (arrived moment m p).devices)
unfolding map_at
at-arrived Q moment m n p h1 h2 = grind (arith, common_steps, with-here, with-apart)

pub packet-queued : (moment : ℕ) (s : MachineSettings) (d : QueueView)
    → queued (Some (after_packet moment s d)) ≡ queued (Some d) ++ (if has_room d then moment ∷ [] else [])
unfolding queued notified
packet-queued moment s d =
    let more = sym (append_assoc d.taken d.ring (moment ∷ [])) in
    packet-by (λ room e. queued (Some e) ≡ queued (Some d) ++ (if room then moment ∷ [] else [])) moment s d
    (sym (append-nil (d.taken ++ d.ring)), λ silent. more, λ clear. more)

pub packet-taken : (moment : ℕ) (s : MachineSettings) (d : QueueView) → (after_packet moment s d).taken ≡ d.taken
unfolding notified
packet-taken moment s d = packet-by (λ room e. e.taken ≡ d.taken) moment s d (refl, λ silent. refl, λ clear. refl)

-- a part of a queue that is the same in a new queue as where there is none
pub made-part : {A : Type 0} (g : Option QueueView → A) (capacity : ℕ) (o : Option QueueView) → g (Some (new_queue capacity)) ≡ g None
    → g (Some (made_at capacity o)) ≡ g o
unfolding made_at
made-part g capacity o h1 = grind (arith, common_steps)

-- whether a queue has room is the same before and after it is made for its first packet
pub room-made : (n : ℕ) (p : ProcessorView) → finds_room n p ≡ has_room (made_at p.settings.ring (at n p.devices))
room-made n p = ap has_room_at (with-here p.settings.ring n p.devices)

pub arrived-queued : (moment m n : ℕ) (p : ProcessorView)
    → queued (at n (arrived moment m p).devices) ≡ queued (at n p.devices) ++ (if m == n && finds_room n p then moment ∷ [] else [])
unfolding queued
arrived-queued moment m n p =
    at-arrived (λ same o. queued o ≡ queued (at n p.devices) ++ (if same && finds_room n p then moment ∷ [] else [])) moment m n p
    (λ here. rw (room-made n p) (packet-queued moment p.settings (made_at p.settings.ring (at n p.devices))
    ∙ ap (λ (xs : List ℕ). xs ++ (if has_room (made_at p.settings.ring (at n p.devices)) then moment ∷ [] else []))
    (made-part queued p.settings.ring (at n p.devices) refl)))
    (λ other. sym (append-nil (queued (at n p.devices))))

-- ---- over a processor's life

pub keeps-arrived : (moment m n : ℕ) (all done : List ℕ) (p : ProcessorView) → Keeps n all done None p
    → Keeps n (all ++ (if m == n && finds_room n p then moment ∷ [] else [])) done None (arrived moment m p)
keeps-arrived moment m n all done p k =
    let extra : List ℕ = if m == n && finds_room n p then moment ∷ [] else [] in
    record {
      plain = λ no. at-arrived (λ b o. taken_in o ≡ []) moment m n p
          (λ here. packet-taken moment p.settings (made_at p.settings.ring (at n p.devices))
          ∙ (made-part taken_in p.settings.ring (at n p.devices) refl ∙ k.plain no)) (λ other. k.plain no);
      there = at-arrived (λ b o. is_some o ≡ false → hand_of n p.work ≡ []) moment m n p (λ here is. cc is) (λ other. k.there);
      order = rw (
        arrived-queued moment m n p,
        sym (append_assoc (hand_of n p.work) (queued (at n p.devices)) extra),
        sym (append_assoc done (packets_of n p) extra),
        k.order,
      ) refl;
    }

pub fates : (n : ℕ) (s : MachineSettings) (events : List MachineEvent)
    → Keeps n (came true n s events) (delivered_packets n s events) None (behind s events)
unfolding behind came delivered_packets next_delivery step queued
fates n s [] = record { plain = λ no. refl; there = λ none. refl; order = refl }
fates n s (packet moment m ∷ earlier) =
    let p = behind s earlier in
    let done = delivered_packets n s earlier in
    leaves-all moment (Keeps n (came true n s (packet moment m ∷ earlier)) done) (keeps-delivered n _ done moment) (keeps-move n _ done)
    _ None _ (arrival-of s moment m p (goes-on s earlier)) (keeps-arrived moment m n _ done p (fates n s earlier))
fates n s (next ∷ earlier) =
    let p = behind s earlier in
    let done = delivered_packets n s earlier in
    let gives = delivery_by (upcoming p) p in
    let q = happens (upcoming p) p in
    let all = came true n s earlier in
    let k = leaves-all p.ends (Keeps n all done) (keeps-delivered n all done p.ends) (keeps-move n all done) p gives q
    (event-of s (upcoming p) p (goes-on s earlier)) (fates n s earlier) in
    record { plain = k.plain; there = k.there; order = append_assoc done (packet_for n gives) (packets_of n q) ∙ k.order }

pub delivers-in-order : DeliversInOrder
unfolding queued
delivers-in-order s n events = sym (fates n s events).order
