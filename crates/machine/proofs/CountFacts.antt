-- Law: the counts and the waits of a queue are those of its packets.
use Rattle.std.proofs.Common.{◌≡◌, ◌∙◌, ℕ, ◌+◌, ◌-◌, Bool, true, false, Option, Some, None, List, [], ◌∷◌, ◌++◌, length, length-append, map}
use Rattle.std.proofs.{Common.{refl, sym, arith}, lemmas.{Grind.common_steps, List.append-nil}}
use Rattle.std.specs.Prelude.{◌==◌, ◌&&◌, if◌then◌else◌, is_some, not}
use Rattle.device_places.specs.Places.{at, changed}
use Rattle.machine_model.proofs.QueueFacts.{armed-by, holding-by, interrupted-by, next-by, packet-by, poll-by}
use Rattle.machine_model.{proofs.TableFacts.{at-either, at-kept, map_at}, specs.Device.{QueueView, after_packet, has_room, notified}}
use Rattle.machine_model.specs.{Device.queue_delivered, Devices.QueueViews, Processor.{ProcessorView, arrives, is_polling, step, upcoming}}
use Rattle.machine_model.specs.{Waits.{WaitsView, counted, saturated, no_waits}, declared.settings.MachineSettings.MachineSettings}
use Rattle.machine.proofs.FateFacts.{Keeps, at-arrived, fates, keeps-arrived, keeps-delivered, keeps-move, made-part, made_at, room-made}
use Rattle.machine.proofs.MoveFacts.{Change, Event, Move, arrival-of, changes, event-of, holds, interrupts, leaves-all, passes}
use Rattle.machine.proofs.MoveFacts.{polled, takes}
use Rattle.machine.{proofs.WorkFacts.{arrived, goes-on}, specs.Fates.{CountsOfQueue, CountsPackets, came, counting}}
use Rattle.machine.specs.Fates.{delivered_packets, delivery_by, finds_room, next_delivery, packet_for, packet_waits}
use Rattle.machine.specs.Lives.{MachineEvent, behind, next, packet}

pub record Tally : Type 0 where
  pub arrived : ℕ
  pub dropped : ℕ
  pub polled : ℕ
  pub waits : WaitsView

abbrev pub tally_of : QueueView → Tally
tally_of d = record { arrived = d.counts.arrived; dropped = d.counts.dropped; polled = d.counts.polled; waits = d.waits }

unfoldable pub tally : Option QueueView → Tally
tally None = record { arrived = 0; dropped = 0; polled = 0; waits = no_waits }
tally (Some d) = tally_of d

-- ---- no move changes the tally of a queue

abbrev SameTally : QueueView → QueueView → Type 0
SameTally d e = tally_of e ≡ tally_of d

tally-change : (s : MachineSettings) (now : ℕ) (o : Option QueueView) (last : Bool) (f : QueueView → QueueView) (out : Option ℕ)
    → Change s now o last f out → (d : QueueView) → SameTally d (f d)
unfolding notified
tally-change s now o last f out (takes first polling single is) d = next-by (SameTally d) s.backlog d (λ ring taken. refl)
tally-change s now o last f out (holds polling batch) d = holding-by (SameTally d) d (λ ring taken. refl)
tally-change s now o last f out (polled given) d =
    poll-by (SameTally d) now given s d
    (λ full. refl, λ masked. refl, λ free. armed-by (SameTally d) now s _ (λ owed. refl) (λ clear. refl))
tally-change s now o last f out (interrupts until asks) d =
    interrupted-by (SameTally d) until (is_polling s) d (λ fired. refl) (λ calm. refl)
tally-change s now o last f out change d = refl

tally-move : (n : ℕ) (last : Bool) (p q : ProcessorView) → Move p last q → tally (at n q.devices) ≡ tally (at n p.devices)
unfolding tally
tally-move n last p q (passes r settings devices hand) = rw devices refl
tally-move n last p q (changes m f out r change settings devices hand) =
    rw devices (at-kept tally f m n p.devices (tally-change p.settings p.clock (at m p.devices) last f out change))

-- ---- the packets that arrived, and those that were delivered

pub record Counts (a d : ℕ) (gone waited : List ℕ) (t : Tally) : Type 0 where
  pub arrived : t.arrived ≡ saturated (a + d)
  pub dropped : t.dropped ≡ saturated d
  pub polled : t.polled ≡ saturated (length gone)
  pub waits : t.waits ≡ counting waited no_waits

-- a packet arrived, and there was room for it or there wasn't
abbrev took : Bool → Tally → Tally
took room t = record t { arrived = saturated (t.arrived + 1); dropped = if room then t.dropped else saturated (t.dropped + 1) }

packet-took : (moment : ℕ) (s : MachineSettings) (d : QueueView) → tally_of (after_packet moment s d) ≡ took (has_room d) (tally_of d)
unfolding notified
packet-took moment s d = packet-by (λ room e. tally_of e ≡ took room (tally_of d)) moment s d (refl, λ silent. refl, λ clear. refl)

counts-took : (room : Bool) (moment a d : ℕ) (gone waited : List ℕ) (old new : Tally) → new ≡ took room old → Counts a d gone waited old
    → Counts (a + length (if room then moment ∷ [] else [])) (d + length (if not room then moment ∷ [] else [])) gone waited new
counts-took room moment a d gone waited old new h1 h2 = grind (arith, common_steps)

counts-arrived : (moment m n a d : ℕ) (gone waited : List ℕ) (p : ProcessorView) → Counts a d gone waited (tally (at n p.devices))
    → Counts (a + length (if m == n && finds_room n p then moment ∷ [] else []))
    (d + length (if m == n && not (finds_room n p) then moment ∷ [] else [])) gone waited (tally (at n (arrived moment m p).devices))
unfolding tally
counts-arrived moment m n a d gone waited p c =
    let o = at n p.devices in
    let made = made_at p.settings.ring o in
    at-arrived
    (λ here t. Counts (a + length (if here && finds_room n p then moment ∷ [] else []))
    (d + length (if here && not (finds_room n p) then moment ∷ [] else [])) gone waited (tally t)) moment m n p
    (λ here. counts-took (finds_room n p) moment a d gone waited (tally (Some made)) (tally (Some (after_packet moment p.settings made)))
    (rw (room-made n p) (packet-took moment p.settings made)) (rw (made-part tally p.settings.ring o refl) c))
    (λ other. record { arrived = omega (arith, c.arrived); dropped = omega (arith, c.dropped); polled = c.polled; waits = c.waits })

counting-more : (xs : List ℕ) (wait : ℕ) (w : WaitsView) → counting (xs ++ wait ∷ []) w ≡ counted wait (counting xs w)
unfolding counting
counting-more [] wait w = refl
counting-more (x ∷ xs) wait w = counting-more xs wait (counted x w)

counts-given : (now came a d : ℕ) (gone waited : List ℕ) (o : Option QueueView) → (is_some o ≡ false → came ∷ [] ≡ [])
    → Counts a d gone waited (tally o)
    → Counts a d (gone ++ came ∷ []) (waited ++ (now - came) ∷ []) (tally (map_at (queue_delivered now came) o))
unfolding tally map_at
counts-given now came a d gone waited None there c = absurd (cc (there refl))
counts-given now came a d gone waited (Some e) _ c = grind (arith, common_steps, counting-more)

counts-delivered : (now came m n a d : ℕ) (gone waited : List ℕ) (ds : QueueViews)
    → (is_some (at n ds) ≡ false → packet_for n (Some (m, came)) ≡ []) → Counts a d gone waited (tally (at n ds))
    → (let batch = packet_for n (Some (m, came)) in
    Counts a d (gone ++ batch) (waited ++ map (λ came. now - came) batch) (tally (at n (changed (queue_delivered now came) m ds))))
counts-delivered now came m n a d gone waited ds there c =
    let batch : Bool → List ℕ = λ here. if here then came ∷ [] else [] in
    at-either (λ here o. Counts a d (gone ++ batch here) (waited ++ map (λ came. now - came) (batch here)) (tally o))
    (queue_delivered now came) m n ds (λ here. counts-given now came a d gone waited (at n ds) (rw here at there) c)
    (λ other. rw (append-nil gone, append-nil waited) c)

-- the counts of a queue after an event, which may deliver a packet
counts-event : (n now a d : ℕ) (all done gone waited : List ℕ) (p : ProcessorView) (gives : Option (ℕ × ℕ)) (q : ProcessorView)
    → Event now p gives q → Keeps n all done None p → Counts a d gone waited (tally (at n p.devices))
    → Counts a d (gone ++ packet_for n gives) (waited ++ map (λ came. now - came) (packet_for n gives)) (tally (at n q.devices))
counts-event n now a d all done gone waited p gives q e keeps c =
    (leaves-all now (λ g r. Keeps n all done g r
    × Counts a d (gone ++ packet_for n g) (waited ++ map (λ came. now - came) (packet_for n g)) (tally (at n r.devices)))
    (λ m came r t h k. (
      keeps-delivered n all done now m came r t h k.0,
      rw h.devices (counts-delivered now came m n a d gone waited r.devices
          (λ none. sym (h.hand n) ∙ k.0.there none) (rw (append-nil gone, append-nil waited) at k.1)),
    ))
    (λ last g r t move k. (keeps-move n all done last g r t move k.0, rw (tally-move n last r t move) k.1)) p gives q e
    (keeps, rw (append-nil gone, append-nil waited) c)).1

counts-on : (s : MachineSettings) (n : ℕ) (events : List MachineEvent)
    → Counts (length (came true n s events)) (length (came false n s events)) (delivered_packets n s events) (packet_waits n s events)
    (tally (at n (behind s events).devices))
unfolding behind came delivered_packets next_delivery packet_waits counting step tally
counts-on s n [] = record { arrived = omega arith; dropped = omega arith; polled = omega arith; waits = refl }
counts-on s n (packet moment m ∷ earlier) =
    let p = behind s earlier in
    let room : List ℕ = if m == n && finds_room n p then moment ∷ [] else [] in
    let full : List ℕ = if m == n && not (finds_room n p) then moment ∷ [] else [] in
    let gone = delivered_packets n s earlier in
    let waited = packet_waits n s earlier in
    let k : Counts _ _ (gone ++ []) (waited ++ []) (tally (at n (arrives moment m p).devices)) =
    counts-event n moment _ _ _ gone gone waited (arrived moment m p) None _ (arrival-of s moment m p (goes-on s earlier))
    (keeps-arrived moment m n _ gone p (fates n s earlier)) (counts-arrived moment m n _ _ gone waited p (counts-on s n earlier)) in
    rw (length-append (came true n s earlier) room, length-append (came false n s earlier) full)
    (rw (append-nil gone, append-nil waited) at k)
counts-on s n (next ∷ earlier) =
    let p = behind s earlier in
    counts-event n p.ends _ _ _ _ (delivered_packets n s earlier) (packet_waits n s earlier) p (delivery_by (upcoming p) p) _
    (event-of s (upcoming p) p (goes-on s earlier)) (fates n s earlier) (counts-on s n earlier)

counts-at : (n : ℕ) (s : MachineSettings) (events : List MachineEvent) (o : Option QueueView)
    → Counts (length (came true n s events)) (length (came false n s events)) (delivered_packets n s events) (packet_waits n s events)
    (tally o)
    → CountsPackets n s events o
unfolding tally
counts-at n s events o h1 = grind (arith, common_steps)

pub counts-of-queue : CountsOfQueue
counts-of-queue s n events = counts-at n s events (at n (behind s events).devices) (counts-on s n events)
