-- The moves of a processor: what one event does, piece by piece. In each move at most one queue changes. A law goes through a
-- processor's life by the cases of these data types.
use Rattle.std.proofs.{Common.{◌≡◌, ℕ, ◌+◌, ◌-◌, arith, Bool, true, false, Option, Some, None, List, [], ◌∷◌, ◌++◌, refl, sym}}
use Rattle.std.{proofs.lemmas.{Grind.common_steps, List.append-nil}, specs.{Prelude.{◌==◌, if◌then◌else◌, option_map}}}
use Rattle.device_places.specs.Places.{at, changed}
use Rattle.machine_model.proofs.WalkFacts.{Walk, closes-by, either, idle-is, looks-by, polled-by, stirred, stirred-by, walk-any}
use Rattle.machine_model.specs.Device.{QueueView, expired, holding, interrupted, missed_early, queue_delivered, queue_polled, raised_again}
use Rattle.machine_model.specs.{Device.{without_held, without_next}, Devices.{asks_at, next_held_at, next_packet_at}, Kept.polled_by}
use Rattle.machine_model.specs.Processor.{ProcessorView, arrives, closes_poll, comes_early, delivers, delivers_oldest, disturbed, ends_by}
use Rattle.machine_model.specs.Processor.{ends_current, ends_interrupt, ends_poll, happens, interrupts_early, is_batching, is_polling}
use Rattle.machine_model.specs.{Processor.{notices, poll_looks, spent, takes_up}, Waits.saturated}
use Rattle.machine_model.specs.declared.processor.ProcessorCounts.{ProcessorCounts}
use Rattle.machine_model.specs.declared.processor.{Upcoming.{Upcoming, TheVariants.{Never, Expires}}, Work.{Work, TheVariants.Nothing}}
use Rattle.machine_model.specs.declared.processor.Work.TheVariants.{Interrupt, Poll, Packet, Arm, Use}
use Rattle.machine_model.specs.declared.settings.MachineSettings.{MachineSettings}
use Rattle.machine_model.specs.declared.processor.Upcoming.TheVariants as upcomings
use Rattle.machine.proofs.WorkFacts.{Goes, arrived, goes-arrived, goes-moved, goes-stirred, goes-unasked, same-polling, work-ended}
use Rattle.machine.specs.Fates.{delivery_by, delivery_of, finds_room, hand_of, packet_for}

-- A change of a queue, and the packet that leaves it for a poll or an interrupt. With `true` it is the last change of an event.
pub data Change (s : MachineSettings) (now : ℕ) (o : Option QueueView) : Bool → (QueueView → QueueView) → Option ℕ → Type 0 where
  expires : Change s now o false expired None
  raises : is_polling s ≡ false → Change s now o false raised_again None
  takes : (out : Option ℕ) → is_polling s ≡ true → is_batching s ≡ false → next_packet_at s.backlog o ≡ out
      → Change s now o false (without_next s.backlog) out
  -- an interrupt without polling takes the oldest packet
  takes_oldest : (out : Option ℕ) → is_polling s ≡ false → next_packet_at false o ≡ out → Change s now o false (without_next false) out
  holds : is_polling s ≡ true → is_batching s ≡ true → Change s now o false holding None
  hands : (out : Option ℕ) → next_held_at o ≡ out → Change s now o false without_held out
  polled : (given : ℕ) → Change s now o false (queue_polled now given s) None
  misses : (s.early == 0) ≡ false → Change s now o false missed_early None
  interrupts : (until : ℕ) → asks_at o ≡ true → Change s now o true (interrupted until (is_polling s)) None

abbrev pub out_for : Option ℕ → Bool → List ℕ
out_for None here = []
out_for (Some came) here = if here then came ∷ [] else []

pub data Move (p : ProcessorView) (last : Bool) : ProcessorView → Type 0 where
  -- no queue changes, nor the packet that a poll processes
  passes : (q : ProcessorView) → q.settings ≡ p.settings → q.devices ≡ p.devices → ((n : ℕ) → hand_of n q.work ≡ hand_of n p.work)
      → Move p last q
  changes : (m : ℕ) (f : QueueView → QueueView) (out : Option ℕ) (q : ProcessorView)
      → Change p.settings p.clock (at m p.devices) last f out → q.settings ≡ p.settings → q.devices ≡ changed f m p.devices
      → ((n : ℕ) → hand_of n q.work ≡ hand_of n p.work ++ out_for out (m == n)) → Move p last q

-- the packet that was processed is delivered
pub record Delivered (now m came : ℕ) (p q : ProcessorView) : Type 0 where
  pub settings : q.settings ≡ p.settings
  pub devices : q.devices ≡ changed (queue_delivered now came) m p.devices
  pub hand : (n : ℕ) → hand_of n p.work ≡ packet_for n (Some (m, came))
  pub free : (n : ℕ) → hand_of n q.work ≡ []

-- moves in which this packet is delivered, or none
pub data Moves (now : ℕ) (p : ProcessorView) : Option (ℕ × ℕ) → ProcessorView → Type 0 where
  stays : Moves now p None p
  more : (gives : Option (ℕ × ℕ)) (q r : ProcessorView) → Moves now p gives q → Move q false r → Moves now p gives r
  delivery : (m came : ℕ) (q r : ProcessorView) → Moves now p None q → Delivered now m came q r → Moves now p (Some (m, came)) r

pub record Event (now : ℕ) (p : ProcessorView) (gives : Option (ℕ × ℕ)) (q : ProcessorView) : Type 0 where
  pub late : ProcessorView
  pub moves : Moves now p gives late
  pub last : Move late true q

module _ (now : ℕ) (K : Option (ℕ × ℕ) → ProcessorView → Type 0)
    (hand : (m came : ℕ) (p q : ProcessorView) → Delivered now m came p q → K None p → K (Some (m, came)) q)
  where
    -- a property that each move leaves
    pub leaves : ((gives : Option (ℕ × ℕ)) (p q : ProcessorView) → Move p false q → K gives p → K gives q)
        → (p : ProcessorView) (gives : Option (ℕ × ℕ)) (q : ProcessorView) → Moves now p gives q → K None p → K gives q
    leaves each p gives q stays held = held
    leaves each p gives q (more g r last moves move) held = each gives r q move (leaves each p gives r moves held)
    leaves each p gives q (delivery m came r last moves h) held = hand m came r q h (leaves each p None r moves held)

    -- a property that each move and an interrupt leave
    pub leaves-all : ((last : Bool) (gives : Option (ℕ × ℕ)) (p q : ProcessorView) → Move p last q → K gives p → K gives q)
        → (p : ProcessorView) (gives : Option (ℕ × ℕ)) (q : ProcessorView) → Event now p gives q → K None p → K gives q
    leaves-all each p gives q e held = each true gives e.late q e.last (leaves (each false) p gives e.late e.moves held)

-- ---- other work begins

passes-walk : (p : ProcessorView)
    → Walk (λ q. (q.settings ≡ p.settings) × (q.devices ≡ p.devices) × (p.work ≡ Nothing) × (q.work ≡ Nothing)) (Move p true)
passes-walk p = record {
  interrupt = λ n time counts q free k asks.
      let until = saturated (q.clock + time) in
      changes n (interrupted until (is_polling p.settings)) None _ (interrupts until (rw k.1 at asks)) k.0 (rw (k.0, k.1) refl)
      (λ i. rw k.2 refl);
  next = λ q free k. k;
  asks = λ n q k asked. passes _ k.0 k.1 (λ i. rw k.2 refl);
  over = λ counts q free k. k;
  start = λ q k none polling some. k;
  resume = λ rest q free k is quiet. passes _ k.0 k.1 (λ i. rw k.2 refl);
  settle = λ tasks q k is. k;
  thread = λ n tasks q free k threaded is. passes _ k.0 k.1 (λ i. rw k.2 refl);
  uses = λ came items q free k none is quiet first. passes _ k.0 k.1 (λ i. rw k.2 refl);
  stays = λ q free k still settled. passes _ k.0 k.1 (λ i. rw (k.2, k.3) refl);
}

takes-move : (s : MachineSettings) (p : ProcessorView) → Goes s p → Move p true (takes_up p)
takes-move s p goes =
    walk-any (passes-walk p) p (goes-unasked s p goes) (λ busy. passes p refl refl (λ i. refl))
    (λ idle. (refl, refl, idle-is p.work idle, idle-is p.work idle))

stirred-move : (moment : ℕ) (p : ProcessorView) → Move p false (stirred moment p)
stirred-move moment p =
    stirred-by (Move p false) moment p (λ busy. passes p refl refl (λ i. refl))
    (λ came counts is. passes _ refl refl (λ i. rw is refl)) (λ n counts idle asks. passes _ refl refl (λ i. refl))
    (λ idle. passes _ refl refl (λ i. refl))

-- time passes after these moves
disturbs : (s : MachineSettings) (moment now : ℕ) (p q : ProcessorView) → Goes s q → Moves now p None q
    → Event now p None (disturbed moment q)
unfolding disturbed
disturbs s moment now p q goes m = record {
  late = stirred moment q;
  moves = more None q _ m (stirred-move moment q);
  last = takes-move s (stirred moment q) (goes-stirred s moment q goes);
}

-- ---- work ends

module _ (now : ℕ) (p : ProcessorView) (gives : Option (ℕ × ℕ)) where
  moves-polled : (n given : ℕ) (q : ProcessorView) → q.work ≡ Nothing → Moves now p gives q → Moves now p gives (ends_poll n given q)
  moves-polled n given q nothing m =
      let f = queue_polled q.clock given q.settings in
      polled-by (Moves now p gives) n given q
      (λ counts t. more gives q _ m (changes n f None _ (polled given) refl refl (λ i. rw nothing refl)))
      (λ counts t. more gives q _ m (changes n f None _ (polled given) refl refl (λ i. rw nothing refl)))

  moves-closes : (n given : ℕ) (q : ProcessorView) → q.work ≡ Nothing → Moves now p gives q → Moves now p gives (closes_poll n given q)
  moves-closes n given q nothing m =
      closes-by (Moves now p gives) n given q (λ less. more gives q _ m (passes _ refl refl (λ i. rw nothing refl)))
      (moves-polled n given q nothing m)

  moves-looks : (n given : ℕ) (q : ProcessorView) → q.work ≡ Nothing → is_polling q.settings ≡ true → Moves now p gives q
      → Moves now p gives (poll_looks n given q)
  moves-looks n given q nothing polling m =
      let next = without_next q.settings.backlog in
      looks-by (Moves now p gives) n given q (record {
        some = λ plain came is less.
            more gives q _ m (changes n next (Some came) _ (takes (Some came) polling plain is) refl refl (λ i. rw nothing refl));
        none = λ plain none.
            moves-closes n given _ nothing
            (more gives q _ m (changes n next None _ (takes None polling plain none) refl refl (λ i. rw nothing refl)));
        full = λ plain full. moves-closes n given q nothing m;
        takes = λ batch less pulls.
            more gives q _ m (changes n holding None _ (holds polling batch) refl refl (λ i. rw nothing refl));
        hands = λ batch stops came is.
            more gives q _ m (changes n without_held (Some came) _ (hands (Some came) is) refl refl (λ i. rw nothing refl));
        over = λ batch stops none. moves-closes n given q nothing m;
      })

module _ (p : ProcessorView) (counts : ProcessorCounts) where
  abbrev ended : ProcessorView
  ended = record p { clock = p.ends; work = Nothing; counts = counts }

  ends-free : ((n : ℕ) → hand_of n p.work ≡ []) → Moves p.ends p None ended
  ends-free none = more None p ended stays (passes ended refl refl (λ i. sym (none i)))

  alone : (m : ℕ) → p.work ≡ Interrupt m → (b : Bool) (o : Option ℕ) → is_polling p.settings ≡ b
      → next_packet_at false (at m p.devices) ≡ o
      → let r = delivers_oldest m o ended in
      Moves p.ends p (if b then None else option_map (λ (came : ℕ). (m, came)) o)
      (if b then ended else record r { devices = changed raised_again m r.devices })
  unfolding delivers
  alone m is true o polls found = ends-free (λ i. rw is refl)
  alone m is false None lone found =
      more None ended _ (ends-free (λ i. rw is refl)) (changes m raised_again None _ (raises lone) refl refl (λ i. refl))
  alone m is false (Some came) lone found =
      let hand = Packet (record { device = m; came = came; given = 0 }) in
      let r : ProcessorView = record p { work = hand; devices = changed (without_next false) m p.devices } in
      let took : Moves p.ends p None r =
      more None p r stays
      (changes m (without_next false) (Some came) r (takes_oldest (Some came) lone found) refl refl (λ i. rw is refl)) in
      more (Some (m, came)) (delivers_oldest m (Some came) ended) _ (delivery m came r (delivers_oldest m (Some came) ended) took
      (record { settings = refl; devices = refl; hand = λ i. refl; free = λ i. refl }))
      (changes m raised_again None _ (raises lone) refl refl (λ i. refl))

  ended-by : (w : Work) → p.work ≡ w → ((n : ℕ) → polled_by w ≡ Some n → is_polling p.settings ≡ true)
      → Moves p.ends p (delivery_of w p) (ends_by w ended)
  unfolding ends_interrupt delivers
  ended-by Nothing is polling = ends-free (λ i. rw is refl)
  ended-by (Interrupt m) is polling = alone m is (is_polling p.settings) (next_packet_at false (at m p.devices)) refl refl
  ended-by (Poll look) is polling =
      moves-looks p.ends p None look.device look.given ended refl (polling look.device refl) (ends-free (λ i. rw is refl))
  ended-by (Packet hand) is polling =
      moves-looks p.ends p (Some (hand.device, hand.came)) hand.device (hand.given + 1) (delivers hand.device hand.came ended) refl
      (polling hand.device refl) (delivery hand.device hand.came p _ stays
      (record { settings = refl; devices = refl; hand = λ i. rw is refl; free = λ i. refl }))
  ended-by (Arm look) is polling = moves-polled p.ends p None look.device look.given ended refl (ends-free (λ i. rw is refl))
  ended-by (Use came) is polling = more None p _ stays (passes _ refl refl (λ i. rw is refl))

-- ---- each event consists of moves

kept-hand : (p : ProcessorView) (n : ℕ) → hand_of n p.work ≡ hand_of n p.work ++ []
kept-hand p n = sym (append-nil (hand_of n p.work))

pub event-of : (s : MachineSettings) (u : Upcoming) (p : ProcessorView) → Goes s p → Event p.ends p (delivery_by u p) (happens u p)
unfolding ends_current
event-of s Never p goes = record { late = p; moves = stays; last = passes p refl refl (λ i. refl) }
event-of s upcomings.Ends p goes = record {
  late = ends_current p;
  moves = ended-by p (spent p.work (p.ends - p.clock) p.counts) p.work refl (λ n polls. grind (arith, common_steps, same-polling));
  last = takes-move s (ends_current p) (work-ended s p goes);
}
event-of s (Expires timer) p goes =
    let q : ProcessorView = record p { devices = changed expired timer.device p.devices } in
    disturbs s timer.at p.ends p q (goes-moved s p.clock p.ends p.counts q.devices p goes)
    (more None p q stays (changes timer.device expired None q expires refl refl (kept-hand p)))

pub arrival-of : (s : MachineSettings) (moment n : ℕ) (p : ProcessorView) → Goes s p
    → Event moment (arrived moment n p) None (arrives moment n p)
unfolding arrives interrupts_early
arrival-of s moment n p goes =
    either (Event moment q None) (finds_room n p) (notices moment n q) q (λ room.
    either (Event moment q None) (comes_early n q) (interrupts_early n q) (disturbed moment q)
    (λ early. ends (more None q _ stays (changes n missed_early None _ (misses (grind (arith, common_steps))) refl refl (kept-hand q))))
    (λ other. disturbs s moment moment q q (goes-arrived s moment n p goes) stays)) (λ full. ends stays)
  where
    q : ProcessorView
    q = arrived moment n p

    ends : {r : ProcessorView} → Moves moment q None r → Event moment q None r
    ends {r} m = record { late = r; moves = m; last = passes r refl refl (λ i. refl) }
