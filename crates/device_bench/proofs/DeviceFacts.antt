-- What rows and polls preserve of a device: that its state is sound, whether a disable is pending, and whether it waits on the
-- list.
use Rattle.std.proofs.Common.{◌≡◌, ◌∙◌, ℕ, zero, suc, ◌+◌, ◌≤◌, Bool, true, false, Option, Some, None, [], ◌∷◌, ◌++◌, MatchBool, ap}
use Rattle.std.proofs.Common.{arith, length, refl, sum, sym, take}
use Rattle.std.specs.Prelude.{◌==◌, ◌||◌, nat_lt, not, if◌then◌else◌}
use Rattle.napi_model.specs.{Step.{is_handed, seen_of}, declared.event.Prep.TheVariants.{Granted, Missed, Disabled}}
use Rattle.napi_model.specs.{declared.event.Done.Done, declared.state.Kind.Kind, declared.state.Place.Place, declared.state.State.State}
use Rattle.poll_runs.specs.{Plan.{ends, ◌>>=◌}, Polls.{is_arrival, is_repoll}, Thread.{is_for_thread, last_next}}
use Rattle.poll_runs.specs.{declared.bench.BusyReport.BusyReport, declared.bench.Next.Next}
use Rattle.{poll_runs.specs.declared.bench.Next.TheVariants.{Again, Repoll}, poll_runs.proofs.PollingFacts.last-snoc}
use Rattle.device_bench.proofs.InstanceFacts.{carried-then}
use Rattle.device_bench.specs.Waiting.{one_when, is_left_to_list, is_listed, leaves, waits_on_list}
use Rattle.device_bench.specs.Device.{acted, after_disable, after_enable, device_after_packet, after_reply, after_request}
use Rattle.device_bench.specs.Device.{after_threaded, carried_out, disabled_from, enabled_from, is_pending, operated, device_polled}
use Rattle.device_bench.specs.Device.{polled_busily, polled_by_thread, polled_once, settled, device_state, with_napi}
use Rattle.device_bench.specs.{DeviceView.DeviceView, Kept.{is_held, is_sound}, declared.counts.DeviceState.DeviceState}
use Rattle.device_bench.specs.{declared.device.TheConstants.INTERRUPT, Receive.{ring_has_place, is_control, put_if, tried_by}}
use Rattle.device_bench.specs.Counter.{raised}
use Rattle.napi_model.specs.declared.event.Operation.TheVariants as operation
use Rattle.poll_runs.specs.Polling as rule

-- an instance that isn't scheduled is in no queue
pub unheld : (p : Place) (sched : Bool) → (not (is_held p) || sched) ≡ true → sched ≡ false → is_handed Kind.List p ≡ false
unheld Place.Listed sched h e = cc (rw e at h)
unheld p sched h e = refl

-- an instance that is queued is scheduled
scheduled : (k : Kind) (p : Place) (sched : Bool) → (not (is_held p) || sched) ≡ true → is_handed k p ≡ true → sched ≡ true
scheduled Kind.List Place.Listed sched h e = h
scheduled Kind.Thread Place.ToThread sched h e = h
scheduled k p sched h e = cc e

not-listed : (p : Place) → is_handed Kind.Thread p ≡ true → is_handed Kind.List p ≡ false
not-listed Place.Listed e = cc e
not-listed p e = refl

-- the invariant holds before and after, and this says whether the device waits on the list afterwards
pub record Stays (d e : DeviceView) (Listed : Type 0) : Type 0 where
  pub sound : is_sound e ≡ true
  pub pending : is_pending e ≡ is_pending d
  pub listed : Listed

-- a step that preserves the invariant and adds this many entries to the list
abbrev pub Keeps : DeviceView → DeviceView → ℕ → Type 0
Keeps d e added = Stays d e (waits_on_list (Some d) + added ≡ waits_on_list (Some e))

-- ---- a packet

abbrev pub entries : Option Kind → ℕ
entries handed = one_when (is_listed handed)

-- a scheduled instance, which its owner queues
hands : (threaded : Bool) (caller : ℕ) (d g : DeviceView) → g.side.napi.flags.sched ≡ true → is_pending g ≡ is_pending d
    → is_handed Kind.List d.side.napi.place ≡ false
    → Keeps d (operated caller (operation.Hand (if threaded then Kind.Thread else Kind.List)) g)
    (entries (Some (if threaded then Kind.Thread else Kind.List)))
hands true caller d g sched pending off = record { sound = sched; pending = pending; listed = rw off refl }
hands false caller d g sched pending off = record { sound = sched; pending = pending; listed = rw off refl }

request-keeps : (d : DeviceView) → is_sound d ≡ true → Keeps d (after_request d).1 (entries (after_request d).0)
unfolding after_request
request-keeps d sound = by d.side.napi.flags.disable d.side.napi.flags.sched refl
  where
    by : (disable sched : Bool) → d.side.napi.flags.sched ≡ sched
        → let replied = after_reply (if disable then Disabled else (if sched then Missed else Granted)) d in
        Keeps d replied.1 (entries replied.0)
    by true sched e = record { sound = sound; pending = refl; listed = omega arith }
    by false true e = record { sound = sound; pending = refl; listed = omega arith }
    by false false e =
        hands d.side.napi.flags.threaded INTERRUPT d (record (operated INTERRUPT (operation.Schedule Granted) d) {
          counts = record d.counts { granted = raised d.counts.granted 1 };
        }) refl refl
        (unheld d.side.napi.place d.side.napi.flags.sched sound e)

pub packet-keeps : (bytes : ℕ) (d : DeviceView) → is_sound d ≡ true
    → Keeps d (device_after_packet bytes d).1 (entries (device_after_packet bytes d).0)
unfolding device_after_packet
packet-keeps bytes d sound = by (ring_has_place d.side)
  where
    put : DeviceView
    put = record d { side = put_if true bytes d.side; counts = record d.counts { arrived = raised d.counts.arrived 1 } }

    by : (b : Bool) → let after =
        if◌then◌else◌ {A = Option Kind × DeviceView} b (after_request put)
        (None, record d { counts = record d.counts { arrived = raised d.counts.arrived 1; dropped = raised d.counts.dropped 1 } }) in
        Keeps d after.1 (entries after.0)
    by true = let kept = request-keeps put sound in record { sound = kept.sound; pending = kept.pending; listed = kept.listed }
    by false = record { sound = sound; pending = refl; listed = omega arith }

-- ---- a poll

-- the instance is owned by its poller, and isn't on the list
pub record IsInHand (d : DeviceView) : Type 0 where
  pub sched : d.side.napi.flags.sched ≡ true
  pub off : is_handed Kind.List d.side.napi.place ≡ false

-- the device after a poll: it is on the list if the poll queued it there
pub record Leaves (d e : DeviceView) (next : Next) : Type 0 where
  pub sound : is_sound e ≡ true
  pub pending : is_pending e ≡ is_pending d
  pub listed : waits_on_list (Some e) ≡ one_when (is_arrival next)
  pub sched : is_for_thread next ≡ true → e.side.napi.flags.sched ≡ true

sound-of : (p : Place) (sched : Bool) → sched ≡ true → (not (is_held p) || sched) ≡ true
sound-of Place.Nobody sched e = refl
sound-of p sched e = e

kept-in-hand : (d : DeviceView) → IsInHand d → Leaves d d Repoll
kept-in-hand d hand =
    record {
      sound = sound-of d.side.napi.place d.side.napi.flags.sched hand.sched;
      pending = refl;
      listed = rw hand.off refl;
      sched = λ e. hand.sched;
    }

-- after a missed request the instance is queued
handed-on : (threaded : Bool) (d : DeviceView) → d.side.napi.flags.sched ≡ true
    → let k = if threaded then Kind.Thread else Kind.List in
    Leaves d (acted (operation.Hand k) (acted (operation.Complete Done.Again) d)) (Again k)
handed-on true d sched = record { sound = sched; pending = refl; listed = refl; sched = λ e. sched }
handed-on false d sched = record { sound = sched; pending = refl; listed = refl; sched = λ e. sched }

completed-leaves : (d : DeviceView) → IsInHand d → let done = carried_out (rule.completed true) d in Leaves d done.1 done.0
unfolding carried_out
completed-leaves d hand = by d.side.napi.flags.in_busy_poll d.side.napi.flags.missed
  where
    After : Done → Type 0
    After r =
        let o = operation.Complete r in
        let done = carried_out (rule.completed_by true (rule.is_again o)) (acted o d) in Leaves d done.1 done.0

    by : (busy missed : Bool) → After (if busy then Done.Held else (if missed then Done.Again else Done.Released))
    by true missed =
        record {
          sound = sound-of d.side.napi.place d.side.napi.flags.sched hand.sched;
          pending = refl;
          listed = rw hand.off refl;
          sched = λ e. cc e;
        }
    by false true = handed-on d.side.napi.flags.threaded d hand.sched
    by false false = record { sound = refl; pending = refl; listed = refl; sched = λ e. cc e }

completed-next : (d : DeviceView) → is_repoll (carried_out (rule.completed true) d).0 ≡ false
unfolding carried_out
completed-next d = by d.side.napi.flags.in_busy_poll d.side.napi.flags.missed
  where
    by : (busy missed : Bool) → let o = operation.Complete (if busy then Done.Held else (if missed then Done.Again else Done.Released)) in
        is_repoll (carried_out (rule.completed_by true (rule.is_again o)) (acted o d)).0 ≡ false
    by true missed = refl
    by false true = refl
    by false false = refl

ended-leaves : (full : Bool) (d : DeviceView) → IsInHand d → let done = carried_out (rule.ended true full) d in Leaves d done.1 done.0
unfolding carried_out
ended-leaves false d hand = completed-leaves d hand
ended-leaves true d hand = by d.side.napi.flags.disable
  where
    by : (off : Bool)
        → let done = carried_out (if off then rule.completed true else ends Repoll) d in Leaves d done.1 done.0
    by true = completed-leaves d hand
    by false = kept-in-hand d hand

poll-leaves : (weight : ℕ) (d : DeviceView) → IsInHand d → let done = carried_out (rule.poll_plan true weight) d in
    Leaves d done.1 done.0.once.next
unfolding carried_out device_polled
poll-leaves weight d hand =
    let packets = take weight d.side.packets in
    let full = length packets == weight in
    let left = ended-leaves full (device_polled weight d) (record { sched = hand.sched; off = hand.off }) in
    rw (carried-then {B = rule.Given ℕ} (rule.ended true full)
    (λ next. ends (record { once = record { work = length packets; next = next }; packets = packets })) (device_polled weight d))
    (record { sound = left.sound; pending = left.pending; listed = left.listed; sched = left.sched })

-- the device after its poller stops, if its last poll ended like this
abbrev pub LeavesPolled : DeviceView → DeviceView → Next → Type 0
LeavesPolled d e next = Stays d e (waits_on_list (Some e) ≡ one_when (is_left_to_list next))

lets : (d e : DeviceView) (next : Next) → Leaves d e next → LeavesPolled d (carried_out (rule.let_go next) e).1 next
unfolding carried_out
lets d e Repoll left = record { sound = left.sched refl; pending = left.pending; listed = refl }
lets d e (Again Kind.List) left = record { sound = left.sound; pending = left.pending; listed = left.listed }
lets d e next left = record { sound = left.sound; pending = left.pending; listed = left.listed }

-- what a poll from the list preserves
abbrev pub KeepsPolled : DeviceView → DeviceView → Next → Type 0
KeepsPolled d e next = Stays d e (waits_on_list (Some d) ≤ waits_on_list (Some e) + leaves next)

one-of : (left : Bool) → one_when left + (if left then 0 else 1) ≡ 1
one-of true = refl
one-of false = refl

pub once-keeps : (weight : ℕ) (d : DeviceView) → is_sound d ≡ true → KeepsPolled d (polled_once weight d).1 (polled_once weight d).0.next
unfolding polled_once carried_out
once-keeps weight d sound = by (is_handed Kind.List d.side.napi.place) refl
  where
    By : Bool → Type 0
    By b =
        let done = carried_out (rule.found true weight b) (acted (operation.Take Kind.List b) d) in
        KeepsPolled d done.1 done.0.once.next

    by : (b : Bool) → is_handed Kind.List d.side.napi.place ≡ b → By b
    by false e = record { sound = sound; pending = refl; listed = omega arith }
    by true e =
        let t = acted (operation.Take Kind.List true) d in
        let hand : IsInHand t =
        record { sched = scheduled Kind.List d.side.napi.place d.side.napi.flags.sched sound e; off = refl } in
        let poll = carried_out (rule.poll_plan true weight) t in
        let next = poll.0.once.next in
        let gone = lets t poll.1 next (poll-leaves weight t hand) in
        rw (
          carried-then (rule.poll_plan true weight) (λ (g : rule.Given ℕ). rule.let_go g.once.next >>= λ _. ends g) t,
          carried-then (rule.let_go next) (λ _. ends poll.0) poll.1,
        )
        (record {
          sound = gone.sound;
          pending = gone.pending;
          listed = rw e (omega (arith, gone.listed, one-of (is_left_to_list next)));
        })

-- ---- the thread's polling

zero-off : (b : Bool) → if◌then◌else◌ {A = ℕ} b 1 0 ≡ 0 → b ≡ false
zero-off true e = absurd (omega (arith, e))
zero-off false e = refl

-- either the thread still owns the instance, or it has stopped after a last poll that ended like this
pub record StandsAt (d e : DeviceView) (held : Bool) (next : Next) : Type 0 where
  pub pending : is_pending e ≡ is_pending d
  pub here : MatchBool held (IsInHand e) ((is_sound e ≡ true) × (waits_on_list (Some e) ≡ one_when (is_left_to_list next)))

follows-at : (last : Bool) (d e : DeviceView) (next : Next) → Leaves d e next → let done = carried_out (rule.followed last next) e in
    StandsAt d done.1 done.0 next × (done.0 ≡ true → last ≡ false)
unfolding carried_out
follows-at true d e next left = let gone = lets d e next left in
    rw (carried-then (rule.let_go next) (λ _. ends false) e)
    (record { pending = gone.pending; here = (gone.sound, gone.listed) }, λ h. cc h)
follows-at false d e Repoll left =
    let hand : IsInHand e = record { sched = left.sched refl; off = zero-off (is_handed Kind.List e.side.napi.place) left.listed } in
    (record { pending = left.pending; here = hand }, λ h. refl)
follows-at false d e (Again Kind.Thread) left = (by (is_handed Kind.Thread e.side.napi.place), λ h. refl)
  where
    by : (b : Bool) → StandsAt d (acted (operation.Take Kind.Thread b) e) b (Again Kind.Thread)
    by true = record { pending = left.pending; here = record { sched = left.sched refl; off = refl } }
    by false = record { pending = left.pending; here = (left.sound, left.listed) }
follows-at false d e next left = (record { pending = left.pending; here = (left.sound, left.listed) }, λ h. cc h)

polls-at : (left weight : ℕ) (held : Bool) (before : rule.ThreadPolls ℕ) (d e : DeviceView) → (held ≡ true → 1 ≤ left)
    → StandsAt d e held (last_next before.polls)
    → let done = carried_out (rule.polls_on true weight left held before) e in StandsAt d done.1 false (last_next done.0.polls)
unfolding rule.polls_on carried_out
polls-at left weight false before d e room at = at
polls-at zero weight true before d e room at = absurd (omega (arith, room refl))
polls-at (suc left) weight true before d e room at =
    let poll = carried_out (rule.poll_plan true weight) e in
    let once = poll.0.once in
    let all : rule.ThreadPolls ℕ = record { polls = before.polls ++ once ∷ []; packets = poll.0.packets } in
    let follow = carried_out (rule.followed (left == 0) once.next) poll.1 in
    let stands = follows-at (left == 0) e poll.1 once.next (poll-leaves weight e at.here) in
    let here : StandsAt d follow.1 follow.0 (last_next all.polls) =
    rw (last-snoc before.polls once) (record { pending = stands.0.pending ∙ at.pending; here = stands.0.here }) in
    rw (
      carried-then (rule.poll_plan true weight) (λ (g : rule.Given ℕ). rule.followed (left == 0) g.once.next >>=
          λ held. rule.polls_on true weight left held (record { polls = before.polls ++ g.once ∷ []; packets = g.packets })) e,
      carried-then (rule.followed (left == 0) once.next) (λ held. rule.polls_on true weight left held all) poll.1,
    )
    (polls-at left weight follow.0 all d follow.1 (λ h. some left (stands.1 h)) here)
  where
    some : (n : ℕ) → (n == 0) ≡ false → 1 ≤ n
    some zero e = cc e
    some (suc n) e = omega arith

pub thread-keeps : (most weight : ℕ) (d : DeviceView) → 1 ≤ most → is_sound d ≡ true
    → let after = polled_by_thread most weight d in Keeps d after.1 (one_when (is_left_to_list (last_next after.0)))
unfolding polled_by_thread carried_out rule.polls_on
thread-keeps most weight d room sound = by (is_handed Kind.Thread d.side.napi.place) refl
  where
    none : rule.ThreadPolls ℕ
    none = record { polls = []; packets = [] }

    by : (b : Bool) → is_handed Kind.Thread d.side.napi.place ≡ b
        → let done = carried_out (rule.polls_on true weight most b none) (acted (operation.Take Kind.Thread b) d) in
        Keeps d done.1 (one_when (is_left_to_list (last_next done.0.polls)))
    by true e =
        let t = acted (operation.Take Kind.Thread true) d in
        let hand : IsInHand t =
        record { sched = scheduled Kind.Thread d.side.napi.place d.side.napi.flags.sched sound e; off = refl } in
        let at = polls-at most weight true none d t (λ h. room)
        (record { pending = refl; here = hand }) in
        record {
          sound = at.here.0;
          pending = at.pending;
          listed = rw (not-listed d.side.napi.place e) (omega (arith, at.here.1));
        }
    by false e = record { sound = sound; pending = refl; listed = omega arith }

-- ---- busy polling

module _ (weight : ℕ) where
  left-leaves : (below : Bool) (d : DeviceView) → IsInHand d → let done = carried_out (rule.left_by true below) d in
      LeavesPolled d done.1 done.0
  unfolding carried_out
  left-leaves false d hand = record { sound = hand.sched; pending = refl; listed = refl }
  left-leaves true d hand = let left = completed-leaves d hand in record {
    sound = left.sound;
    pending = left.pending;
    listed = left.listed ∙ ap one_when (or-false (is_arrival (carried_out (rule.completed true) d).0) _ (completed-next d));
  }
    where
      or-false : (a b : Bool) → b ≡ false → a ≡ (a || b)
      or-false true b e = refl
      or-false false b e = sym e

  -- polls and completions that return Held don't change the instance
  round-napi : (r : BusyReport) (d : DeviceView) → (carried_out (rule.round sum true weight r) d).1.side.napi ≡ d.side.napi
  unfolding carried_out device_polled
  round-napi r d = by (nat_lt (length (take weight d.side.packets)) weight) (rule.and_poll sum r (take weight d.side.packets))
    where
      by : (below : Bool) (q : BusyReport) → (carried_out (rule.round_ends below q) (device_polled weight d)).1.side.napi ≡ d.side.napi
      by true q = refl
      by false q = refl

  rounds-leave : (left : ℕ) (r : BusyReport) (d : DeviceView) → IsInHand d
      → let done = carried_out (rule.rounds_on sum true weight left r) d in LeavesPolled d done.1 done.0.report.next
  unfolding rule.rounds_on carried_out device_polled
  rounds-leave zero r d hand =
      let stop = device_polled weight (acted operation.BusyStop d) in
      let packets = take weight d.side.packets in
      let below = nat_lt (length packets) weight in
      let left = left-leaves below stop (record { sched = hand.sched; off = hand.off }) in
      rw (carried-then {B = rule.BusyPolls ℕ} (rule.left_by true below)
      (λ next. ends (record { report = record (rule.and_poll sum r packets) { next = next }; packets = packets })) stop)
      (record { sound = left.sound; pending = left.pending; listed = left.listed })
  rounds-leave (suc left) r d hand =
      let round = carried_out (rule.round sum true weight r) d in
      let same = round-napi r d in
      let sched : round.1.side.napi.flags.sched ≡ true = ap (λ (s : State). s.flags.sched) same ∙ hand.sched in
      let off : is_handed Kind.List round.1.side.napi.place ≡ false = ap (λ (s : State). is_handed Kind.List s.place) same ∙ hand.off in
      let more = rounds-leave left round.0 round.1 (record { sched = sched; off = off }) in
      rw (carried-then (rule.round sum true weight r) (rule.rounds_on sum true weight left) d)
      (record {
        sound = more.sound;
        pending = more.pending ∙ ap (λ (s : State). s.flags.disable) same;
        listed = more.listed;
      })

  pub busy-keeps : (rounds : ℕ) (d : DeviceView) → is_sound d ≡ true → let after = polled_busily rounds weight d in
      Keeps d after.1 (one_when (is_left_to_list after.0.next))
  unfolding polled_busily carried_out
  busy-keeps rounds d sound = by d.side.napi.flags.disable d.side.napi.flags.sched d.side.napi.flags.in_busy_poll refl
    where
      by : (disable sched busy : Bool) → d.side.napi.flags.sched ≡ sched
          → let o = if not (disable || (sched || busy)) then operation.BusyTake else operation.Look (seen_of d.side.napi) in
          let done = carried_out (rule.busily_from sum true weight rounds (rule.is_taken o)) (acted o d) in
          Keeps d done.1 (one_when (is_left_to_list done.0.report.next))
      by true sched busy e = record { sound = sound; pending = refl; listed = omega arith }
      by false true busy e = record { sound = sound; pending = refl; listed = omega arith }
      by false false true e = record { sound = sound; pending = refl; listed = omega arith }
      by false false false e =
          let left = rounds-leave rounds rule.no_report (acted operation.BusyTake d) (record { sched = refl; off = refl }) in
          record {
            sound = left.sound;
            pending = left.pending;
            listed = rw (unheld d.side.napi.place d.side.napi.flags.sched sound e) (omega (arith, left.listed));
          }

-- ---- disabling and enabling

-- a step changes neither where the instance waits nor whether its state is sound
pub record KeepsPlace (d e : DeviceView) : Type 0 where
  pub sound : is_sound e ≡ true
  pub listed : waits_on_list (Some e) ≡ waits_on_list (Some d)

pub disable-keeps : (d : DeviceView) → is_sound d ≡ true → KeepsPlace d (after_disable d)
unfolding after_disable
disable-keeps d sound = by (device_state d)
  where
    by : (s : DeviceState) → KeepsPlace d (disabled_from s d)
    by DeviceState.On = record { sound = sound; listed = refl }
    by DeviceState.Off = record { sound = sound; listed = refl }
    by DeviceState.Pending = record { sound = sound; listed = refl }

control-unlisted : (p : Place) → is_control p ≡ true → is_handed Kind.List p ≡ false
control-unlisted Place.Listed e = cc e
control-unlisted p e = refl

pub enable-keeps : (d : DeviceView) → is_sound d ≡ true → Keeps d (after_enable d) 0
unfolding after_enable
enable-keeps d sound = by d.side.napi.flags.disable (is_control d.side.napi.place) refl
  where
    by : (disable control : Bool) → is_control d.side.napi.place ≡ control
        → Keeps d (enabled_from (if disable then DeviceState.Pending else (if control then DeviceState.Off else DeviceState.On)) d) 0
    by true control e = record { sound = sound; pending = refl; listed = omega arith }
    by false true e = record { sound = refl; pending = refl; listed = rw (control-unlisted d.side.napi.place e) refl }
    by false false e = record { sound = sound; pending = refl; listed = omega arith }

pub threaded-keeps : (threaded : Bool) (d : DeviceView) → is_sound d ≡ true → Keeps d (after_threaded threaded d) 0
unfolding after_threaded
threaded-keeps threaded d sound = record { sound = sound; pending = refl; listed = omega arith }

pub settle-keeps : (d : DeviceView) → is_sound d ≡ true → KeepsPlace d (settled d)
unfolding settled
settle-keeps d sound = by d.side.napi.flags.disable d.side.napi.flags.sched d.side.napi.flags.npsvc refl
  where
    by : (disable sched npsvc : Bool) → d.side.napi.flags.sched ≡ sched
        → KeepsPlace d (if disable then with_napi (tried_by (not (sched || npsvc)) d.side.napi) d else d)
    by false sched npsvc e = record { sound = sound; listed = refl }
    by true true npsvc e = record { sound = sound; listed = refl }
    by true false true e = record { sound = sound; listed = refl }
    by true false false e = record { sound = refl; listed = rw (unheld d.side.napi.place d.side.napi.flags.sched sound e) refl }

-- settling doesn't change a device without a pending disable
pub settled-same : (d : DeviceView) → is_pending d ≡ false → settled d ≡ d
unfolding settled
settled-same d e = rw e refl
