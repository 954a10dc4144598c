-- Polling a device by the polling rule has the result of executing the rule's plan on the device alone.
use Rattle.std.proofs.Common.{◌≡◌, ◌∙◌, ◌≤◌, ℕ, zero, suc, Bool, true, false, List, [], ◌∷◌, ◌++◌, Option, Some, None, MatchBool, ap}
use Rattle.std.proofs.Common.{arith, length, map}
use Rattle.std.{proofs.Common.{refl, subst, sum, sym, take}, specs.Prelude.{◌||◌, if◌then◌else◌, is_some, min, nat_le, not}}
use Rattle.std.proofs.lemmas.{Bool.{leb-false, leb-true}, List.{length-take, take_all, Sums.sum_by-cons}}
use Rattle.napi_model.specs.declared.state.{Flags.Flags, Kind.Kind, Seen.Seen, State.State}
use Rattle.napi_model.specs.declared.event.{Call.Call, Done.{Done, TheVariants.{Released, Again, Held}}, Operation.Operation}
use Rattle.napi_model.specs.declared.event.Operation.TheVariants.{Look, Take, Hand, Complete, BusyTake}
use Rattle.napi_model.specs.Step.{CallerPolls, after, complete_reply, event, no_flags, seen_of}
use Rattle.poll_runs.specs.Plan.{Answers, Action, Does, Follows, Plan, gave, made, ◌>>=◌, ends, asks, acts, polls}
use Rattle.poll_runs.specs.Polling.{BusyPolls, Given, ThreadPolls, busy_poll_plan, busy_takes, completed, flags_in, gives, is_taken}
use Rattle.poll_runs.specs.Polling.{makes, next_of, poll_once_plan, thread_poll_plan}
use Rattle.device_bench.specs.Device.{acted, carried_out, counted_after, device_polled, polled_busily, polled_by_thread, polled_once}
use Rattle.device_bench.specs.Device.{with_napi}
use Rattle.device_bench.specs.{DeviceView.DeviceView, Instance.{AtOnce, DeviceDid, DidIf, IsAnswer, IsDevicePolled}}
use Rattle.device_bench.specs.Receive.{answered, busy_taken, polled_bytes, done_by, given_of}
use Rattle.device_bench.specs.Receive.{handed_again, is_idle, state_kind, poller_in, taker_of}
use Rattle.napi_model.specs.declared.event.Call.TheVariants as call

-- ---- the state determines the reply to a call

refused : (d s b : Bool) → ¬ ((d ≡ false) × (s ≡ false) × (b ≡ false)) → not (d || (s || b)) ≡ false
refused true s b may = refl
refused false true b may = refl
refused false false true may = refl
refused false false false may = absurd (may (refl, refl, refl))

is_answered : (c : Call) (o : Operation) (s : State) → Answers c o → IsAnswer o s → o ≡ answered c s
is_answered call.BusyTake BusyTake s a i = rw i refl
is_answered call.BusyTake (Look x) s a i =
    let same : x.flags ≡ s.flags = ap flags_in i in
    rw (refused s.flags.disable s.flags.sched s.flags.in_busy_poll
    (subst (λ (f : Flags). ¬ ((f.disable ≡ false) × (f.sched ≡ false) × (f.in_busy_poll ≡ false))) same a)) i
is_answered call.BusyTake o s a i = cc a
is_answered c BusyTake s a i = cc a
is_answered call.Complete (Complete Held) s a i = absurd a
is_answered c o s a i = i ∙ ap (λ (x : Call). answered x s) a

-- ---- plans

-- if these actions execute a plan, their result is the result of executing it on the device alone
pub carried : {A : Type 0} (plan : Plan ℕ A) (deeds : List (Action ℕ)) (a : A) (d e : DeviceView) → Follows AtOnce plan deeds a
    → DeviceDid d deeds e → (a ≡ (carried_out plan d).0) × (e ≡ (carried_out plan d).1)
unfolding carried_out
carried (ends x) deeds a d e f g = (f.1, subst (λ (l : List (Action ℕ)). DeviceDid d l e) f.0 g)
carried (asks c go) deeds a d e f g =
    let here = f.6 ∙ ap (λ (os : List Operation). map made os ++ f.2) f.4 in
    let did = subst (λ (l : List (Action ℕ)). DeviceDid d l e) here g in
    subst (λ (o : Operation). (a ≡ (carried_out (go o) (acted o d)).0) × (e ≡ (carried_out (go o) (acted o d)).1))
    (is_answered c f.0 d.side.napi f.3 did.0) (carried (go f.0) f.2 a (acted f.0 d) e f.5 did.1)
carried (acts o plan) deeds a d e f g =
    let here = f.4 ∙ ap (λ (os : List Operation). map made os ++ f.1) f.2 in
    let did = subst (λ (l : List (Action ℕ)). DeviceDid d l e) here g in
    carried plan f.1 a (acted o d) e f.3 did.1
carried (polls weight go) deeds a d e f g =
    let did = subst (λ (l : List (Action ℕ)). DeviceDid d l e) f.4 g in
    subst (λ (packets : List ℕ).
    (a ≡ (carried_out (go packets) (device_polled weight d)).0) × (e ≡ (carried_out (go packets) (device_polled weight d)).1))
    did.0 (carried (go f.0) f.1 a (device_polled weight d) e f.3 did.1)

pub does-carried : {A : Type 0} (plan : Plan ℕ A) (d : DeviceView) (a : A) (e : DeviceView) → Does AtOnce DeviceDid plan d a e
    → (a ≡ (carried_out plan d).0) × (e ≡ (carried_out plan d).1)
does-carried plan d a e done = carried plan done.0 a d e done.2 done.1

-- a poll from the list has the outcome that the definition computes
pub polled-once : (weight : ℕ) (d : DeviceView) (a : Given ℕ) (e : DeviceView)
    → Does AtOnce DeviceDid (poll_once_plan true weight) d a e
    → (a.once ≡ (polled_once weight d).0) × (e ≡ (polled_once weight d).1)
unfolding polled_once
polled-once weight d a e done =
    let is = does-carried (poll_once_plan true weight) d a e done in (ap (λ (x : Given ℕ). x.once) is.0, is.1)

-- so has the polling by the device's thread
pub polled-by-thread : (most weight : ℕ) (d : DeviceView) (a : ThreadPolls ℕ) (e : DeviceView)
    → Does AtOnce DeviceDid (thread_poll_plan true weight most) d a e
    → (a.polls ≡ (polled_by_thread most weight d).0) × (e ≡ (polled_by_thread most weight d).1)
unfolding polled_by_thread
polled-by-thread most weight d a e done =
    let is = does-carried (thread_poll_plan true weight most) d a e done in (ap (λ (x : ThreadPolls ℕ). x.polls) is.0, is.1)

-- and busy polling
pub polled-busily : (rounds weight : ℕ) (d : DeviceView) (a : BusyPolls ℕ) (e : DeviceView)
    → Does AtOnce DeviceDid (busy_poll_plan sum true weight rounds) d a e
    → (a.report ≡ (polled_busily rounds weight d).0) × (e ≡ (polled_busily rounds weight d).1)
unfolding polled_busily
polled-busily rounds weight d a e done =
    let is = does-carried (busy_poll_plan sum true weight rounds) d a e done in (ap (λ (x : BusyPolls ℕ). x.report) is.0, is.1)

-- two plans, one after the other, have the result of executing both on the device alone
pub carried-then : {A B : Type 0} (plan : Plan ℕ A) (next : A → Plan ℕ B) (d : DeviceView)
    → carried_out (plan >>= next) d ≡ (let done = carried_out plan d in carried_out (next done.0) done.1)
unfolding carried_out
carried-then (ends a) next d = refl
carried-then (asks c go) next d = carried-then (go (answered c d.side.napi)) next (acted (answered c d.side.napi) d)
carried-then (acts o plan) next d = carried-then plan next (acted o d)
carried-then (polls weight go) next d = carried-then (go (take weight d.side.packets)) next (device_polled weight d)

-- ---- single calls

pub does-call : {A : Type 0} (c : Call) (o : Operation) (go : Operation → A) (d e : DeviceView) → Answers c o → IsAnswer o d.side.napi
    → e ≡ acted o d → Does AtOnce DeviceDid (asks c (λ x. ends (go x))) d (go o) e
does-call c o go d e a i is = (made o ∷ [], (i, is), (o, o ∷ [], [], a, refl, (refl, refl), refl))

pub does-act : (o : Operation) (d e : DeviceView) → IsAnswer o d.side.napi → e ≡ acted o d → Does AtOnce DeviceDid (makes o) d tt e
does-act o d e i is = (made o ∷ [], (i, is), (o ∷ [], [], refl, (refl, refl), refl))

pub took-hands : (taken : Bool) (k : Kind) (s : State) → (taken ≡ true → s.flags.in_busy_poll ≡ false)
    → let t = after s (event (taker_of k) (Take k taken)) in MatchBool taken (CallerPolls (poller_in t.place) false t) (Unit {0})
took-hands true k s idle = (refl, idle refl)
took-hands false k s idle = tt

idle : (d s b : Bool) → not (d || (s || b)) ≡ false → ¬ ((d ≡ false) × (s ≡ false) × (b ≡ false))
idle d s b e = λ may. cc (rw (may.0, may.1, may.2) at e)

pub does-busy-take : (taken : Bool) (d e : DeviceView) → taken ≡ is_idle d.side.napi → e ≡ with_napi (busy_taken taken d.side.napi) d
    → Does AtOnce DeviceDid busy_takes d taken e
does-busy-take true d e reply is = does-call call.BusyTake BusyTake is_taken d e refl (sym reply) is
does-busy-take false d e reply is =
    does-call call.BusyTake (Look (seen_of d.side.napi)) is_taken d e
    (idle d.side.napi.flags.disable d.side.napi.flags.sched d.side.napi.flags.in_busy_poll (sym reply)) refl is

-- a poll takes the ring's next packets
take-min : (weight : ℕ) (xs : List ℕ) → take (min weight (length xs)) xs ≡ take weight xs
take-min weight xs = by (nat_le weight (length xs)) refl
  where
    by : (b : Bool) → nat_le weight (length xs) ≡ b → take (min weight (length xs)) xs ≡ take weight xs
    by true e = let less : min weight (length xs) ≡ weight = omega (arith, leb-true weight (length xs) e) in rw less refl
    by false e =
        let more = leb-false weight (length xs) e in
        let all : min weight (length xs) ≡ length xs = omega (arith, more) in
        rw all (take_all (length xs) xs (omega arith) ∙ sym (take_all weight xs (omega (arith, more))))

pub does-poll : (weight : ℕ) (d e : DeviceView) (work load : ℕ) → e ≡ device_polled weight d → work ≡ given_of weight d.side
    → load ≡ polled_bytes weight d.side
    → (packets : List ℕ) × Does AtOnce DeviceDid (gives weight) d packets e × (load ≡ sum packets) × (work ≡ length packets)
does-poll weight d e work load is works loads =
    let all = d.side.packets in
    let many = length-take weight all in (
      take weight all,
      (gave weight (take weight all) ∷ [], (refl, is), (take weight all, [], omega (arith, many), (refl, refl), refl)),
      loads ∙ ap sum (take-min weight all),
      works ∙ sym many,
    )

-- a completion that doesn't return Held, by the owner of the instance
pub does-complete : (d e : DeviceView) (again : Option Kind) → IsDevicePolled d
    → again ≡ handed_again (complete_reply d.side.napi) d.side.napi
    → e ≡ record (with_napi (done_by (poller_in d.side.napi.place) (complete_reply d.side.napi) d.side.napi) d) {
      counts = counted_after (Complete (if is_some again then Again else Released)) d.counts;
    }
    → Does AtOnce DeviceDid (completed true) d (next_of again) e
does-complete d e again hand to is = by d.side.napi.flags.missed refl
  where
    s : State
    s = d.side.napi

    by : (missed : Bool) → s.flags.missed ≡ missed → Does AtOnce DeviceDid (completed true) d (next_of again) e
    by true m =
        let reply : complete_reply s ≡ Again = rw (hand.1, m) refl in
        let some : again ≡ Some (state_kind s) = rw reply at to in
        let x = seen_of (after s (event 0 (Complete Again))) in
        let k = state_kind s in
        rw some (
          made (Complete Again) ∷ made (Look x) ∷ made (Hand k) ∷ [],
          (ap (λ (r : Done). Complete r) (sym reply), (refl, (refl, rw (reply, some) at is))),
          (
            Complete Again,
            Complete Again ∷ [],
            made (Look x) ∷ made (Hand k) ∷ [],
            refl,
            refl,
            (Look x, Look x ∷ [], made (Hand k) ∷ [], refl, refl, (Hand k ∷ [], [], refl, (refl, refl), refl), refl),
            refl,
          ),
        )
    by false m =
        let reply : complete_reply s ≡ Released = rw (hand.1, m) refl in
        let none : again ≡ None = rw reply at to in
        rw none (
          made (Complete Released) ∷ [],
          (ap (λ (r : Done). Complete r) (sym reply), rw (reply, none) at is),
          (Complete Released, Complete Released ∷ [], [], refl, refl, (refl, refl), refl),
        )

-- ---- a receive side that isn't exact: the calls follow the rule, by some operations

-- with some actions, the plan has this result
abbrev pub Can : {A : Type 0} → Plan ℕ A → A → Type 0
Can plan a = (deeds : List (Action ℕ)) × Follows AtOnce plan deeds a

pub weaken : {A : Type 0} (exact : Bool) (plan : Plan ℕ A) (d : DeviceView) (a : A) (e : DeviceView) → Does AtOnce DeviceDid plan d a e
    → Does AtOnce (DidIf exact) plan d a e
weaken exact plan d a e p = (p.0, λ x. p.1, p.2)

pub polled-once-if : (exact : Bool) (weight : ℕ) (d : DeviceView) (a : Given ℕ) (e : DeviceView) → exact ≡ true
    → Does AtOnce (DidIf exact) (poll_once_plan true weight) d a e
    → (a.once ≡ (polled_once weight d).0) × (e ≡ (polled_once weight d).1)
polled-once-if exact weight d a e x p = polled-once weight d a e (p.0, p.1 x, p.2)

pub polled-by-thread-if : (exact : Bool) (most weight : ℕ) (d : DeviceView) (a : ThreadPolls ℕ) (e : DeviceView) → exact ≡ true
    → Does AtOnce (DidIf exact) (thread_poll_plan true weight most) d a e
    → (a.polls ≡ (polled_by_thread most weight d).0) × (e ≡ (polled_by_thread most weight d).1)
polled-by-thread-if exact most weight d a e x p = polled-by-thread most weight d a e (p.0, p.1 x, p.2)

pub polled-busily-if : (exact : Bool) (rounds weight : ℕ) (d : DeviceView) (a : BusyPolls ℕ) (e : DeviceView) → exact ≡ true
    → Does AtOnce (DidIf exact) (busy_poll_plan sum true weight rounds) d a e
    → (a.report ≡ (polled_busily rounds weight d).0) × (e ≡ (polled_busily rounds weight d).1)
polled-busily-if exact rounds weight d a e x p = polled-busily rounds weight d a e (p.0, p.1 x, p.2)

pub either : {A : Type 0} (exact : Bool) (plan : Plan ℕ A) (d : DeviceView) (a : A) (e : DeviceView)
    → (exact ≡ true → Does AtOnce DeviceDid plan d a e) → Can plan a → Does AtOnce (DidIf exact) plan d a e
either true plan d a e told free = weaken true plan d a e (told refl)
either false plan d a e told free = (free.0, λ x. cc x, free.1)

pub free-call : {A : Type 0} (c : Call) (o : Operation) (go : Operation → A) → Answers c o
    → Can (asks c (λ x. ends (go x))) (go o)
free-call c o go a = (made o ∷ [], (o, o ∷ [], [], a, refl, (refl, refl), refl))

pub free-act : (o : Operation) → Can (makes o) tt
free-act o = (made o ∷ [], (o ∷ [], [], refl, (refl, refl), refl))

pub free-busy-take : (taken : Bool) → Can busy_takes taken
free-busy-take true = free-call call.BusyTake BusyTake is_taken refl
free-busy-take false =
    free-call call.BusyTake (Look (record { flags = record no_flags { sched = true }; handed = None })) is_taken (λ may. cc may.1)

abbrev zeros : ℕ → List ℕ
zeros zero = []
zeros (suc n) = 0 ∷ zeros n

zeros-length : (n : ℕ) → length (zeros n) ≡ n
zeros-length zero = refl
zeros-length (suc n) = ap suc (zeros-length n)

zeros-sum : (n : ℕ) → sum (zeros n) ≡ 0
zeros-sum zero = refl
zeros-sum (suc n) = zeros-sum n

sum-of : (load n : ℕ) → load ≡ sum (load ∷ zeros n)
sum-of load n = omega (arith, sum_by-cons (λ (m : ℕ). m) load (zeros n), zeros-sum n)

pub free-poll : (weight work load : ℕ) → work ≤ weight → (work ≡ 0 → load ≡ 0)
    → (packets : List ℕ) × Can (gives weight) packets × (load ≡ sum packets) × (work ≡ length packets)
free-poll weight zero load most least =
    ([], (gave weight [] ∷ [], ([], [], omega arith, (refl, refl), refl)), least refl, refl)
free-poll weight (suc n) load most least =
    let packets = load ∷ zeros n in (
      packets,
      (gave weight packets ∷ [], (packets, [], omega (arith, most, zeros-length n), (refl, refl), refl)),
      sum-of load n,
      omega (arith, zeros-length n),
    )

pub either-poll : (exact : Bool) (weight : ℕ) (d e : DeviceView) (work load : ℕ) → (exact ≡ true → e ≡ device_polled weight d)
    → (exact ≡ true → work ≡ given_of weight d.side) → (exact ≡ true → load ≡ polled_bytes weight d.side) → work ≤ weight
    → (work ≡ 0 → load ≡ 0)
    → (packets : List ℕ) × Does AtOnce (DidIf exact) (gives weight) d packets e × (load ≡ sum packets) × (work ≡ length packets)
either-poll true weight d e work load is works loads most least =
    let p = does-poll weight d e work load (is refl) (works refl) (loads refl) in
    (p.0, weaken true (gives weight) d p.0 e p.1, p.2, p.3)
either-poll false weight d e work load is works loads most least =
    let p = free-poll weight work load most least in
    (p.0, either false (gives weight) d p.0 e (λ x. cc x) p.1, p.2, p.3)

abbrev queued : Bool → Seen
queued threaded = record { flags = record no_flags { threaded = threaded }; handed = None }

pub free-complete : (again : Option Kind) → Can (completed true) (next_of again)
free-complete None = (made (Complete Released) ∷ [], (Complete Released, Complete Released ∷ [], [], refl, refl, (refl, refl), refl))
free-complete (Some Kind.List) = (
  made (Complete Again) ∷ made (Look (queued false)) ∷ made (Hand Kind.List) ∷ [],
  (
    Complete Again,
    Complete Again ∷ [],
    made (Look (queued false)) ∷ made (Hand Kind.List) ∷ [],
    refl,
    refl,
    (
      Look (queued false),
      Look (queued false) ∷ [],
      made (Hand Kind.List) ∷ [],
      refl,
      refl,
      (Hand Kind.List ∷ [], [], refl, (refl, refl), refl),
      refl,
    ),
    refl,
  ),
)
free-complete (Some Kind.Thread) = (
  made (Complete Again) ∷ made (Look (queued true)) ∷ made (Hand Kind.Thread) ∷ [],
  (
    Complete Again,
    Complete Again ∷ [],
    made (Look (queued true)) ∷ made (Hand Kind.Thread) ∷ [],
    refl,
    refl,
    (
      Look (queued true),
      Look (queued true) ∷ [],
      made (Hand Kind.Thread) ∷ [],
      refl,
      refl,
      (Hand Kind.Thread ∷ [], [], refl, (refl, refl), refl),
      refl,
    ),
    refl,
  ),
)

pub hands-if : (taken : Bool) (P : Type 0) → (taken ≡ true → P) → MatchBool taken P (Unit {0})
hands-if true P h = h refl
hands-if false P h = tt
