-- A run over the poll list is the one that the definition computes, and the list never has more entries than there are devices
-- that wait on it.
use Rattle.std.proofs.Common.{◌≡◌, true, ℕ, ◌+◌, ◌≤◌, cond, List, [], ◌∷◌, ◌++◌, length, length-append, take, drop, ap, refl, arith}
use Rattle.{std.{proofs.lemmas.List.{length-drop, length-take, Sums.sum_by-cons}, specs.Prelude.sum_by}}
use Rattle.device_bench.specs.{Bench.{BenchDevices, polled_at}, DeviceBench.{IsListPoll, ShowsTransmits, devices_of, waiting_of}}
use Rattle.device_bench.specs.{Transmits.KeepsTransmits, Waiting.leaves, declared.bench.DeviceBench.DeviceBench}
use Rattle.device_bench.specs.declared.receive_side.ReceiveSide.{Ghosts}
use Rattle.poll_runs.specs.{Function.run_report, Laws.IsPlainRun, Polls.{At, Chain, Poll, queued_by, ids, is_arrival, is_repoll, repolled}}
use Rattle.poll_runs.specs.declared.{bench.{Next.{Next, TheVariants.{Absent, Gone, Again, Repoll}}}, run.RunReport.RunReport}
use Rattle.poll_runs.proofs.{FunctionFacts.run-is-shown, PlainFacts.list-afterwards, PollFacts.{arrivals-append, arrivals-one, length-ids}}
use Rattle.{poll_runs.proofs.PollFacts.{repolled-append, repolled-one}, replay_rows.specs.Run.replay_run}
use Rattle.text_io.specs.declared.settings.ReplaySettings.{ReplaySettings}
use Rattle.napi_model.specs.declared.state.Kind.TheVariants as kind

abbrev pub Leads : {S Kit End : Type 0} {g : Ghosts S Kit End} → ReplaySettings → DeviceBench S Kit End g → List Poll
    → DeviceBench S Kit End g
    → Type 0
Leads s before polls after = Chain (At IsListPoll s.weight) before polls after

pub transmits-stay : {S Kit End : Type 0} {g : Ghosts S Kit End} (s : ReplaySettings) (before after : DeviceBench S Kit End g)
    (polls : List Poll)
    → Leads s before polls after → KeepsTransmits ShowsTransmits before after
transmits-stay s before after [] leads all shown = rw leads shown
transmits-stay s before after (poll ∷ polls) leads all shown =
    transmits-stay s leads.0 after polls leads.2 all (leads.1.transmits all shown)

-- a run over the devices and a list of one thread
pub record IsRunOf (s : ReplaySettings) (devices : BenchDevices) (list : List ℕ) (polls : List Poll) (after : BenchDevices)
    (left : List ℕ) (report : RunReport) : Type 0 where
  pub polls_are : polls ≡ (replay_run s devices list).0.polls
  pub devices_after : after ≡ (replay_run s devices list).0.bench
  pub list_after : left ≡ (replay_run s devices list).1
  pub reported : report ≡ run_report s.budget s.window (replay_run s devices list).0.polls

-- the law of runs on a view of the bench, for the view that shows its devices
pub only-run : {S Kit End : Type 0} {g : Ghosts S Kit End} (s : ReplaySettings) (before after : DeviceBench S Kit End g)
    (list left : List ℕ) (polls : List Poll) (report : RunReport)
    → g.exact ≡ true → Leads s before polls after → IsPlainRun s.budget s.window list polls left report
    → IsRunOf s (devices_of before) list polls (devices_of after) left report
only-run s before after list left polls report x leads run =
    let is =
    run-is-shown IsListPoll devices_of polled_at (λ b a id weight once h. h.exact x) s.budget s.weight s.window
    s.budget_in.0 s.window_in.0 before after list left polls report leads run in
    record { polls_are = is.0; devices_after = is.1; list_after = is.2; reported = is.3 }

-- ---- room on the poll list

leavers : List Poll → ℕ
leavers polls = sum_by (λ poll. leaves poll.once.next) polls

waits-less : {S Kit End : Type 0} {g : Ghosts S Kit End} (s : ReplaySettings) (before after : DeviceBench S Kit End g)
    (polls : List Poll)
    → g.exact ≡ true → Leads s before polls after → waiting_of before ≤ waiting_of after + leavers polls
unfolding leavers
waits-less s before after [] x leads = rw leads (omega arith)
waits-less s before after (poll ∷ polls) x leads =
    omega (
      arith,
      leads.1.waits x,
      waits-less s leads.0 after polls x leads.2,
      sum_by-cons
          (λ (p : Poll). leaves p.once.next) poll polls,
    )

one-goes : (id : ℕ) (next : Next)
    → length (cond (is_arrival next) (id ∷ []) []) + length (cond (is_repoll next) (id ∷ []) []) + leaves next ≡ 1
one-goes id Absent = refl
one-goes id Gone = refl
one-goes id Repoll = refl
one-goes id (Again kind.List) = refl
one-goes id (Again kind.Thread) = refl

-- each poll's number is queued again, gets a repoll, or leaves
each-goes : (polls : List Poll) → length (queued_by polls) + length (repolled polls) + leavers polls ≡ length polls
unfolding leavers
each-goes [] = refl
each-goes (poll ∷ polls) =
    let arrives : queued_by (poll ∷ polls) ≡ queued_by (poll ∷ []) ++ queued_by polls = arrivals-append (poll ∷ []) polls in
    let repolls : repolled (poll ∷ polls) ≡ repolled (poll ∷ []) ++ repolled polls = repolled-append (poll ∷ []) polls in
    rw (arrives, repolls, arrivals-one poll, repolled-one poll)
    (omega (
      arith,
      length-append (cond (is_arrival poll.once.next) (poll.id ∷ []) []) (queued_by polls),
      length-append (cond (is_repoll poll.once.next) (poll.id ∷ []) []) (repolled polls),
      one-goes poll.id poll.once.next,
      sum_by-cons (λ (p : Poll). leaves p.once.next) poll polls,
      each-goes polls,
    ))

pub run-room : {S Kit End : Type 0} {g : Ghosts S Kit End} (s : ReplaySettings) (before after : DeviceBench S Kit End g)
    (list left : List ℕ) (polls : List Poll) (report : RunReport)
    → g.exact ≡ true → Leads s before polls after → IsPlainRun s.budget s.window list polls left report → length list ≤ waiting_of before
    → length left ≤ waiting_of after
run-room s before after list left polls report x leads run room =
    let afterwards = list-afterwards s.budget s.window list left polls report run in
    let all : List ℕ = list ++ queued_by polls in
    let polled : length (ids polls) ≡ length (take (length polls) all) = ap length afterwards.0 in
    let rest : length left ≡ length (drop (length polls) all ++ repolled polls) = ap length afterwards.1 in
    omega (
      arith,
      polled,
      rest,
      room,
      length-ids polls,
      length-take (length polls) all,
      length-drop (length polls) all,
      length-append list (queued_by polls),
      length-append (drop (length polls) all) (repolled polls),
      each-goes polls,
      waits-less s before after polls x leads,
    )
