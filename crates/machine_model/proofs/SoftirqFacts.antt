-- What a poll reports to a run over a list of one thread.
use Rattle.std.{proofs.{Common.{◌≡◌, ℕ, ◌+◌, true, false, Option, Some, None, List, [], ◌∷◌, ◌++◌, refl}}, specs.Prelude.is_some}
use Rattle.std.specs.{Prelude.{if◌then◌else◌}}
use Rattle.poll_runs.specs.{Driven.SameSettings, Plain.{HasListRoom, OwnPushes, all_held}, Polls.{is_arrival, is_repoll}, Turn.HandsOn}
use Rattle.poll_runs.specs.declared.{bench.Once.Once, polling_run.PollingRun.PollingRun}
use Rattle.machine_model.specs.{Shown.run_view, Softirq.{SoftirqView, softirq_polled}}

pub polled-exact : (run after : PollingRun) (list left : List ℕ) (began : ℕ) (once : Once) (asked : Option ℕ) → run.asked ≡ asked
    → is_some asked ≡ true
    → is_arrival once.next ≡ false
    → ((id : ℕ) → run.asked ≡ Some id → HandsOn all_held OwnPushes HasListRoom list (is_arrival once.next) id left)
    → ((id : ℕ) → run.asked ≡ Some id → after.repoll ≡ run.repoll ++ (if is_repoll once.next then id ∷ [] else []))
    → after.own ≡ run.own → after.asked ≡ None → (after.polls ≡ run.polls + 1) × (after.work ≡ run.work + once.work)
    → SameSettings run after
    → let before : SoftirqView = record { list = list; run = Some (run_view run); began = began } in
    let later : SoftirqView = record { list = left; run = Some (run_view after); began = began } in later ≡ softirq_polled once before
unfolding softirq_polled
polled-exact run after list left began once (Some id) same some none hands repoll own rests counts settings =
    let stays : left ≡ list = rw none at (hands id same) in
    rw (stays, repoll id same, own, rests, counts.0, counts.1, settings.budget, settings.weight, settings.window, same) refl
polled-exact run after list left began once None same some none hands repoll own rests counts settings = cc some
