use Rattle.std.proofs.Common.{◌≡◌, true, ◌≤◌, ◌-◌, ◌++◌, None, List, length, vec_capacity}
use Rattle.device_bench.specs.DeviceBench.{IsListPoll, ShowsTransmits, devices_of}
use Rattle.device_bench.specs.Transmits.{Transmits}
use Rattle.poll_runs.specs.{Driven.{IsGoing, held}, Plain.{HasListRoom, NothingBehind, OwnPushes, all_held}, Polls.{At, Chain, Poll}}
use Rattle.replay_rows.specs.RunLog.{logged, polls_in}
use Rattle.replay_rows.proofs.run_log.run_logged.Given as goal

abbrev pub invariant-loop-device : goal.invariant-loop-device
invariant-loop-device g l = record {
  going : IsGoing all_held OwnPushes NothingBehind l.fn.list (polls_in l.polls.items) l.list l.run;
  rests : l.run.asked ≡ None;
  room : HasListRoom l.list (held l.run);
  budget : l.run.budget ≡ l.settings.budget;
  weight : l.run.weight ≡ l.settings.weight;
  window : l.run.window ≡ l.settings.window;
  chain : Chain (At IsListPoll l.settings.weight) l.fn.bench (polls_in l.polls.items) l.bench;
  count : length l.polls.items ≡ l.run.polls;
  capacity : l.settings.window ≤ vec_capacity l.polls;
  shows : (all : Transmits) → ShowsTransmits l.fn.bench all → ShowsTransmits l.bench all;
  logged : g.S.ReceiveSide.exact ≡ true → (all : Transmits) → ShowsTransmits l.fn.bench all → (more : List Poll)
      → logged l.settings all (devices_of l.fn.bench) (polls_in l.polls.items ++ more)
      ≡ l.polls.items ++ logged l.settings all (devices_of l.bench) more;
}

abbrev pub decreases-loop-device : goal.decreases-loop-device
decreases-loop-device g l = l.settings.window - l.run.polls
