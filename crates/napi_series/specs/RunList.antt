-- The poll list in the course of a run.
use Rattle.std.specs.Prelude.{◌≡◌, ℕ, List, ◌++◌}
use Rattle.poll_runs.specs.Polls.{queued_by, repolled}
use Rattle.napi_series.specs.declared.polls.RunList.{RunList}
use Rattle.replay_rows.specs.{RunLog.polls_in, declared.run_log.RunPoll.RunPoll}

-- the state after these polls of a run over this list
pub record IsListAfter (list : List ℕ) (polls : List RunPoll) (run : RunList) : Type 0 where
  pub queue : run.queue.items ≡ list ++ queued_by (polls_in polls)
  pub repolls : run.repolls.items ≡ repolled (polls_in polls)
