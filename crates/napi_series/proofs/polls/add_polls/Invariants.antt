use Rattle.std.proofs.Common.{◌≡◌, ◌++◌, List, take, string_bytes}
use Rattle.{device_rows.specs.declared.row.Row.Row, napi_series.specs.{RunList.IsListAfter, Series.poll_lines}}
use Rattle.text_io.specs.declared.settings.ReplaySettings.{ReplaySettings}
use Rattle.replay_rows.specs.{After.{IsAfter, is_used_after}, RunLog.{list_before, polls_of_row}}
use Rattle.napi_series.proofs.polls.add_polls.Given as goal

abbrev pub invariant-loop-k : goal.invariant-loop-k
invariant-loop-k l = (s : ReplaySettings) (rows : List Row) → IsAfter s rows l.number l.replay
    → IsListAfter (list_before s rows l.number) (take l.k (polls_of_row s rows l.number)) l.list
    × (string_bytes l.text ≡ string_bytes l.initial.text
    ++ poll_lines l.number l.row (is_used_after rows l.number) (list_before s rows l.number) (polls_of_row s rows l.number) l.k)
