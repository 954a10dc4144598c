use Rattle.std.proofs.Common.{◌≡◌, ◌++◌, string_bytes}
use Rattle.{napi_series.specs.Series.{lines_to, names, names_end}, replay_rows.specs.After.IsAfter}
use Rattle.napi_series.proofs.series.series_of.Given as goal

abbrev pub invariant-loop-index : goal.invariant-loop-index
invariant-loop-index l = record {
  after : IsAfter l.settings.replay l.rows l.index l.replay;
  text : string_bytes l.text ≡ (names ++ names_end l.settings.options.polls) ++ lines_to l.settings l.rows l.index;
}
