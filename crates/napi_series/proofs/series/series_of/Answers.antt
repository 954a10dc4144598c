use Rattle.std.proofs.Common.{◌≡◌, ◌+◌, append_assoc, append-nil, suc, arith}
use Rattle.napi_series.specs.Series.{lines_to}
use Rattle.napi_series.proofs.series.series_of.Goals as goal

pub loop-index-init : goal.loop-index-init
unfolding lines_to
loop-index-init c = record {
  after = c.in_ok-replay.ensures c.args.settings.now.replay c.args.rows.now;
  text = rw (c.in_ok-push_str.ensures.bytes, c.names_end.ensures, c.in_ok-text.ensures.ok) (simp append-nil);
}

pub loop-index-preserved : goal.loop-index-preserved
unfolding lines_to
loop-index-preserved c =
    let next : c.loop-index.index + 1 ≡ suc c.loop-index.index = omega arith in
    record {
      after = c.in_ok-play_row.ensures.after;
      text = rw (next, c.in_ok-add_part.ensures, c.loop-index.invariant.text) (simp append_assoc);
    }
