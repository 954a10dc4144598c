use Rattle.std.proofs.Common.{append_assoc}
use Rattle.replay_rows.proofs.report.add_napi_line.Goals as goal

pub returns : goal.returns
returns c = rw (c.in_ok-push_str.ensures.bytes, c.in_ok-add_held.ensures, c.in_ok-write.ensures.bytes) (simp append_assoc)
