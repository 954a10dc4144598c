use Rattle.{std.proofs.lemmas.Result.err_from_is_err_and, replay_rows.proofs.PlayFacts.unwritten-by}
use Rattle.replay_raised.proofs.raised.Raising.play.Goals as goal

pub returns-in_err-play_row-clause-unwritten : goal.returns-in_err-play_row-clause-unwritten
returns-in_err-play_row-clause-unwritten c =
    let p = err_from_is_err_and c.from_residual.result c.from_residual.ensures.1 in
    rw (p.1, p.2) (unwritten-by _ c.in_err-play_row.ensures.own)
