use Rattle.std.proofs.{Common.rules, lemmas.Result.err_from_is_err_and}
use Rattle.replay_rows.proofs.PlayFacts.{unwritten-by}
use Rattle.replay_rows.proofs.replay.Replay.write_report.Goals as goal

pub returns-in_err-play_rows-clause-output : goal.returns-in_err-play_rows-clause-output
returns-in_err-play_rows-clause-output g c =
    let r = c.from_residual-in_err-play_rows in
    let p = err_from_is_err_and r.result r.ensures.1 in
    let other = unwritten-by _ c.in_err-play_rows.ensures.own in
    rw (p.1, p.2) (λ failed. absurd (other failed), λ _. search rules)
