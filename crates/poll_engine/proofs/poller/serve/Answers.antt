use Rattle.std.proofs.Common.{◌∷◌, ◌++◌, []}
use Rattle.poll_runs.proofs.PollFacts.{chain-push}
use Rattle.poll_engine.proofs.poller.serve.Goals as goal

pub loop-preserved-then-turn : goal.loop-preserved-then-turn
loop-preserved-then-turn g c =
    let now = c.loop.invariant in (now.0 ++ c.turn.result ∷ [], chain-push _ _ _ _ _ _ now.1 c.turn.ensures)

pub loop-preserved : goal.loop-preserved
loop-preserved g c =
    let now = c.loop.invariant in (now.0 ++ c.turn.result ∷ [], chain-push _ _ _ _ _ _ now.1 c.turn.ensures)
