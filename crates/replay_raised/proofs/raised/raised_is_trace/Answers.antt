use Rattle.replay_raised.proofs.RaisedFacts.{raised-is-trace}
use Rattle.replay_raised.proofs.raised.raised_is_trace.Goals as goal

pub returns : goal.returns
returns c = raised-is-trace
