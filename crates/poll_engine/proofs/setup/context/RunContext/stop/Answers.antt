use Rattle.std.proofs.Common.{◌≡◌, arith}
use Rattle.poll_engine.specs.Stops.{was_going}
use Rattle.poll_engine.proofs.setup.context.RunContext.stop.Goals as goal

pub returns-clause-going : goal.returns-clause-going
returns-clause-going g c = λ _.
    let unshut : c.load.result ≡ 0 = grind (arith, c.if-load-ne0.false) in
    was_going c.args.self.now c.args.at.now c.if-is_refused.false unshut
