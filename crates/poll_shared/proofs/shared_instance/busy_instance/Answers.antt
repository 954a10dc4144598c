use Rattle.{std.proofs.Common.{refl, true}, poll_runs.specs.Polling.busy_poll_plan, rx_ring.specs.ReceiveRing.bytes_of}
use Rattle.poll_shared.proofs.SeatFacts.{batch-has, rises}
use Rattle.poll_shared.proofs.shared_instance.busy_instance.Goals as goal

pub returns-clause-polls : goal.returns-clause-polls
returns-clause-polls g c =
    let p = c.poll_busy_of-report.ensures.does in
    let plan = busy_poll_plan bytes_of true c.args.weight c.args.rounds in
    let r = rises plan _ _ c.args.caller c.rise.result _ tt p.1 refl c.rise.ensures in
    (p.1.0, r.0, rw (batch-has (λ b. b.items) _ _ p.0 _ c.clear.ensures p.2) p.1.2, r.1)
