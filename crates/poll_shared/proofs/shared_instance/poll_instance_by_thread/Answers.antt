use Rattle.{std.proofs.Common.{refl, true}, poll_runs.specs.Polling.thread_poll_plan}
use Rattle.poll_shared.proofs.SeatFacts.{batch-has, rises}
use Rattle.poll_shared.proofs.shared_instance.poll_instance_by_thread.Goals as goal

pub returns-clause-polls : goal.returns-clause-polls
returns-clause-polls g c =
    let p = c.poll_thread_of-report.ensures.does in
    let r = rises (thread_poll_plan true c.args.weight c.args.most) _ _ c.args.caller c.rise.result _ tt p.2 refl c.rise.ensures in
    (p.0, p.2.0, r.0, rw (batch-has (λ b. b.items) _ _ p.1 _ c.clear.ensures p.3) p.2.2, r.1, p.4)

pub returns-clause-seat : goal.returns-clause-seat
returns-clause-seat g c =
    let p = c.poll_thread_of-report.ensures.does in
    (rises (thread_poll_plan true c.args.weight c.args.most) _ _ c.args.caller c.rise.result _ tt p.2 refl c.rise.ensures).0.seat
