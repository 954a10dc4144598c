use Rattle.{std.proofs.Common.{refl}, poll_runs.specs.Polling.poll_once_plan}
use Rattle.poll_shared.proofs.{SeatFacts.{batch-has, rises}, TriesFacts.once-tells}
use Rattle.poll_shared.proofs.shared_instance.poll_instance.Goals as goal

pub returns-clause-packets : goal.returns-clause-packets
returns-clause-packets g c =
    let p = c.poll_once_of-once.ensures.does in
    let r = rises (poll_once_plan c.args.thread c.args.weight) _ _ c.args.caller c.rise.result _ tt p.1 refl c.rise.ensures in
    rw (batch-has (λ b. b.items) _ _ p.0 _ c.clear.ensures p.2, ← (once-tells c.args.thread c.args.weight p.1.0 _ p.1.2).0) r.1
