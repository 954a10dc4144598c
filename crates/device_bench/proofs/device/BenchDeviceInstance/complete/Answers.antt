use Rattle.std.proofs.Common.{refl}
use Rattle.poll_runs.specs.Polling.{completed, next_of}
use Rattle.std.proofs.Common.{true}
use Rattle.device_bench.proofs.InstanceFacts.{does-complete, either, free-complete}
use Rattle.device_bench.proofs.device.BenchDeviceInstance.complete.Goals as goal

pub returns-clause-does : goal.returns-clause-does
returns-clause-does g c =
    let e = c.complete-again.ensures in
    rw (← c.self.view_is)
    (either g.S.ReceiveSide.exact (completed true) _ (next_of c.complete-again.result) _
    (λ x. does-complete _ _ _ (rw (← c.self.view_is) at c.requires) (e.kind x)
    (rw (e.side x, c.count_completion.ensures, c.is_some.ensures) refl)) (free-complete c.complete-again.result))
