use Rattle.std.proofs.Common.{refl}
use Rattle.poll_runs.specs.Polling.{busy_takes}
use Rattle.device_bench.proofs.InstanceFacts.{does-busy-take, either, free-busy-take, hands-if}
use Rattle.device_bench.proofs.device.BenchDeviceBusyInstance.busy_take.Goals as goal

pub returns-clause-does : goal.returns-clause-does
returns-clause-does g c =
    let e = c.busy_take.ensures in
    rw (← c.self.view_is)
    (either g.S.ReceiveSide.exact busy_takes _ c.busy_take.result _
    (λ x. does-busy-take c.busy_take.result _ _ (e.reply x) (rw (e.side x) refl)) (free-busy-take c.busy_take.result))

pub returns-clause-hands : goal.returns-clause-hands
returns-clause-hands g c = hands-if c.busy_take.result _ c.busy_take.ensures.hand
