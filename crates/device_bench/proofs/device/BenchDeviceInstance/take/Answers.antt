use Rattle.std.proofs.Common.{ap, refl}
use Rattle.{napi_model.specs.declared.event.Operation.TheVariants.Take, poll_runs.specs.Polling.{is_taken, takes}}
use Rattle.device_bench.proofs.InstanceFacts.{does-call, either, free-call, hands-if}
use Rattle.device_bench.proofs.device.BenchDeviceInstance.take.Goals as goal
use Rattle.napi_model.specs.declared.event.Call.TheVariants as call

pub returns-clause-does : goal.returns-clause-does
returns-clause-does g c =
    let e = c.take.ensures in
    rw (← c.self.view_is)
    (either g.S.ReceiveSide.exact (takes c.args.kind) _ c.take.result _
    (λ x. does-call (call.Take c.args.kind) (Take c.args.kind c.take.result) is_taken _ _ refl (ap (Take c.args.kind) (e.reply x))
    (rw (e.side x) refl)) (free-call (call.Take c.args.kind) (Take c.args.kind c.take.result) is_taken refl))

pub returns-clause-hands : goal.returns-clause-hands
returns-clause-hands g c = hands-if c.take.result _ c.take.ensures.hand
