use Rattle.std.proofs.Common.{refl}
use Rattle.napi_model.specs.{Step.seen_of, declared.event.Operation.TheVariants.Look}
use Rattle.poll_runs.specs.Polling.{disabling, flags_in}
use Rattle.device_bench.proofs.InstanceFacts.{does-call, weaken}
use Rattle.device_bench.proofs.device.BenchDeviceInstance.is_disabling.Goals as goal
use Rattle.napi_model.specs.declared.event.Call.TheVariants as call

pub returns-clause-does : goal.returns-clause-does
returns-clause-does g c =
    rw c.is_pending.ensures
    (weaken g.S.ReceiveSide.exact disabling _ _ _
    (does-call call.Look (Look (seen_of c.args.self.now.side.napi)) (λ o. (flags_in o).disable) _ _ refl refl refl))
