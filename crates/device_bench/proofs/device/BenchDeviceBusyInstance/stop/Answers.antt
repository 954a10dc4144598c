use Rattle.std.proofs.Common.{refl}
use Rattle.napi_model.specs.declared.event.Operation.TheVariants.{BusyStop}
use Rattle.poll_runs.specs.Polling.{makes}
use Rattle.device_bench.proofs.InstanceFacts.{does-act, either, free-act}
use Rattle.device_bench.proofs.device.BenchDeviceBusyInstance.stop.Goals as goal

pub returns-clause-does : goal.returns-clause-does
returns-clause-does g c =
    rw (← c.self.view_is)
    (either g.S.ReceiveSide.exact (makes BusyStop) _ tt _ (λ x. does-act BusyStop _ _ refl (rw (c.stop.ensures.side x) refl))
    (free-act BusyStop))
