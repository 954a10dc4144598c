use Rattle.std.proofs.Common.{refl}
use Rattle.napi_model.specs.declared.{event.Operation.TheVariants.Hand, state.Kind.TheVariants.List}
use Rattle.poll_runs.specs.Polling.{makes}
use Rattle.device_bench.proofs.InstanceFacts.{does-act, either, free-act}
use Rattle.device_bench.proofs.device.BenchDeviceInstance.requeue.Goals as goal

pub returns-clause-does : goal.returns-clause-does
returns-clause-does g c =
    rw (← c.self.view_is)
    (either g.S.ReceiveSide.exact (makes (Hand List)) _ tt _ (λ x. does-act (Hand List) _ _ refl (rw (c.requeue.ensures.side x) refl))
    (free-act (Hand List)))
