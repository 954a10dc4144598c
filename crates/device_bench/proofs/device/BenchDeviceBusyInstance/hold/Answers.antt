use Rattle.std.proofs.Common.{refl}
use Rattle.napi_model.specs.declared.event.{Operation.TheVariants.Complete, Done.TheVariants.Held}
use Rattle.poll_runs.specs.Polling.{makes}
use Rattle.device_bench.proofs.InstanceFacts.{does-act, weaken}
use Rattle.device_bench.proofs.device.BenchDeviceBusyInstance.hold.Goals as goal

pub returns-clause-does : goal.returns-clause-does
returns-clause-does g c =
    let hand = rw (← c.self.view_is) at c.requires in
    rw (← c.self.view_is)
    (weaken g.S.ReceiveSide.exact (makes (Complete Held)) _ tt _
    (does-act (Complete Held) _ _ (rw hand.1 refl) (rw (c.hold.ensures, c.saturating_add-self-inside.ensures) refl)))
