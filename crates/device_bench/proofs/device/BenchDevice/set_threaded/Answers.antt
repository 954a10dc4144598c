use Rattle.{std.proofs.Common.refl, device_bench.specs.Device.after_threaded}
use Rattle.device_bench.proofs.device.BenchDevice.set_threaded.Goals as goal

pub returns : goal.returns
unfolding after_threaded
returns g c = λ x. rw (← c.self.view_is, c.set_threaded.ensures.side x) refl
