-- Laws about the actions on a device.
use Rattle.std.specs.Prelude.{ℕ, List, [], ◌∷◌, ◌++◌}
use Rattle.std.proofs.Common.{subst}
use Rattle.{poll_runs.specs.Plan.{Action, gave, made}}
use Rattle.{device_bench.specs.{Device.{acted, device_polled}, DeviceView.DeviceView, Instance.DeviceDid}}

pub did_joins : (a b c : DeviceView) (first second : List (Action ℕ)) → DeviceDid a first b → DeviceDid b second c
    → DeviceDid a (first ++ second) c
did_joins a b c [] second f g = subst (λ (x : DeviceView). DeviceDid x second c) f g
did_joins a b c (made o ∷ deeds) second f g = (f.0, did_joins (acted o a) b c deeds second f.1 g)
did_joins a b c (gave weight packets ∷ deeds) second f g = (f.0, did_joins (device_polled weight a) b c deeds second f.1 g)
