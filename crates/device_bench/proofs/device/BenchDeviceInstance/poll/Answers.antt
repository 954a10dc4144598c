use Rattle.{std.proofs.Common.refl, device_bench.{specs.Device.device_polled, proofs.InstanceFacts.either-poll}}
use Rattle.device_bench.proofs.device.BenchDeviceInstance.poll.Goals as goal

pub returns-clause-does : goal.returns-clause-does
unfolding device_polled
returns-clause-does g c =
    let e = c.receive-count.ensures in
    rw (← c.self.view_is)
    (either-poll g.S.ReceiveSide.exact c.args.weight _ _ _ _ (λ x. rw (e.side x, c.count_poll.ensures, e.count x, e.bytes x) refl) e.count
    e.bytes e.most e.least)
