use Rattle.std.proofs.Common.{◌∙◌, ◌+◌, ap, refl, arith}
use Rattle.machine_model.specs.Processor.{ProcessorView, delivers, ends_current, poll_looks}
use Rattle.machine_model.specs.Kept.{polled_by}
use Rattle.machine_model.specs.declared.processor.Work.TheVariants.{Nothing}
use Rattle.machine_model.proofs.processor.Processor.end_current.Goals as goal

pub look-requires-in-Packet-clause-polled : goal.look-requires-in-Packet-clause-polled
unfolding delivers
look-requires-in-Packet-clause-polled c =
    ap (λ (v : ProcessorView). polled_by v.work) c.in_ok-deliver-in-Packet.ensures ∙ (rw c.in-Packet.is refl)

pub look-requires-in-Packet-clause-given : goal.look-requires-in-Packet-clause-given
unfolding delivers
look-requires-in-Packet-clause-given c =
    let same = ap (λ (v : ProcessorView). v.settings.weight) c.in_ok-deliver-in-Packet.ensures in
    let within = rw c.in-Packet.is at c.self.invariant.within in
    omega (arith, same, within)

pub returns-in_ok-look-in-Packet : goal.returns-in_ok-look-in-Packet
unfolding ends_current delivers
returns-in_ok-look-in-Packet c =
    let packet = c.in-Packet.packet in
    let delivered = rw (c.spend.ensures, c.saturating_sub.ensures, c.in-Packet.is) at c.in_ok-deliver-in-Packet.ensures in
    rw (← c.self.view_is, c.in-Packet.is)
    (c.in_ok-look-in-Packet.ensures
    ∙ ap (λ (v : ProcessorView). poll_looks packet.device (packet.given + 1) (record v { work = Nothing })) delivered)
