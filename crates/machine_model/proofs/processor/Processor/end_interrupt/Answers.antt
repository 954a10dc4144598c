use Rattle.std.proofs.Common.{◌≡◌, ◌∙◌, None, Some, ap, false, sym}
use Rattle.device_places.specs.Places.{at, changed}
use Rattle.machine_model.specs.{Device.raised_again, Devices.next_packet_at}
use Rattle.machine_model.specs.Processor.{ProcessorView, delivers, delivers_oldest, ends_interrupt, is_polling}
use Rattle.machine_model.proofs.{KeptFacts.{kept-lone}, PendingFacts.taken-none}
use Rattle.machine_model.proofs.processor.Processor.end_interrupt.Goals as goal
use Rattle.machine_model.proofs.processor.Processor.end_interrupt.Goals.{in-Some+in_ok-deliver, in_default}

pub invariant_of-self-2 : goal.invariant_of-self-2
unfolding delivers
invariant_of-self-2 c =
    let i = c.self-2.inside in
    let lone : is_polling c.self.inside.settings ≡ false = rw (← c.self.view_is) at c.requires in
    let same : i.settings ≡ c.self.inside.settings =
    elim c.match-take_next.branch [
      | in-Some+in_ok-deliver w ↦ ap (λ (v : ProcessorView). v.settings) (c.self-2.view_is ∙ (w.self-is ∙ w.in_ok-deliver.ensures))
      | in_default w ↦ ap (λ (v : ProcessorView). v.settings) (c.self-2.view_is ∙ w.self-is)
    ] in
    kept-lone i.settings i.work i.devices _ i.softirq c.self-2.invariant (rw same lone)

pub returns : goal.returns
unfolding ends_interrupt
returns c =
    let n = c.args.number in
    let ds = c.self.inside.devices in
    let same : c.match-take_next.self ≡ delivers_oldest n (next_packet_at false (at n c.args.self.now.devices)) c.args.self.now =
    elim c.match-take_next.branch [
      | in-Some+in_ok-deliver w ↦
          let found : next_packet_at false (at n ds) ≡ Some w.in-Some.came = sym c.take_next.ensures.packet ∙ w.in-Some.is in
          rw (← c.self.view_is, found) (w.self-is ∙ rw c.take_next.ensures.devices at w.in_ok-deliver.ensures)
      | in_default w ↦
          let found : next_packet_at false (at n ds) ≡ None = sym c.take_next.ensures.packet ∙ w.in_default.is in
          rw (← c.self.view_is, found) (rw (c.take_next.ensures.devices, taken-none n ds found) at w.self-is)
    ] in
    rw c.raise_again.ensures
    (ap (λ (x : ProcessorView). record x { devices = changed raised_again n x.devices }) (c.self-2.view_is ∙ same))
