use Rattle.std.proofs.Common.{◌≡◌, ◌∙◌, length, ap, rules, arith}
use Rattle.machine_model.{specs.Device.QueueView, proofs.PendingFacts.{phase-holding, phase-kept}}
use Rattle.machine_model.proofs.devices.QueueTable.hold.Goals as goal

pub invariant_of-self : goal.invariant_of-self
invariant_of-self c =
    let places = c.self.inside.places.items in
    let size : c.len.result ≡ length places = search rules in
    phase-kept places c.args.number c.index_mut.result.now c.in-Some.device c.hold.new.self c.self.inside.pending
    (omega (arith, size, c.if-number-len.true)) c.index_mut.ensures.value c.in-Some.is
    (ap (λ (v : QueueView). v.phase) c.hold.ensures ∙ phase-holding c.in-Some.device) c.self.invariant
