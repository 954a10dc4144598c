use Rattle.std.proofs.Common.{◌≡◌, length, rules, arith}
use Rattle.machine_model.{specs.Device.{interrupted}, proofs.PendingFacts.changed-kept}
use Rattle.machine_model.proofs.devices.QueueTable.interrupt.Goals as goal

pub invariant_of-self : goal.invariant_of-self
invariant_of-self c =
    let places = c.self.inside.places.items in
    let size : c.len.result ≡ length places = search rules in
    changed-kept (interrupted c.args.until c.args.polling) places c.args.number c.index_mut.result.now c.in-Some.device c.interrupt.new.self
    (omega (arith, size, c.if-number-len.true)) c.index_mut.ensures.value c.in-Some.is c.interrupt.ensures
    c.self.inside.pending c.pending_after-self-inside.result c.deref.result.now
    c.pending_after-self-inside.ensures c.deref.ensures.value c.self.invariant
