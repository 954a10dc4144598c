use Rattle.std.proofs.Common.{◌≡◌, length, ap, rules, arith}
use Rattle.machine_model.{specs.Device.{QueueView, asks, timer_of}, proofs.PendingFacts.asks-kept}
use Rattle.machine_model.proofs.devices.QueueTable.miss.Goals as goal

pub invariant_of-self : goal.invariant_of-self
invariant_of-self c =
    let places = c.self.inside.places.items in
    let size : c.len.result ≡ length places = search rules in
    asks-kept places c.args.number c.index_mut.result.now c.in-Some.device c.miss.new.self c.self.inside.pending
    (omega (arith, size, c.if-number-len.true)) c.index_mut.ensures.value c.in-Some.is
    (ap (λ (v : QueueView). asks v.phase) c.miss.ensures) (ap (λ (v : QueueView). timer_of v.phase) c.miss.ensures) c.self.invariant
