use Rattle.{std.proofs.Common.{◌≡◌, length, rules, arith}, machine_model.proofs.PendingFacts.phase-kept}
use Rattle.machine_model.proofs.devices.QueueTable.deliver.Goals as goal

pub invariant_of-self : goal.invariant_of-self
invariant_of-self c =
    let places = c.self.inside.places.items in
    let size : c.len.result ≡ length places = search rules in
    phase-kept places c.args.number c.index_mut.result.now c.in-Some.device c.deliver.new.self c.self.inside.pending
    (omega (arith, size, c.if-number-len.true)) c.index_mut.ensures.value c.in-Some.is c.deliver.ensures.phase c.self.invariant

pub invariant_of-self-in_err-deliver : goal.invariant_of-self-in_err-deliver
invariant_of-self-in_err-deliver c =
    let places = c.self.inside.places.items in
    let size : c.len.result ≡ length places = search rules in
    phase-kept places c.args.number c.index_mut.result.now c.in-Some.device c.deliver.new.self c.self.inside.pending
    (omega (arith, size, c.if-number-len.true)) c.index_mut.ensures.value c.in-Some.is c.deliver.ensures.phase c.self.invariant
