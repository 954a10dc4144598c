use Rattle.std.proofs.Common.{◌≡◌, ◌∙◌, length, ap, sym, rules, arith}
use Rattle.machine_model.{specs.Device.{QueueView, after_packet}, proofs.PendingFacts.{changed-kept, phase-kept, phase-masked}}
use Rattle.machine_model.proofs.devices.QueueTable.arrive.Goals as goal

pub invariant_of-self : goal.invariant_of-self
invariant_of-self c =
    let places = c.self.inside.places.items in
    let d = c.in-Some.device in
    let size : c.len.result ≡ length places = search rules in
    phase-kept places c.args.number c.index_mut.result.now d c.arrive.new.self c.self.inside.pending
    (omega (arith, size, c.if-number-len.true)) c.index_mut.ensures.value c.in-Some.is
    (ap (λ (v : QueueView). v.phase) c.arrive.ensures.device
    ∙ phase-masked c.args.moment c.args.settings.now d (sym c.is_masked.ensures ∙ c.if-is_masked.true))
    c.self.invariant

pub invariant_of-self-in-Some : goal.invariant_of-self-in-Some
invariant_of-self-in-Some c =
    let places = c.self.inside.places.items in
    let size : c.len.result ≡ length places = search rules in
    changed-kept (after_packet c.args.moment c.args.settings.now) places c.args.number
    c.index_mut.result.now c.in-Some.device c.arrive-is_taken.new.self
    (omega (arith, size, c.if-number-len.true)) c.index_mut.ensures.value c.in-Some.is c.arrive-is_taken.ensures.device
    c.self.inside.pending c.pending_after-self-inside.result c.deref.result.now
    c.pending_after-self-inside.ensures c.deref.ensures.value c.self.invariant
