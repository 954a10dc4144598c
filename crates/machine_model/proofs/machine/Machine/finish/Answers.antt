use Rattle.std.proofs.Common.{◌≡◌, length, ap, sym, rules, arith}
use Rattle.machine_model.{specs.Machine.Machine, proofs.MachineFacts.{finished-all, finished-more, finished-none}}
use Rattle.machine_model.proofs.machine.Machine.finish.Goals as goal

pub loop-number-init : goal.loop-number-init
loop-number-init c = rw (← c.self.view_is) (finished-none c.self.inside.processors.items)

pub loop-number-preserved : goal.loop-number-preserved
loop-number-preserved c =
    let i = c.loop-number.invariant in
    let end : c.len-number-end.result ≡ length c.self.inside.processors.items = search rules in
    let size : length c.args.self.now ≡ length c.self.inside.processors.items = ap (λ (m : Machine). length m) (sym c.self.view_is) in
    finished-more c.args.self.now c.loop-number.self-inside.processors.items c.loop-number.number c.index_mut.result.now
    c.finish.new.self i
    (omega (arith, i.size, end, size, c.loop-number-test.true)) (sym c.index_mut.ensures.value) c.in_ok-finish.ensures

pub returns-clause-finishes : goal.returns-clause-finishes
returns-clause-finishes c =
    let end : c.len-number-end.result ≡ length c.self.inside.processors.items = search rules in
    let size : length c.args.self.now ≡ length c.self.inside.processors.items = ap (λ (m : Machine). length m) (sym c.self.view_is) in
    finished-all c.args.self.now c.loop-number.self-inside.processors.items c.loop-number.number c.loop-number.invariant
    (omega (arith, end, size, c.loop-number-test.false))
