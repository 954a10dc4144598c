use Rattle.std.proofs.{Common.{Bool, ◌∙◌, sym, subst}, lemmas.Bool.or_parts}
use Rattle.napi_word.{specs.{Events.Steps, Operations.busy_op}, proofs.{Knowing.look_disable, Turns.asks}}
use Rattle.napi_word.proofs.table.StateTable.take_load.Goals as goal

pub load-seen-requires-clause-may : goal.load-seen-requires-clause-may
load-seen-requires-clause-may c = asks c.args.self.now c.args.pass.now c.requires.controller c.requires.marked

pub returns-else-is_busy-clause-idle : goal.returns-else-is_busy-clause-idle
returns-else-is_busy-clause-idle c =
    let v = c.args.pass.now.seat.me.0 in
    let w = c.load-seen.new.seat.me.0 in
    let x = c.load-seen.result in
    let idle = sym c.is_busy.ensures ∙ c.if-is_busy.false in
    let looked = subst (λ (b : Bool). Steps v (busy_op b x) w) idle c.load-seen.ensures.did.0 in
    let parts = or_parts x.flags.sched x.flags.npsvc idle in
    (look_disable v x w looked c.requires.controller ∙ c.requires.marked, parts.0, parts.1)
