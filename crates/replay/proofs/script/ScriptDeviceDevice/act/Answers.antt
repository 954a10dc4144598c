use Rattle.std.proofs.Common.{◌≡◌, ◌<◌, get_or, length, subst, sym, arith}
use Rattle.{replay.specs.ScriptShown.answer, replay.proofs.ScriptFacts.{answer-in-turn, few-packets, kept-more}}
use Rattle.replay.proofs.script.ScriptDeviceDevice.act.Goals as goal

pub play-requires : goal.play-requires
play-requires c = let few = few-packets _ _ _ _ _ c.self.invariant in omega (arith, few)

pub invariant_of-self : goal.invariant_of-self
invariant_of-self c =
    let turn = c.if-k-self.false in
    let here : get_or c.self.inside.rows.items c.self.inside.made c.index-row.result.now ≡ c.index-row.result.now =
    rw (← turn) (sym c.index-row.ensures) in
    kept-more c.self.inside.opening c.self.inside.rows.items c.self.inside.made c.self.inside.packets _ c.index-row.result.now _ _
    c.self.invariant (rw (← turn) (subst (λ s. c.args.k < length s.rows) (sym c.self.view_is) c.requires)) here c.play.ensures.transmit
    c.play.ensures.packets

pub returns-clause-answer : goal.returns-clause-answer
returns-clause-answer c = subst (λ s. c.play.result ≡ answer s c.args.k) c.self.view_is
    (answer-in-turn (record { opening = c.self.inside.opening; rows = c.self.inside.rows.items; made = c.self.inside.made }) c.args.k
    c.self.inside.packets c.index-row.result.now _ c.if-k-self.false (subst (λ s. c.args.k < length s.rows) (sym c.self.view_is) c.requires)
    (sym c.index-row.ensures) c.self.invariant.packets c.play.ensures.act)
