use Rattle.std.proofs.Common.{sym, subst, ◌∙◌, inl, inr}
use Rattle.napi_model.specs.declared.event.{Done.Done, Operation.TheVariants.Complete}
use Rattle.napi_word.{specs.{Events.Steps, Passes.view_of}, proofs.Knowing.{again_grants, look_polls, never_held}}
use Rattle.benches.proofs.turns.complete.Goals as goal

pub loop-init : goal.loop-init
loop-init c =
    let s = c.look-seen.ensures.step in (
      (s.table ∙ c.requires.ready.0, λ e. c.requires.ready.1 (sym s.holds ∙ e)),
      look_polls (view_of c.args.pass.now) c.look-seen.result (view_of c.look-seen.new.pass) s.event c.requires.polls,
    )

pub hand-requires-clause-owner : goal.hand-requires-clause-owner
hand-requires-clause-owner c =
    let v = view_of c.loop.pass in
    let w = view_of c.complete_swap.new.pass in
    let o = c.in-Ok-Again in
    inl (again_grants v w (subst (λ (d : Done). Steps v (Complete d) w) o.field-0-is o.ensures.step.event))

pub loop-preserved : goal.loop-preserved
loop-preserved c =
    let s = c.in-Err.ensures.step in
    let i = c.loop.invariant in (
      (s.table ∙ i.0.0, λ e. i.0.1 (sym s.holds ∙ e)),
      look_polls (view_of c.loop.pass) c.in-Err.found (view_of c.complete_swap.new.pass) s.event i.1,
    )

pub hand-requires-2-clause-owner : goal.hand-requires-2-clause-owner
hand-requires-2-clause-owner c = inr c.loop.invariant.1

pub unreachable-requires : goal.unreachable-requires
unreachable-requires c = never_held _ (rw c.in-Ok-Held.field-0-is at c.in-Ok-Held.ensures).reply
