use Rattle.std.{proofs.{Common.{refl, rules}, lemmas.List.Elements.All-weaker}, specs.Arc.arc_value}
use Rattle.napi_c.proofs.NewCallers.{caller_weaker}
use Rattle.napi_c.specs.Shared.{LeadsToNewCaller, LeadsToRestingCaller}
use Rattle.napi_c.proofs.shared.give.Goals as goal

pub returns-then-given-clause-made : goal.returns-then-given-clause-made
returns-then-given-clause-made c ok =
    let n = (arc_value c.args.opened.napi).napi in (
      n,
      rw (c.fill.ensures (search rules)) (refl, search rules),
      All-weaker (LeadsToNewCaller n) (LeadsToRestingCaller n)
          (λ h new. caller_weaker _ _ (λ s is. (is.instance, is.rests)) h.held.body new) _
          (c.give_callers-given.ensures (search rules)),
    )
