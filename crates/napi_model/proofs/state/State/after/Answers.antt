use Rattle.std.proofs.Common.{◌≡◌, ap, ◌∙◌}
use Rattle.napi_model.{specs.{declared.state.State.State, Step.{after_by, seen_of}}, proofs.Tells.tells_next}
use Rattle.napi_model.proofs.state.State.after.Goals as goal

pub returns-clause-seen : goal.returns-clause-seen
returns-clause-seen c =
    let next : record {
      flags = c.after.result;
      place = c.after-2.result;
    } ≡ after_by c.args.event.caller c.args.event.operation c.args.self =
    λ i. record { flags = c.after.ensures i; place = c.after-2.ensures i } in
    λ sound legal. ap (λ (s : State). seen_of s) next ∙ tells_next c.args.event.caller c.args.event.operation c.args.self legal sound
