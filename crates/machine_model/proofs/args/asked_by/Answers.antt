use Rattle.std.proofs.Common.{◌∙◌, ap, option_map}
use Rattle.std.specs.{Option.option_and_then, Prelude.{if◌then◌else◌, is_some, None, Some}}
use Rattle.machine_model.specs.Options.{misfit, values_of}
use Rattle.machine_model.proofs.OptionFacts.{asked_is}
use Rattle.machine_model.proofs.args.asked_by.Goals as goal

pub returns : goal.returns
returns c =
    ap (option_map values_of) c.ok.ensures.value
    ∙ (asked_is c.from_values.result _ c.from_values.ensures.settings c.from_values.ensures.fit c.from_values.ensures.out
    c.in_ok-values_in.ensures.in_range
    ∙ ap (option_and_then (λ values. if is_some (misfit values) then None else Some values)) c.in_ok-values_in.ensures.values)
