use Rattle.std.proofs.Common.{◌≡◌, ◌∙◌, ℕ, sym, arith}
use Rattle.std.proofs.lemmas.List.{map-id}
use Rattle.machine_model.specs.Options.{OptionRule, machine_options}
use Rattle.machine_model.proofs.OptionFacts.{all_zip_from, length_options, same_maps}
use Rattle.machine_model.proofs.settings.MachineSettings.defaults.Goals as goal

pub returns : goal.returns
returns c =
    let values = c.loop-i.values in
    let i = c.loop-i.invariant in
    let each = all_zip_from (λ (o : OptionRule) (v : ℕ). v ≡ o.default) machine_options values (i.0 ∙ sym length_options)
    (λ k o v l. i.1 k o v (omega (arith, l, length_options, c.loop-i-test.false))) in
    sym (map-id values) ∙ same_maps (λ (o : OptionRule). o.default) (λ (v : ℕ). v) machine_options values each
