use Rattle.std.proofs.Common.{◌≡◌, ◌∙◌, ℕ, Bor, List, sym, arith}
use Rattle.machine_model.specs.Options.{OptionRule, machine_options}
use Rattle.machine_model.proofs.OptionFacts.{all_zip_from, length_options, same_maps}
use Rattle.machine_model.proofs.args.names.Goals as goal

pub returns : goal.returns
returns c =
    let names = c.loop-i.names in
    let i = c.loop-i.invariant in
    let each = all_zip_from (λ (o : OptionRule) (s : Bor (List ℕ)). s.now ≡ o.name) machine_options names (i.0 ∙ sym length_options)
    (λ k o s l. i.1 k o s (omega (arith, l, length_options, c.loop-i-test.false))) in
    same_maps (λ (o : OptionRule). o.name) (λ (s : Bor (List ℕ)). s.now) machine_options names each
