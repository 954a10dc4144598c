use Rattle.std.proofs.Common.{◌≡◌, ◌∙◌, ℕ, Some, sym, arith}
use Rattle.std.proofs.lemmas.List.{length-set}
use Rattle.text_io.specs.Options.{value_in}
use Rattle.machine_model.specs.Options.{IsOptionInRange, OptionRule, machine_options, number_with}
use Rattle.machine_model.proofs.OptionFacts.{all_zip_from, length_options, no_option}
use Rattle.machine_model.proofs.OptionFacts.{number_is, one_more, range_is, values_all, values_none}
use Rattle.machine_model.proofs.args.values_in.Goals as goal

pub returns-in_err-values-clause-values : goal.returns-in_err-values-clause-values
returns-in_err-values-clause-values c =
    let value = value_in c.args.matches.now in
    let none = number_is c.at-option.result _ value _ (c.at-option.ensures no_option) c.in_err-values.ensures.number in
    c.from_residual.ensures
    ∙ sym (values_none machine_options c.loop-i.i no_option value (omega (arith, length_options, c.loop-i-test.true)) none)

pub loop-i-preserved : goal.loop-i-preserved
loop-i-preserved c =
    let value = value_in c.args.matches.now in
    let i = c.loop-i.invariant in
    let m = c.at-option.result in
    let n = c.in_ok-values.field-0 in (
      length-set _ _ _ ∙ i.0,
      one_more (λ (o : OptionRule) (v : ℕ). IsOptionInRange o v × (number_with value o ≡ Some v)) c.loop-i.values c.loop-i.i n
          (omega (arith, i.0, c.loop-i-test.true)) i.1
          (λ o. (
            range_is _ m n (value m.name.now) (c.at-option.ensures o) c.in_ok-values.ensures.number,
            number_is m _ value _ (c.at-option.ensures o) c.in_ok-values.ensures.number,
          )),
    )

pub returns-clause-values : goal.returns-clause-values
returns-clause-values c =
    let values = c.loop-i.values in
    let i = c.loop-i.invariant in
    let value = value_in c.args.matches.now in
    let each = all_zip_from (λ (o : OptionRule) (v : ℕ). number_with value o ≡ Some v) machine_options values (i.0 ∙ sym length_options)
    (λ k o v l. (i.1 k o v (omega (arith, l, length_options, c.loop-i-test.false))).1) in
    sym (values_all machine_options values value each)

pub returns-clause-in_range : goal.returns-clause-in_range
returns-clause-in_range c =
    let values = c.loop-i.values in
    let i = c.loop-i.invariant in
    all_zip_from IsOptionInRange machine_options values (i.0 ∙ sym length_options)
    (λ k o v l. (i.1 k o v (omega (arith, l, length_options, c.loop-i-test.false))).0)
