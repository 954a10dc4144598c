use Rattle.std.proofs.Common.{◌≡◌, ◌∙◌, length, sym, arith, rules}
use Rattle.std.proofs.lemmas.Bool.{false≢true}
use Rattle.machine_model.specs.declared.settings.TheConstants.{OPTION_COUNT}
use Rattle.machine_model.specs.Options.{IsOptionInRange, machine_options}
use Rattle.machine_model.proofs.OptionFacts.{all_zip_from, length_options, out_at}
use Rattle.machine_model.proofs.settings.MachineSettings.first_out.Goals as goal

pub returns-then-not-admits-clause-out : goal.returns-then-not-admits-clause-out
returns-then-not-admits-clause-out c =
    let all : length c.args.values.now ≡ OPTION_COUNT = search rules in
    record {
      numbered = (omega arith, omega (arith, length_options, c.loop-i-test.true));
      out = out_at c.args.values.now c.loop-i.i c.at.result c.at.ensures (omega (arith, all, c.loop-i-test.true))
          (λ h. absurd (false≢true (c.if-not-admits.ensures.1 h)));
      first = λ k l. c.loop-i.invariant k (omega (arith, l));
    }

pub returns-clause-in_range : goal.returns-clause-in_range
returns-clause-in_range c =
    let all : length c.args.values.now ≡ OPTION_COUNT = search rules in
    all_zip_from IsOptionInRange machine_options c.args.values.now (all ∙ sym length_options)
    (λ k o v l. c.loop-i.invariant k (omega (arith, l, length_options, c.loop-i-test.false)) o v)
