use Rattle.std.proofs.Common.{◌∙◌, ap}
use Rattle.clap.{specs.Words.found_of, proofs.WalkLemmas.first_value-rows}
use Rattle.text_io.specs.Given.{number_within, or_default}
use Rattle.text_io.proofs.options.option_number.Goals as goal

pub returns-in-None-clause-number : goal.returns-in-None-clause-number
returns-in-None-clause-number c =
    ap (or_default c.args.default (number_within c.args.digits c.args.low c.args.high))
    (c.in-None.ensures ∙ first_value-rows (found_of c.args.matches.now) (c.args.name.now))

pub returns-in-Some-clause-number : goal.returns-in-Some-clause-number
returns-in-Some-clause-number c = c.number_within.ensures.number
    ∙ ap (or_default c.args.default (number_within c.args.digits c.args.low c.args.high))
    (c.in-Some.ensures ∙ first_value-rows (found_of c.args.matches.now) (c.args.name.now))
