use Rattle.std.proofs.Common.{◌∙◌, ap, codes}
use Rattle.clap.{specs.Words.found_of, proofs.WalkLemmas.first_value-rows}
use Rattle.text_io.specs.Given.{or_default}
use Rattle.text_io.specs.Args.{mode_of}
use Rattle.text_io.specs.declared.mode.ReplayMode.TheVariants.{Serial}
use Rattle.text_io.proofs.args.mode_in.Goals as goal

pub returns-in-None : goal.returns-in-None
returns-in-None c = ap (or_default Serial mode_of) (c.in-None.ensures ∙ first_value-rows (found_of c.args.matches.now) (codes "mode"))

pub returns-in-Some : goal.returns-in-Some
returns-in-Some c =
    c.mode_of.ensures ∙ ap (or_default Serial mode_of) (c.in-Some.ensures ∙ first_value-rows (found_of c.args.matches.now) (codes "mode"))
