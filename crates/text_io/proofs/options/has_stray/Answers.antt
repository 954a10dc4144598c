use Rattle.std.proofs.{Common.{◌∙◌, rules, tests}, lemmas.Iterator.{YieldsList-from_slice, Search.any_from_yields_List}}
use Rattle.clap.proofs.WalkLemmas.{list_any-map}
use Rattle.text_io.specs.Given.{is_stray}
use Rattle.text_io.proofs.options.has_stray.Goals as goal

pub returns : goal.returns
returns c =
    any_from_yields_List (λ (w : _). is_stray w.now) _ _ _ c.any.ensures.ran (YieldsList-from_slice c.args.words.now cc)
    (λ x b q k. search (rules, tests))
    ∙ list_any-map is_stray (λ w. w.now) c.args.words.now
