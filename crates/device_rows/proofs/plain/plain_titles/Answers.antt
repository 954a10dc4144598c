use Rattle.std.proofs.{Common.{◌∙◌, ap, Some, ◌++◌}, lemmas.{Bool.Decides.Decides-eqb, Slice.Eq.strip_prefix_is}}
use Rattle.device_rows.proofs.PlainFacts.{titles-start, titles-of-two-start}
use Rattle.device_rows.proofs.plain.plain_titles.Goals as goal

pub returns-in-Some-clause-titles : goal.returns-in-Some-clause-titles
returns-in-Some-clause-titles c =
    let splits = strip_prefix_is Decides-eqb c.args.text.now c.as_slice.result.now (Some c.in-Some.rest) c.in-Some.ensures.cases in
    titles-start c.args.text.now c.in-Some.rest.now (splits ∙ ap (λ p. p ++ c.in-Some.rest.now) c.as_slice.ensures)

pub returns-clause-titles : goal.returns-clause-titles
returns-clause-titles c =
    let splits = strip_prefix_is Decides-eqb c.args.text.now c.as_slice-2.result.now (Some c.in_ok-rest.rest) c.in_ok-rest.ensures.cases in
    titles-of-two-start c.args.text.now c.in_ok-rest.rest.now (splits ∙ ap (λ p. p ++ c.in_ok-rest.rest.now) c.as_slice-2.ensures)
