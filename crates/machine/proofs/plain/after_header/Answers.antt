use Rattle.std.proofs.{Common.{◌≡◌, ◌∙◌, ◌++◌, ap, Some, true, false, rules}, lemmas.{Bool.Decides.Decides-eqb, Slice.Eq.strip_prefix_is}}
use Rattle.std.specs.Prelude.{◌==◌}
use Rattle.machine.proofs.PlainFacts.{four-titles, three-titles}
use Rattle.machine.proofs.plain.after_header.Goals as goal

pub returns-then-queues-eq1 : goal.returns-then-queues-eq1
returns-then-queues-eq1 c =
    let one : (c.args.queues == 1) ≡ true = search rules in
    let splits = strip_prefix_is Decides-eqb c.args.text.now c.as_slice.result.now (Some c.in_ok-rest.rest) c.in_ok-rest.ensures.cases in
    three-titles c.args.queues c.args.text.now c.in_ok-rest.rest.now one
    (splits ∙ ap (λ p. p ++ c.in_ok-rest.rest.now) c.as_slice.ensures)

pub returns : goal.returns
returns c =
    let several : (c.args.queues == 1) ≡ false = search rules in
    let splits =
    strip_prefix_is Decides-eqb c.args.text.now c.as_slice-2.result.now (Some c.in_ok-rest-2.rest) c.in_ok-rest-2.ensures.cases in
    four-titles c.args.queues c.args.text.now c.in_ok-rest-2.rest.now several
    (splits ∙ ap (λ p. p ++ c.in_ok-rest-2.rest.now) c.as_slice-2.ensures)
