use Rattle.std.proofs.Common.{◌≡◌, ◌∙◌, ℕ, List, Option, None, Some, Err, IfOk, ap, map, string_bytes, subst, sym}
use Rattle.std.proofs.lemmas.Result.{err_from_is_err_and}
use Rattle.std.specs.Option.{option_and_then}
use Rattle.text_io.specs.declared.args.WordFault.TheVariants.{Usage}
use Rattle.machine_model.specs.Options.{machine_with, values_of}
use Rattle.text_io.specs.Given.{Text, given_by, value_of}
use Rattle.text_io.specs.Refusals.{args_out_of_memory}
use Rattle.text_io.proofs.ClapFacts.{asked-as, found_is, refused_is}
use Rattle.machine_model.proofs.args.parse_words.Goals as goal

-- the values that arguments ask for, if these are the names of the options
abbrev asked_for : List Text → List Text → Option (List ℕ)
asked_for names words = option_and_then (λ given. machine_with (λ name. value_of name given)) (given_by names words)

pub returns-in_err-matches-clause-usage : goal.returns-in_err-matches-clause-usage
returns-in_err-matches-clause-usage c = λ e.
    let p = err_from_is_err_and c.from_residual-in_err-matches.result c.from_residual-in_err-matches.ensures.1 in
    let usage : c.in_err-matches.field-0.0 ≡ Usage = cc (p.1, p.2, e) in
    subst (λ (names : List Text). asked_for names (map string_bytes c.args.words.now) ≡ None) c.names.ensures
    (ap (option_and_then (λ given. machine_with (λ name. value_of name given)))
    (c.in_err-matches.ensures.usage (ap Err usage) (map string_bytes c.args.words.now)
    (ap (map (λ s. s.now)) c.as_slice.ensures.value ∙ c.in_ok-words.ensures)))

pub returns-clause-asked : goal.returns-clause-asked
returns-clause-asked c =
    let given =
    c.in_ok-matches.ensures.given (map string_bytes c.args.words.now)
    (ap (map (λ s. s.now)) c.as_slice.ensures.value ∙ c.in_ok-words.ensures) in
    let words = map string_bytes c.args.words.now in
    subst (λ (names : List Text). IfOk c.ok_or.result (λ asked. asked_for names words ≡ Some (values_of asked))) c.names.ensures
    (found_is values_of _ c.asked_by.result _ c.ok_or.ensures.ok_part
    (c.asked_by.ensures ∙ sym (asked-as machine_with _ _ given)))

pub returns-clause-usage : goal.returns-clause-usage
returns-clause-usage c = λ e.
    let given =
    c.in_ok-matches.ensures.given (map string_bytes c.args.words.now)
    (ap (map (λ s. s.now)) c.as_slice.ensures.value ∙ c.in_ok-words.ensures) in
    subst (λ (names : List Text). asked_for names (map string_bytes c.args.words.now) ≡ None) c.names.ensures
    (refused_is values_of c.ok_or.result c.asked_by.result _ c.ok_or.ensures.ok_part
    (c.asked_by.ensures ∙ sym (asked-as machine_with _ _ given)) Usage e)

pub returns-in_err-words-clause-memory : goal.returns-in_err-words-clause-memory
returns-in_err-words-clause-memory c = λ _. args_out_of_memory c.in_err-words.field-0.0
