use Rattle.std.proofs.Common.{◌<◌, Some, sym, ap, ◌∙◌, subst, true≢false, arith}
use Rattle.napi_model.{specs.Word.{word_of, seen_in, IsMalformed}, proofs.Words.{not_malformed, word_of-seen_in, seen_in-word}}
use Rattle.napi_model.proofs.word.decode.Goals as goal

pub returns-then-is_malformed-clause-inverse : goal.returns-then-is_malformed-clause-inverse
returns-then-is_malformed-clause-inverse c =
    λ seen e. absurd (not_malformed seen (subst IsMalformed (sym e) (c.is_malformed.ensures.0 c.if-is_malformed.true)))

pub returns-clause-word : goal.returns-clause-word
returns-clause-word c =
    let small : c.args.word < 18446744073709551616 = omega arith in
    ap word_of c.read.ensures
    ∙ word_of-seen_in c.args.word small (λ m. true≢false (sym (c.is_malformed.ensures.1 m) ∙ c.if-is_malformed.false))

pub returns-clause-inverse : goal.returns-clause-inverse
returns-clause-inverse c = λ seen e. ap Some (c.read.ensures ∙ ap seen_in (sym e) ∙ seen_in-word seen)
