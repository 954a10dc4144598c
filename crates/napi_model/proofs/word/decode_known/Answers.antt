use Rattle.std.proofs.Common.{sym, ap, ◌∙◌}
use Rattle.napi_model.{specs.Word.{word_of, seen_in}, proofs.Words.seen_in-word}
use Rattle.napi_model.proofs.word.decode_known.Goals as goal

pub returns-clause-word : goal.returns-clause-word
returns-clause-word c = ap word_of (c.read.ensures ∙ ap seen_in (sym c.requires.1) ∙ seen_in-word c.requires.0) ∙ c.requires.1

pub returns-clause-inverse : goal.returns-clause-inverse
returns-clause-inverse c = λ seen e. c.read.ensures ∙ ap seen_in (sym e) ∙ seen_in-word seen
