use Rattle.std.proofs.Common.{ap, ◌∙◌}
use Rattle.napi_model.specs.{declared.event.Operation.Operation, Step.seen_after, Word.word_of}
use Rattle.napi_word.proofs.Said.{one_there}
use Rattle.napi_word.proofs.table.StateTable.exchange_seen.Goals as goal

pub compare_exchange-word-requires : goal.compare_exchange-word-requires
compare_exchange-word-requires g c =
    let next = c.word_after-next.ensures ∙ ap (λ (o : Operation). word_of (seen_after o c.args.seen)) c.requires.operation in
    (c.requires.table, one_there c.args.self.now, rw (c.encode-old.ensures, next) c.requires.may)
