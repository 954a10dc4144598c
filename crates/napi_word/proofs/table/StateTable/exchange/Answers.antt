use Rattle.std.proofs.Common.{◌≡◌, Option, Some, None, ap, subst, sym, ◌∙◌, OnOk}
use Rattle.napi_model.specs.declared.state.{Kind.Kind, Seen.Seen}
use Rattle.napi_word.specs.{Atoms.MayExchange, Operations.Did}
use Rattle.napi_word.proofs.table.StateTable.exchange.Goals as goal

-- a decoded word, put together again from its flags and its mark
again : (x : Seen) (m : Option Kind) → x.handed ≡ m → record { flags = x.flags; handed = m } ≡ x
again x m is = ap (λ (m : Option Kind). record { flags = x.flags; handed = m }) (sym is)

pub exchange_seen-requires-clause-operation : goal.exchange_seen-requires-clause-operation
exchange_seen-requires-clause-operation g c = c.requires.operation ∙ ap g.K.Step.operation (sym (again c.args.seen None c.in-None.is))

pub exchange_seen-requires-clause-may : goal.exchange_seen-requires-clause-may
exchange_seen-requires-clause-may g c =
    subst (λ (y : Seen). MayExchange c.args.self.now c.args.seat.now y g.K.Step.operation g.K.Step.moves)
    (sym (again c.args.seen None c.in-None.is)) c.requires.may

pub exchange_seen-requires-in-Some-clause-operation : goal.exchange_seen-requires-in-Some-clause-operation
exchange_seen-requires-in-Some-clause-operation g c =
    c.requires.operation ∙ ap g.K.Step.operation (sym (again c.args.seen (Some c.in-Some.kind) c.in-Some.is))

pub exchange_seen-requires-in-Some-clause-may : goal.exchange_seen-requires-in-Some-clause-may
exchange_seen-requires-in-Some-clause-may g c =
    subst (λ (y : Seen). MayExchange c.args.self.now c.args.seat.now y g.K.Step.operation g.K.Step.moves)
    (sym (again c.args.seen (Some c.in-Some.kind) c.in-Some.is)) c.requires.may

pub returns-in-None-clause-won : goal.returns-in-None-clause-won
returns-in-None-clause-won g c =
    subst (λ (y : Seen). OnOk c.exchange_seen.result
    (Did (g.K.Step.operation y) (g.K.Step.moves y) c.args.seat.now.me c.exchange_seen.new.seat.me))
    (again c.args.seen None c.in-None.is) c.exchange_seen.ensures.won

pub returns-in-Some-clause-won : goal.returns-in-Some-clause-won
returns-in-Some-clause-won g c =
    subst (λ (y : Seen). OnOk c.exchange_seen-in-Some.result
    (Did (g.K.Step.operation y) (g.K.Step.moves y) c.args.seat.now.me c.exchange_seen-in-Some.new.seat.me))
    (again c.args.seen (Some c.in-Some.kind) c.in-Some.is) c.exchange_seen-in-Some.ensures.won
