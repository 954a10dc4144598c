use Rattle.{std.proofs.Common.subst, napi_model.specs.declared.state.Kind.Kind, napi_word.{specs.Passes.PassMayHand, proofs.Turns.hands}}
use Rattle.napi_word.proofs.table.StateTable.hand.Goals as goal

pub add-requires-clause-may : goal.add-requires-clause-may
add-requires-clause-may c =
    hands c.args.self.now c.args.pass.now Kind.List
    (subst (λ (k : Kind). PassMayHand k c.args.pass.now) c.in-List.is c.requires.owner) c.requires.within

pub add-requires-in-Thread-clause-may : goal.add-requires-in-Thread-clause-may
add-requires-in-Thread-clause-may c =
    hands c.args.self.now c.args.pass.now Kind.Thread
    (subst (λ (k : Kind). PassMayHand k c.args.pass.now) c.in-Thread.is c.requires.owner) c.requires.within
