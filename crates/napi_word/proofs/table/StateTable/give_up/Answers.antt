use Rattle.napi_word.proofs.Closing.{finds_within}
use Rattle.napi_word.proofs.table.StateTable.give_up.Goals as goal

pub returns-in-Within-clause-found : goal.returns-in-Within-clause-found
returns-in-Within-clause-found c =
    finds_within c.args.pass.holds _ c.args.found.now c.slot_out-ctx.result c.in-Within.is c.slot_out-ctx.ensures.ring
