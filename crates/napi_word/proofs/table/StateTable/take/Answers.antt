use Rattle.{napi_word.proofs.Turns.takes_over, napi_model.specs.declared.state.Kind.Kind}
use Rattle.napi_word.proofs.table.StateTable.take.Goals as goal

pub keep-seen-requires-clause-may : goal.keep-seen-requires-clause-may
keep-seen-requires-clause-may c = takes_over c.args.self.now c.args.pass.now Kind.List

pub keep-seen-requires-in-Thread-clause-may : goal.keep-seen-requires-in-Thread-clause-may
keep-seen-requires-in-Thread-clause-may c = takes_over c.args.self.now c.args.pass.now Kind.Thread
