use Rattle.napi_calls.proofs.Dealing.{same_input}
use Rattle.core_tests.proofs.bed.make_full_bed.Goals as goal

pub returns-clause-input : goal.returns-clause-input
returns-clause-input g c =
    let bed = c.make_bed-input in
    same_input bed.result.input c.put_four.new.input bed.result.first.pass c.put_four.ensures bed.ensures.input
