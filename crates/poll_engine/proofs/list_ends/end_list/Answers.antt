use Rattle.std.proofs.{Common.{◌≤◌, ◌+◌, length, map, arith}, lemmas.Grind.common_steps, lemmas.List.length-map}
use Rattle.{crossbeam_queue.specs.Passes.view, poll_engine.specs.SharedLists.as_returned, poll_engine.proofs.PushCounts.read_off}
use Rattle.poll_engine.proofs.list_ends.end_list.Goals as goal

pub returns-clause-ok : goal.returns-clause-ok
returns-clause-ok g c =
    let fresh = c.drain.ensures.popped in
    let size = length-map c.args.ins.items (as_returned {R = g.row.R.Denot}) in
    let all_back : (view c.args.list.pass).made ≤ length (map (as_returned {R = g.row.R.Denot}) c.args.ins.items) + 1 =
    grind (arith, common_steps) in
    let read =
    read_off c.args.list c.args.ins.items fresh.0 _ _ fresh.2 c.take_back.ensures.returned c.args.list.whole.0 all_back
    c.drain.ensures.empty in
    (fresh.0, read.0, fresh.1, read.1)
