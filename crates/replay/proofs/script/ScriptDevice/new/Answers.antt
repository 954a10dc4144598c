use Rattle.std.proofs.Common.{◌∙◌, sym, arith}
use Rattle.{replay.specs.Script.is_act_of, replay.proofs.{OpeningFacts.opened-within, Rows.filter-long}}
use Rattle.replay.proofs.script.ScriptDevice.new.Goals as goal

pub of-requires-clause-places : goal.of-requires-clause-places
of-requires-clause-places c =
    opened-within _ c.rows-rows.result.now c.args.device c.in-Some.opening c.rows-rows.ensures.accepted
    (sym c.opening_of.ensures ∙ c.in-Some.is)

pub of-requires-clause-count : goal.of-requires-clause-count
of-requires-clause-count c =
    let long = filter-long (is_act_of c.args.device) c.rows-rows.result.now in
    let all = c.rows-rows.ensures.count in
    rw c.in_ok-script_of.ensures (omega (arith, long, all))
