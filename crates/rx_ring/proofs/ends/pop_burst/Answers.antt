use Rattle.std.proofs.{Common.{◌≡◌, length, arith}, lemmas.Grind.common_steps}
use Rattle.rtrb.specs.Ring.{known_items}
use Rattle.rx_ring.proofs.Prefix.{front_of_prefix}
use Rattle.rx_ring.proofs.ends.pop_burst.Goals as goal

pub returns-clause-taken : goal.returns-clause-taken
returns-clause-taken c =
    let given = c.pop_entire_slice.new.slice in
    let n : length given ≡ length c.args.packets.now = grind (arith, common_steps) in
    let e =
    front_of_prefix (known_items c.args.consumer) given (known_items c.pop_entire_slice.new.self) (omega arith) c.in-Ok.ensures.ok.1 in
    grind (arith, common_steps)
