use Rattle.std.proofs.{Common.{◌≡◌, ◌∷◌, ◌≤◌, length, vec_items, arith}, lemmas.Grind.common_steps}
use Rattle.poll_engine.proofs.ListFacts.{first_of}
use Rattle.poll_engine.proofs.list_poller.Poller+R+G+ListPoller+R.take.Goals as goal

pub leave-requires : goal.leave-requires
leave-requires g c =
    let some : 1 ≤ length (vec_items c.args.self.now.served.bench.seats) = grind (arith, common_steps, c.requires.some) in
    rw c.open.ensures (c.requires.caller c.remove.result (vec_items c.remove.new.self)
    (first_of _ (vec_items c.remove.new.self) c.remove.result some c.remove.ensures.value c.remove.ensures.items))

pub returns : goal.returns
returns g c =
    let some : 1 ≤ length (vec_items c.args.self.now.served.bench.seats) = grind (arith, common_steps, c.requires.some) in record {
      seat = c.remove.result;
      first = first_of _ (vec_items c.remove.new.self) c.remove.result some c.remove.ensures.value c.remove.ensures.items;
      caller_is = rw (← c.open.ensures) c.leave.ensures.caller;
      of = rw (← c.open.ensures) c.leave.ensures.of;
    }
