use Rattle.std.proofs.{Common.{◌≡◌, true, false, refl, rules, arith}, lemmas.Grind.common_steps}
use Rattle.poll_engine.proofs.Listings.{lists_more, lists_none, wakes_more, wakes_none}
use Rattle.poll_engine.proofs.worker.InterruptHandler.hand_over.Goals as goal

pub returns-then-not-look-clause-handed : goal.returns-then-not-look-clause-handed
returns-then-not-look-clause-handed g c =
    let off : c.look.result.flags.threaded ≡ false = search rules in
    rw c.in-Some.is (c.look.result, c.look.new.self.pass, c.look.ensures.event, rw off c.hand_to_list-then-not-look.ensures.handed)

pub returns-clause-handed : goal.returns-clause-handed
returns-clause-handed g c =
    let on : c.look.result.flags.threaded ≡ true = search rules in
    rw c.in-Some.is (c.look.result, c.look.new.self.pass, c.look.ensures.event, rw on c.hand-caller.ensures.event)

pub returns-then-not-look-clause-lists : goal.returns-then-not-look-clause-lists
returns-then-not-look-clause-lists g c =
    lists_more (lists_none c.args.out.now c.args.out.now refl refl refl c.look.ensures.event) c.hand_to_list-then-not-look.ensures.lists

pub returns-then-not-look-clause-wakes : goal.returns-then-not-look-clause-wakes
returns-then-not-look-clause-wakes g c =
    wakes_more (wakes_none c.args.out.now c.args.out.now refl (λ w own. refl) c.look.ensures.event)
    c.hand_to_list-then-not-look.ensures.wakes

pub returns-clause-lists : goal.returns-clause-lists
returns-clause-lists g c =
    lists_more (lists_none c.args.out.now c.args.out.now refl refl refl c.look.ensures.event)
    (lists_none c.args.out.now _ refl refl refl c.hand-caller.ensures.event)

pub returns-clause-wakes : goal.returns-clause-wakes
returns-clause-wakes g c =
    wakes_more (wakes_none c.args.out.now c.args.out.now refl (λ w own. refl) c.look.ensures.event)
    (record {
      did = _;
      grown = c.hand-caller.ensures.event.grown;
      woken = rw c.in-Some.is (grind (arith, common_steps, c.wake.ensures, c.hand-caller.ensures.event.grown));
    })
