use Rattle.std.proofs.{Common.{◌≡◌, [], ap, refl, ◌∙◌, rules, arith}, lemmas.Grind.common_steps}
use Rattle.rx_ring.specs.{declared.ends.RxCtx.RxCtx, Ends.received_list}
use Rattle.poll_engine.proofs.setup.opening.open.Goals as goal

pub returns-clause-side : goal.returns-clause-side
returns-clause-side g c =
    let new = c.in-Ok.ensures in
    let unreceived : received_list c.in_ok-rx.ctx ≡ [] = search rules in
    record {
      part = record {
        number = refl;
        handles = ((c.next_caller-caller.ensures.caller, new.control.instance), refl);
        controller = new.control.number_is;
        poller = c.next_caller-poller.ensures.caller;
        thread = c.next_caller-thread.ensures.caller;
        ring = (c.in_ok-rx.ctx, search rules, search rules);
        home = record {
          callers = new.count.1;
          nothing_received = ap (λ (x : RxCtx). received_list x) new.first ∙ unreceived;
          empty =
              grind (
                arith,
                common_steps,
                new.count.2,
                c.next_caller-thread.ensures.left,
                c.next_caller-poller.ensures.left,
                c.next_caller-caller.ensures.left,
              );
          room =
              grind (
                arith,
                common_steps,
                new.count.2,
                c.next_caller-thread.ensures.room,
                c.next_caller-poller.ensures.room,
                c.next_caller-caller.ensures.room,
              );
        };
      };
      name = c.requires.number.1;
      has_thread = refl;
      wakes = c.in_ok-waker.ensures;
    }

pub returns-clause-loose : goal.returns-clause-loose
returns-clause-loose g c =
    let new = c.in-Ok.ensures in
    let three = c.next_caller-thread.ensures.left in
    let two = c.next_caller-poller.ensures.left in
    let one = c.next_caller-caller.ensures.left in
    let first = new.callers 0 c.next_caller-caller.result (grind (arith, common_steps, new.count.2, three, two, one)) in
    let second = new.callers 1 c.next_caller-poller.result (grind (arith, common_steps, new.count.2, three, two)) in
    let third = new.callers 2 c.next_caller-thread.result (grind (arith, common_steps, new.count.2, three)) in
    record {
      same_number = refl;
      same_device = refl;
      places = search rules;
      nothing_put = search rules;
      thread = search rules;
      unused = record {
        caller =
            record {
              number_is = first.number_is;
              nothing_done = first.nothing_done;
            };
        control = new.control.nothing_done;
        number = new.control.number_is;
        off = refl;
        unthreaded = refl;
      };
      poller =
          record {
            number_is = second.number_is;
            nothing_done = second.nothing_done;
          };
      own = record {
        number_is = third.number_is;
        nothing_done = third.nothing_done;
      };
      unasked = search rules;
    }
