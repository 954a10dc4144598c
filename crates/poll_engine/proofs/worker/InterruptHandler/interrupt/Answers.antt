use Rattle.std.proofs.Common.{refl}
use Rattle.poll_engine.proofs.Listings.{lists_more, lists_none, tries_none, tries_wake_none, wakes_more, wakes_none}
use Rattle.napi_calls.specs.declared.answers.Sched.TheVariants as sched
use Rattle.poll_engine.proofs.worker.InterruptHandler.interrupt.Goals as goal

pub returns-in-Granted-clause-interrupts : goal.returns-in-Granted-clause-interrupts
returns-in-Granted-clause-interrupts g c = (sched.Granted c.in-Granted.granted, c.in-Granted.ensures.events, c.hand_over.ensures.handed)

pub returns-in-Missed-clause-interrupts : goal.returns-in-Missed-clause-interrupts
returns-in-Missed-clause-interrupts g c = (sched.Missed c.in-Missed.caller, c.in-Missed.ensures.events, refl)

pub returns-in-Missed-2-clause-interrupts : goal.returns-in-Missed-2-clause-interrupts
returns-in-Missed-2-clause-interrupts g c = (sched.Disabled c.in-Missed.caller, c.in-Missed.ensures.events, refl)

pub returns-in-Granted-clause-lists : goal.returns-in-Granted-clause-lists
returns-in-Granted-clause-lists g c =
    let asked = c.in-Granted.ensures.events in
    lists_more (lists_none c.args.out.now c.args.out.now refl refl (tries_none c.args.self.now.number _ asked.0 _) asked.2)
    c.hand_over.ensures.lists

pub returns-in-Granted-clause-wakes : goal.returns-in-Granted-clause-wakes
returns-in-Granted-clause-wakes g c =
    let asked = c.in-Granted.ensures.events in
    wakes_more (wakes_none c.args.out.now c.args.out.now refl (λ w own. tries_wake_none w _ own asked.0 _ (λ own. refl)) asked.2)
    c.hand_over.ensures.wakes

pub returns-in-Missed-clause-lists : goal.returns-in-Missed-clause-lists
returns-in-Missed-clause-lists g c =
    let asked = c.in-Missed.ensures.events in
    lists_none c.args.out.now c.args.out.now refl refl (tries_none c.args.self.now.number _ asked.0 _) asked.2

pub returns-in-Missed-clause-wakes : goal.returns-in-Missed-clause-wakes
returns-in-Missed-clause-wakes g c =
    let asked = c.in-Missed.ensures.events in
    wakes_none c.args.out.now c.args.out.now refl (λ w own. tries_wake_none w _ own asked.0 _ (λ own. refl)) asked.2

pub returns-in-Missed-2-clause-lists : goal.returns-in-Missed-2-clause-lists
returns-in-Missed-2-clause-lists g c =
    let asked = c.in-Missed.ensures.events in
    lists_none c.args.out.now c.args.out.now refl refl (tries_none c.args.self.now.number _ asked.0 _) asked.1

pub returns-in-Missed-2-clause-wakes : goal.returns-in-Missed-2-clause-wakes
returns-in-Missed-2-clause-wakes g c =
    let asked = c.in-Missed.ensures.events in
    wakes_none c.args.out.now c.args.out.now refl (λ w own. tries_wake_none w _ own asked.0 _ (λ own. refl)) asked.1
