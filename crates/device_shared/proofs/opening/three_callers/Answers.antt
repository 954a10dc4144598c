use Rattle.device_shared.proofs.OpeningFacts.{new_callers, none_left, popped}
use Rattle.device_shared.proofs.opening.three_callers.Goals as goal

pub returns-clause-new : goal.returns-clause-new
returns-clause-new c =
    let all =
    popped c.args.callers.now.items c.next_caller-thread.new.callers.items c.next_caller-poller.new.callers.items
    c.next_caller-interrupt.new.callers.items c.next_caller-interrupt.result c.next_caller-poller.result c.next_caller-thread.result
    c.next_caller-thread.ensures.left c.next_caller-poller.ensures.left c.next_caller-interrupt.ensures.left c.requires.many in
    new_callers c.args.napi.now c.args.callers.now.items _ _ _ all c.requires.each

pub returns-clause-none : goal.returns-clause-none
returns-clause-none c =
    none_left c.args.callers.now.items c.next_caller-thread.new.callers.items c.next_caller-poller.new.callers.items
    c.next_caller-interrupt.new.callers.items c.next_caller-interrupt.result c.next_caller-poller.result c.next_caller-thread.result
    c.next_caller-thread.ensures.left c.next_caller-poller.ensures.left c.next_caller-interrupt.ensures.left c.requires.many
