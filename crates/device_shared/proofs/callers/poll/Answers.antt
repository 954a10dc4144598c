use Rattle.std.proofs.Common.{◌∙◌}
use Rattle.device_shared.proofs.CallersFacts.{same-fed}
use Rattle.device_shared.proofs.callers.poll.Goals as goal

pub beside-requires-in-Polls : goal.beside-requires-in-Polls
beside-requires-in-Polls c =
    same-fed c.args.input.now c.beside.new.input _ c.poll.new.self.pass c.beside.ensures.meets.same_input
    (c.poll.ensures.pass ∙ c.beside.ensures.pass) (rw c.in-Polls.is at c.requires.fed)

pub beside-requires-in-Busy-2 : goal.beside-requires-in-Busy-2
beside-requires-in-Busy-2 c =
    same-fed c.args.input.now c.beside-in-Busy.new.input _ c.poll-in-Busy.new.self.pass c.beside-in-Busy.ensures.meets.same_input
    (c.poll-in-Busy.ensures.pass ∙ c.beside-in-Busy.ensures.pass) (rw c.in-Busy.is at c.requires.fed)
