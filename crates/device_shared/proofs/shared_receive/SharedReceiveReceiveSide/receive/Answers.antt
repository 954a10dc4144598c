use Rattle.device_shared.proofs.CallersFacts.{poller-polled, thread-polled}
use Rattle.device_shared.proofs.shared_receive.SharedReceiveReceiveSide.receive.Goals.{then-matches, else-matches}
use Rattle.device_shared.proofs.shared_receive.SharedReceiveReceiveSide.receive.Goals as goal

pub invariant_of-self : goal.invariant_of-self
invariant_of-self g c =
    elim c.if-matches.branch [
      | then-matches w ↦
          rw w.self-inside-is (
            poller-polled w.poll.ensures.input c.self.invariant.0 w.poll.new.place w.poll.ensures.pass w.poll.ensures.kinds.0,
            c.self.invariant.1,
          )
      | else-matches w ↦
          rw w.self-inside-is (
            thread-polled w.poll-else-matches.ensures.input c.self.invariant.0 w.poll-else-matches.new.place
                w.poll-else-matches.ensures.pass w.poll-else-matches.ensures.kinds.1,
            c.self.invariant.1,
          )
    ]
