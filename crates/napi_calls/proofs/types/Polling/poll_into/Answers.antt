use Rattle.std.proofs.Common.{take}
use Rattle.{rx_ring.specs.Ends.received_list, napi_calls.{specs.Packets.received_before, proofs.Packets.polled_more}}
use Rattle.napi_calls.proofs.types.Polling.poll_into.Goals as goal

pub returns-clause-polled : goal.returns-clause-polled
returns-clause-polled c =
    polled_more (received_before c.args.self.now.pass) (received_list c.args.self.now.ctx)
    (received_list c.poll_into.new.self) (take c.poll_into.result c.poll_into.new.packets) c.args.self.now.has.received
    c.poll_into.ensures.next.poll.1
