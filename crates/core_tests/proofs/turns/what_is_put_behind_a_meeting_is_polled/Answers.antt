use Rattle.std.proofs.Common.{◌∙◌}
use Rattle.core_tests.proofs.turns.what_is_put_behind_a_meeting_is_polled.Goals as goal

pub beside-requires : goal.beside-requires
beside-requires g c =
    let asks = c.granted-owner.ensures.made in
    let is = c.make_bed-input.ensures.input in
    (is.0, c.taken-poller.ensures.made.seat.ring ∙ c.handed-caller.ensures.made.seat.ring ∙ asks.1.seat.ring ∙ is.1, is.2)
