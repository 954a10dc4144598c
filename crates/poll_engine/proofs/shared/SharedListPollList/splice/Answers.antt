use Rattle.std.proofs.Common.{◌≡◌, ap, ℕ, List, length, arith}
use Rattle.poll_engine.proofs.shared.SharedListPollList.splice.Goals as goal

pub returns-clause-room : goal.returns-clause-room
returns-clause-room g c =
    let none : length c.take_all.new.from ≡ 0 = ap (λ (l : List ℕ). length l) c.take_all.ensures.none_left in
    omega (arith, none, c.ids.ensures.room)
