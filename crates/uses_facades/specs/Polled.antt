-- The effect of a poll on a card of the test.
use Rattle.std.specs.Prelude.{◌≡◌, ℕ, ◌-◌, ◌<◌, min}
use Rattle.poll_engine.specs.Next.TheVariants.{Gone}
use Rattle.poll_engine.specs.Once.{Once}
use Rattle.uses_facades.specs.declared.polling.PolledCard.{PolledCard}

-- a poll returns the packets that wait, at most the weight; a poll that returns fewer than the weight completes
pub record PolledCardPolls (before : PolledCard) (id weight : ℕ) (once : Once) (after : PolledCard) : Type 0 where
  pub work : once.work ≡ min before.packets weight
  pub left : after.packets ≡ before.packets - weight
  pub ends : once.work < weight → once.next ≡ Gone
