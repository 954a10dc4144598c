use Rattle.std.proofs.Common.{◌≡◌, ℕ, ◌-◌, ◌≤◌, vec_len, vec_capacity, Some, slice_get, length}
use Rattle.napi_word.specs.declared.table.Pass.{Pass}
use Rattle.napi_word.specs.{declared.history.Holds.TheVariants.Within, Rule.maker_at, Passes.{view_of, IsPassOf, IsStored, IsNewPass}}
use Rattle.napi_word.proofs.table.StateTable.new.Given as goal

abbrev pub invariant-loop-number : goal.invariant-loop-number
invariant-loop-number l =
    (length l.passes.items ≡ l.number)
    × (l.seats ≤ vec_capacity l.passes)
    × IsPassOf l.made l.maker
    × (l.made.table.shared.key.controller ≡ l.fn.seats - 1)
    × (l.made.table.shared.key.ring.value ≡ l.fn.ctx)
    × (view_of l.maker ≡ maker_at (l.fn.seats - 1) l.fn.ctx l.number)
    × (l.maker.holds ≡ Within)
    × ((k : ℕ) (p : Pass) → slice_get l.passes.items k ≡ Some p → IsNewPass l.made (l.fn.seats - 1) l.fn.ctx k p)
    × (vec_len l.passes ≡ l.number)
    × IsStored l.fn.ctx l.maker
