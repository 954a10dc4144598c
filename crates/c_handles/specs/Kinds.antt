-- The queue for an instance, by its number in C (`enum fq_kind`).
use Rattle.std.specs.Prelude.{ℕ, ◌==◌, if◌then◌else◌, Option, Some, None}
use Rattle.napi_model.specs.declared.state.Kind.{Kind}
use Rattle.napi_model.specs.declared.state.Kind.TheVariants as kind

-- the queue with this number
abbrev pub kind_in : ℕ → Option Kind
kind_in number = if number == 0 then Some kind.List else (if number == 1 then Some kind.Thread else None)
