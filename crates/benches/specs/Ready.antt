-- When a pass may request a poll.
use Rattle.napi_word.specs.declared.table.Pass.{Pass}
use Rattle.napi_word.specs.declared.table.StateTable.{StateTable}
use Rattle.napi_word.specs.Passes.{IsPassOf, IsSlotFilled}

-- the pass belongs to this table, and hasn't taken the context out of the slot
abbrev pub IsReady : StateTable → Pass → Type 0
IsReady t p = IsPassOf t p × IsSlotFilled p
