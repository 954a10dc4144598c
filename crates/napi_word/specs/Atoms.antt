-- When an atomic step may be made: in every state of the table that is consistent with the view of the seat that makes it, it
-- is a legal step, and the word that it writes encodes the state after it. A seat is what `atomic_table` gives a thread for its
-- steps; a `Pass` contains one.
use Rattle.std.specs.Prelude.{ℕ, ◌==◌}
use Rattle.atomic_table.specs.{Table.Allows, declared.shared.Seat.Seat}
use Rattle.napi_model.specs.{declared.{state.Seen.Seen, event.Operation.Operation}, Step.seen_after, Word.word_of}
use Rattle.napi_word.specs.{declared.table.StateTable.StateTable, Knowledge.Knowledge, Slot.{Content, Moves}, Rule.Holding}
use Rattle.napi_word.specs.{Operations.{makes_as_seen, exchanged}}
use prog.Atomic.{either}

-- the seat may make a step that replaces the word n by g n
abbrev pub MayMake : StateTable → Seat Content Knowledge → (ℕ → ℕ) → (Seen → Operation) → (Seen → Moves) → Type 0
MayMake t seat g f m = Allows (Holding t.table.shared.key) t.table.shared.table_id.slots seat.id seat.me 0 g (makes_as_seen f m seat.me)

-- the seat may make a compare-exchange from the word that encodes `seen` to the word after the operation
abbrev pub MayExchange : StateTable → Seat Content Knowledge → Seen → (Seen → Operation) → (Seen → Moves) → Type 0
MayExchange t seat seen f m =
    Allows (Holding t.table.shared.key) t.table.shared.table_id.slots seat.id seat.me 0
    (λ n. either (n == word_of seen) (word_of (seen_after (f seen) seen)) n) (exchanged f m (word_of seen) seat.me)
