-- The operation of each step, and its move of the slot, as functions of the word that it finds.
use Rattle.std.specs.Prelude.{◌≡◌, ℕ, ◌==◌, Bool, true, false, ◌||◌, [], Option, Some, None}
use Rattle.atomic_table.specs.Table.{Me}
use Rattle.napi_model.specs.declared.{state.{Kind.Kind, Seen.Seen}, event.{Prep.Prep, Done.{Done, TheVariants.{Released, Again}}}}
use Rattle.napi_model.specs.{declared.event.Operation.{Operation, TheVariants.{Look, Schedule, TakeDisable}}, Word.word_of}
use Rattle.napi_word.specs.{declared.history.Holds.Holds, Knowledge.Knowledge, Slot.{Content, Tied, Moves, stays, moved, SlotDelivers}}
use Rattle.napi_word.specs.Rule.{begun_view}
use Rattle.napi_word.specs.{Rule.begun_slot, Events.Steps}
use Rattle.napi_model.specs.declared.state.Kind.TheVariants as kind
use Rattle.napi_model.specs.declared.event.Prep.TheVariants as prep

-- the seat made this operation, and its hold on the slot changed accordingly (a seat is what `atomic_table` gives a thread for
-- its steps)
abbrev pub Did : Operation → Moves → Me Content Knowledge → Me Content Knowledge → Type 0
Did o m me me' = Steps me.0 o me'.0 × ((h : Holds) → Tied h me → Tied (moved m h) me') × SlotDelivers m me me'

-- the step found a word that shows x, so its operation and its move of the slot are these
abbrev pub makes_as_seen : (Seen → Operation) → (Seen → Moves) → Me Content Knowledge → ℕ → Me Content Knowledge → Type 0
makes_as_seen f m me n me' = (x : Seen) × (n ≡ word_of x) × Did (f x) (m x) me me'

abbrev pub when : Bool → Moves → Moves
when true m = m
when false m = stays

-- the operation of a compare-exchange that expected a word: this one if it found that word, otherwise a look
abbrev pub either_op : Bool → Operation → Seen → Operation
either_op true o x = o
either_op false o x = Look x

abbrev pub exchanged : (Seen → Operation) → (Seen → Moves) → ℕ → Me Content Knowledge → ℕ → Me Content Knowledge → Type 0
exchanged f m expected = makes_as_seen (λ x. either_op (word_of x == expected) (f x) x) (λ x. when (word_of x == expected) (m x))

abbrev pub no_move : Seen → Moves
no_move x = stays

-- ---- the reply, by the word

abbrev pub load_op : Bool → Seen → Operation
load_op true x = Schedule prep.Disabled
load_op false x = Look x

abbrev pub prep_of : Bool → Prep
prep_of true = prep.Missed
prep_of false = prep.Granted

abbrev pub done_of : Bool → Done
done_of true = Again
done_of false = Released

-- the bit of this queue is set
abbrev pub is_marked : Kind → Option Kind → Bool
is_marked kind.List (Some kind.List) = true
is_marked kind.Thread (Some kind.Thread) = true
is_marked kind.List (Some kind.Thread) = false
is_marked kind.Thread (Some kind.List) = false
is_marked kind.List None = false
is_marked kind.Thread None = false

-- the controller can't take an instance while one of these flags is set
abbrev pub shows_busy : Seen → Bool
shows_busy x = x.flags.sched || x.flags.npsvc

abbrev pub busy_op : Bool → Seen → Operation
busy_op true x = TakeDisable false
busy_op false x = Look x

-- ---- loads that are no events

-- the first seat takes the slot with the first context; its view has one local history for each number
abbrev pub table_begun : Me Content Knowledge → ℕ → Me Content Knowledge → Type 0
table_begun me n me' = (me'.0 ≡ begun_view me.0) × (me'.1 ≡ begun_slot me.0)

-- a seat that owns the slot returns it; the view doesn't change
abbrev pub slot_returned : Me Content Knowledge → ℕ → Me Content Knowledge → Type 0
slot_returned me n me' = (me'.0 ≡ me.0) × (me'.1 ≡ [])
