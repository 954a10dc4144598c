-- A failed output is never an error of the input's bytes.
use Rattle.std.{proofs.{Common.{◌≡◌, ℕ, Bool, true, false, List, [], ◌∷◌, ◌++◌, length, ◌⊎◌, inl, inr}}, specs.Prelude.{Option, Some, None}}
use Rattle.std.specs.{Prelude.{Result, Ok, Err, if◌then◌else◌, nat_le, nat_lt, ◌&&◌, ◌^◌, ◌*◌, ◌+◌}}
use Rattle.device_rows.specs.{Record.{is_numeral, numeral}, Row.is_within, Trace.records_of}
use Rattle.machine.specs.{Answer.IsArrivalsFault, Arrivals.{ArrivalFields, arrival_of, arrivals_after, arrivals_of, arrival_fields}}
use Rattle.machine.specs.{Arrivals.{is_arrivals_title, last_moment, arrival_of_fields, queue_of, arrival_in_range, ◌>>=◌}}
use Rattle.machine.specs.{Fault.IsArrivalReadFailure, declared.arrival.{Arrival.Arrival, Numbers.Numbers}}
use Rattle.machine.specs.declared.fault.MachineFault.{MachineFault, TheVariants.{BadHeader, BadNumber, Falls, OutOfRange, OutputFailed}}
use Rattle.machine_model.specs.declared.settings.MachineSettings.{MachineSettings}

ranged-never : (s : MachineSettings) (n last : ℕ) (row : Numbers) → arrival_in_range s n last row ≡ Err OutputFailed → ⊥
unfolding arrival_in_range
ranged-never s n last row =
    by (nat_lt row.moment (2 ^ 62) && (is_within 1 (64 * s.processors) row.device && (is_within 1 65535 row.bytes
    && nat_le (queue_of s.queues row.device row.flow) (64 * s.processors)))) (nat_le last row.moment)
  where
    arrival : Arrival
    arrival = record { moment = row.moment; device = queue_of s.queues row.device row.flow }

    by : (b c : Bool) → (if b then (if c then Ok arrival else Err (Falls n)) else Err (OutOfRange n)) ≡ Err OutputFailed → ⊥
    by true true is = cc is
    by true false is = cc is
    by false c is = cc is

four-never : (s : MachineSettings) (n last : ℕ) (o : Option ArrivalFields) → arrival_of_fields s n last o ≡ Err OutputFailed → ⊥
unfolding arrival_of_fields
four-never s n last None = λ is. cc is
four-never s n last (Some four) = by (is_numeral four.0 && (is_numeral four.1 && (is_numeral four.2 && is_numeral four.3)))
  where
    row : Numbers
    row = record { moment = numeral four.0; device = numeral four.1; bytes = numeral four.2; flow = numeral four.3 }

    by : (b : Bool) → (if b then arrival_in_range s n last row else Err (BadNumber n)) ≡ Err OutputFailed → ⊥
    by true is = ranged-never s n last row is
    by false is = cc is

after-never : (s : MachineSettings) (earlier : List Arrival) (records : List (List (List ℕ)))
    → arrivals_after s earlier records ≡ Err OutputFailed → ⊥
unfolding arrivals_after
after-never s earlier [] = λ is. cc is
after-never s earlier (fields ∷ records) =
    by (arrival_of s earlier fields) (λ is. four-never s (length earlier + 1) (last_moment earlier) (arrival_fields s.queues fields) is)
    (λ arrival is. after-never s (earlier ++ arrival ∷ []) records is)
  where
    by : (r : Result Arrival MachineFault) → (r ≡ Err OutputFailed → ⊥)
        → ((arrival : Arrival) → arrivals_after s (earlier ++ arrival ∷ []) records ≡ Err OutputFailed → ⊥)
        → (r >>= (λ arrival. arrivals_after s (earlier ++ arrival ∷ []) records)) ≡ Err OutputFailed → ⊥
    by (Ok arrival) first rest is = rest arrival is
    by (Err fault) first rest is = first (cc is)

pub never-output : (s : MachineSettings) (records : List (List (List ℕ))) → arrivals_of s records ≡ Err OutputFailed → ⊥
unfolding arrivals_of
never-output s [] = λ is. cc is
never-output s (header ∷ records) = by (is_arrivals_title s.queues (arrival_fields s.queues header))
  where
    by : (b : Bool) → (if b then arrivals_after s [] records else Err BadHeader) ≡ Err OutputFailed → ⊥
    by true is = after-never s [] records is
    by false is = cc is

-- a reader and an allocation never fail with OutputFailed, and the bytes never have that error
pub read-never : (s : MachineSettings) (bytes : List ℕ) (fault : MachineFault) → fault ≡ OutputFailed
    → IsArrivalReadFailure fault ⊎ IsArrivalsFault s bytes fault → ⊥
read-never s bytes fault same (inl (inl read)) = cc (same, read.0)
read-never s bytes fault same (inl (inr memory)) = cc (same, memory.0)
read-never s bytes fault same (inr is) = never-output s (records_of bytes) (rw same at is)
