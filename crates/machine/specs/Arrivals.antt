-- The arrivals of a text, or its first error, as a function of its records. See docs/FORMATS.md, "Arrivals".
use Rattle.std.specs.Prelude.{ℕ, ◌+◌, ◌-◌, ◌*◌, ◌%◌, ◌^◌, ◌<◌, ◌≤◌, ◌==◌, ◌&&◌, ◌||◌, Bool, false, nat_le, nat_lt, List, [], ◌∷◌, ◌++◌}
use Rattle.std.specs.{Prelude.{length, fold, Option, Some, None, if◌then◌else◌, Result, Ok, Err, codes}, Str.bytes_eq}
use Rattle.csv.specs.Records.{field_at}
use Rattle.{device_rows.specs.{Record.{is_numeral, numeral}, Row.is_within}}
use Rattle.{machine_model.specs.declared.settings.MachineSettings.MachineSettings}
use Rattle.machine.specs.declared.arrival.Arrival.{Arrival}
use Rattle.machine.specs.declared.arrival.Numbers.{Numbers}
use Rattle.machine.specs.declared.fault.MachineFault.{MachineFault}
use Rattle.machine.specs.declared.fault.MachineFault.TheVariants.{BadHeader, BadFields, BadNumber, OutOfRange, Falls}

-- a sequence of steps that ends at the first error
infixl 10 ◌>>=◌
abbrev pub ◌>>=◌ : {A B : Type 0} → Result A MachineFault → (A → Result B MachineFault) → Result B MachineFault
(Ok x) >>= next = next x
(Err fault) >>= next = Err fault

-- how many fields a record has: with several queues per device it also has a flow
abbrev pub width : ℕ → ℕ
width queues = if queues == 1 then 3 else 4

-- the flow of a record; 0 with one queue per device
abbrev pub flow_of : ℕ → List (List ℕ) → Option (List ℕ)
flow_of queues fields = if queues == 1 then Some (codes "0") else field_at fields 3

-- the four fields: moment, device, bytes and flow
abbrev pub ArrivalFields : Type 0
ArrivalFields = List ℕ × List ℕ × List ℕ × List ℕ

abbrev pub four_from : Option (List ℕ) → Option (List ℕ) → Option (List ℕ) → Option (List ℕ) → Option ArrivalFields
four_from (Some moment) (Some device) (Some bytes) (Some flow) = Some (moment, device, bytes, flow)
four_from _ _ _ _ = None

unfoldable pub arrival_fields : ℕ → List (List ℕ) → Option ArrivalFields
arrival_fields queues fields =
    if length fields == width queues
    then four_from (field_at fields 0) (field_at fields 1) (field_at fields 2) (flow_of queues fields)
    else None

-- the header is `ns,device,bytes`; with several queues per device it is `ns,device,bytes,flow`; older texts have `moment` for `ns`
abbrev pub is_arrivals_title : ℕ → Option ArrivalFields → Bool
is_arrivals_title queues None = false
is_arrivals_title queues (Some four) =
    (bytes_eq four.0 (codes "ns") || bytes_eq four.0 (codes "moment"))
    && (bytes_eq four.1 (codes "device") && (bytes_eq four.2 (codes "bytes") && (queues == 1 || bytes_eq four.3 (codes "flow"))))

-- the number of the queue that receives a flow of a device, if each device has this many queues
abbrev pub queue_of : ℕ → ℕ → ℕ → ℕ
queue_of queues device flow = (device - 1) * queues + flow % queues + 1

-- The arrival of row n with these numbers, if they are in their ranges: the moment is below 2^62 and not before `last`, the
-- moment of the previous row; the device has a queue of one of the processors, which have 64 queues each; and 1 to 65535 bytes.
unfoldable pub arrival_in_range : MachineSettings → ℕ → ℕ → Numbers → Result Arrival MachineFault
arrival_in_range s n last row =
    let most = 64 * s.processors in
    let queue = queue_of s.queues row.device row.flow in
    if nat_lt row.moment (2 ^ 62) && (is_within 1 most row.device && (is_within 1 65535 row.bytes && nat_le queue most))
    then (if nat_le last row.moment then Ok (record { moment = row.moment; device = queue }) else Err (Falls n))
    else Err (OutOfRange n)

-- the arrival of row n from the bytes of its fields, which have to be numbers
unfoldable pub arrival_of_fields : MachineSettings → ℕ → ℕ → Option ArrivalFields → Result Arrival MachineFault
arrival_of_fields s n last None = Err (BadFields n)
arrival_of_fields s n last (Some four) =
    if is_numeral four.0 && (is_numeral four.1 && (is_numeral four.2 && is_numeral four.3))
    then arrival_in_range s n last (record {
      moment = numeral four.0;
      device = numeral four.1;
      bytes = numeral four.2;
      flow = numeral four.3;
    })
    else Err (BadNumber n)

-- the moment of the last of these arrivals, 0 before the first
abbrev pub last_moment : List Arrival → ℕ
last_moment earlier = fold (λ _ arrival. arrival.moment) 0 earlier

-- the arrival of a record after these earlier ones, or its first error
abbrev pub arrival_of : MachineSettings → List Arrival → List (List ℕ) → Result Arrival MachineFault
arrival_of s earlier fields = arrival_of_fields s (length earlier + 1) (last_moment earlier) (arrival_fields s.queues fields)

-- the earlier arrivals and those of the records, or the first error among these
unfoldable pub arrivals_after : MachineSettings → List Arrival → List (List (List ℕ)) → Result (List Arrival) MachineFault
arrivals_after s earlier [] = Ok earlier
arrivals_after s earlier (fields ∷ records) =
    arrival_of s earlier fields >>= (λ arrival. arrivals_after s (earlier ++ arrival ∷ []) records)

-- the arrivals of all records of a text, or the first error
unfoldable pub arrivals_of : MachineSettings → List (List (List ℕ)) → Result (List Arrival) MachineFault
arrivals_of s [] = Err BadHeader
arrivals_of s (header ∷ records) = if is_arrivals_title s.queues (arrival_fields s.queues header) then arrivals_after s [] records else Err
    BadHeader

-- the queue of an arrival is one of the processors', and its moment is below 2^62
pub record IsInRange (processors : ℕ) (arrival : Arrival) : Type 0 where
  pub device_from : 1 ≤ arrival.device
  pub device_to : arrival.device ≤ 64 * processors
  pub moment : arrival.moment < 2 ^ 62
