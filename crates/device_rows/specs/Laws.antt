-- Which records of a text determine its trace.
use Rattle.std.specs.Prelude.{◌≡◌, ◌≤◌, ℕ, List, ◌∷◌, ◌++◌, take, Err}
use Rattle.device_rows.specs.Trace.{trace_of}
use Rattle.device_rows.specs.declared.fault.TraceFault.{TraceFault}

-- after the header, only as many rows as a trace may have, and one more, matter
abbrev pub FirstRecordsDecide : Type 0
FirstRecordsDecide = (records : List (List (List ℕ))) (count : ℕ) → 100002 ≤ count → trace_of (take count records) ≡ trace_of records

-- what follows an error doesn't matter: the error of a trace is that of its first faulty row
abbrev pub FirstFaultStands : Type 0
FirstFaultStands = (header : List (List ℕ)) (records more : List (List (List ℕ))) (fault : TraceFault)
    → trace_of (header ∷ records) ≡ Err fault → trace_of (header ∷ records ++ more) ≡ Err fault
