-- The errors of the machine, as the numbers that C gets.
use Rattle.std.specs.Prelude.{ℕ, ◌-◌, List, ◌++◌, length, replicate}
use Rattle.machine.specs.declared.fault.MachineFault.{MachineFault}
use Rattle.machine.specs.declared.fault.MachineFault.TheVariants.{BadFields, BadNumber, OutOfRange, Falls, ReadFailed}
use Rattle.machine.specs.declared.fault.MachineFault.TheVariants.{OutOfMemory, OutputFailed}
use Rattle.files_c.specs.Status.{FILES_BAD_ARRIVALS, FILES_OUT_OF_MEMORY}

-- the status of an error: bad arrivals if the bytes cause it, otherwise out of memory
abbrev pub machine_c_status : MachineFault → ℕ
machine_c_status ReadFailed = FILES_OUT_OF_MEMORY
machine_c_status OutOfMemory = FILES_OUT_OF_MEMORY
machine_c_status OutputFailed = FILES_OUT_OF_MEMORY
machine_c_status _ = FILES_BAD_ARRIVALS

-- the row that an error names, or 0
abbrev pub machine_fault_row : MachineFault → ℕ
machine_fault_row (BadFields row) = row
machine_fault_row (BadNumber row) = row
machine_fault_row (OutOfRange row) = row
machine_fault_row (Falls row) = row
machine_fault_row _ = 0

-- the 64 bytes of a message: its text, with zeros after it
abbrev pub with_zeros : List ℕ → List ℕ
with_zeros text = text ++ replicate (64 - length text) 0
