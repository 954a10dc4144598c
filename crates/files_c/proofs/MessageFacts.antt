-- The message of each error of arrivals has less than 64 bytes, so it fits into a result with a zero after it.
use Rattle.std.proofs.Common.{◌≡◌, ◌<◌, ◌≤◌, ◌^◌, ◌-◌, ℕ, List, ◌++◌}
use Rattle.std.proofs.Common.{length, take, drop, replicate, codes, sym, ap, arith, length-append, ◌∙◌}
use Rattle.std.specs.Fmt.{decimal}
use Rattle.std.proofs.lemmas.Fmt.{length-decimal-le}
use Rattle.std.proofs.lemmas.List.{take-append-drop, drop-replicate, take-append-le, take_all}
use Rattle.machine.specs.Fault.{machine_fault_line}
use Rattle.machine.specs.declared.fault.MachineFault.{MachineFault}
use Rattle.machine.specs.declared.fault.MachineFault.TheVariants.{BadHeader, BadFields, BadNumber, OutOfRange, Falls, ReadFailed}
use Rattle.machine.specs.declared.fault.MachineFault.TheVariants.{OutOfMemory, OutputFailed}
use Rattle.files_c.specs.MachineFaults.{machine_fault_row, with_zeros}

named : (front : List ℕ) (row : ℕ) → length front ≤ 40 → row < 2 ^ 64 → length (front ++ decimal row) < 64
named front row short h =
    let digits = length-decimal-le 20 row (omega arith) (omega arith) h in
    omega (arith, short, digits, length-append front (decimal row))

pub fits : (fault : MachineFault) → machine_fault_row fault < 2 ^ 64 → length (machine_fault_line fault) < 64
fits BadHeader h = omega arith
fits (BadFields row) h = named (codes "arrivals fault 2 BadFields row ") row (omega arith) h
fits (BadNumber row) h = named (codes "arrivals fault 3 BadNumber row ") row (omega arith) h
fits (OutOfRange row) h = named (codes "arrivals fault 5 OutOfRange row ") row (omega arith) h
fits (Falls row) h = named (codes "arrivals fault 8 Falls row ") row (omega arith) h
fits ReadFailed h = omega arith
fits OutOfMemory h = omega arith
fits OutputFailed h = omega arith

pub without-feed : (text line : List ℕ) → line ≡ text ++ codes "\n" → take (length line - 1) line ≡ text
without-feed text line is =
    let one : length line - 1 ≡ length text = omega (arith, ap length is, length-append text (codes "\n")) in
    ap (λ (n : ℕ). take n line) one ∙ ap (λ (l : List ℕ). take (length text) l) is
    ∙ take-append-le (length text) text (codes "\n") (omega arith) ∙ take_all (length text) text (omega arith)

-- a text that was copied to the front of zeros
pub copied : (text message : List ℕ) → take (length text) message ≡ text
    → drop (length text) message ≡ drop (length text) (replicate 64 0) → message ≡ with_zeros text
copied text message front rest =
    sym (take-append-drop (length text) message) ∙ ap (λ (begin : List ℕ). begin ++ drop (length text) message) front
    ∙ ap (λ (end : List ℕ). text ++ end) (rest ∙ drop-replicate (length text) 64 0)
