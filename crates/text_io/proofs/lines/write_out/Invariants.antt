-- The bytes that were removed from `rest` were written.
use Rattle.std.{proofs.Common.{◌≡◌, ℕ, List, ◌++◌}, specs.Io.KnownBytes.Appends}
use Rattle.text_io.proofs.lines.write_out.Given as goal

abbrev pub invariant-loop : goal.invariant-loop
invariant-loop g l =
    (done : List ℕ) × (l.bytes ≡ done ++ l.rest) × Appends (g.W.Write.contents l.initial.writer) (g.W.Write.contents l.writer) done
