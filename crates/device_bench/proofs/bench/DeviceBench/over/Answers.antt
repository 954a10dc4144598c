use Rattle.{std.proofs.Common.{sym, subst, false}, device_bench.{specs.Kept.IsKept, proofs.BenchFacts.kept-empty}}
use Rattle.device_bench.proofs.bench.DeviceBench.over.Goals as goal

pub invariant_of-result-clause-kept : goal.invariant_of-result-clause-kept
invariant_of-result-clause-kept g c = λ x. subst (IsKept false) (sym c.in_ok-empty_table.ensures) kept-empty
