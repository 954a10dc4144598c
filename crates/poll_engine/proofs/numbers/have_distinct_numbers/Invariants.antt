use Rattle.std.proofs.Common.{◌≡◌, ◌+◌, length}
use Rattle.poll_engine.specs.Numbers.{have_distinct_numbers}
use Rattle.poll_engine.proofs.numbers.have_distinct_numbers.Given as goal

abbrev pub invariant-loop : goal.invariant-loop
invariant-loop g l = record {
  same : have_distinct_numbers l.stations ≡ have_distinct_numbers l.rest;
  left : length l.rest + l.counter ≡ length l.stations;
}
