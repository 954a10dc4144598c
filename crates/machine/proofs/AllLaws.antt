-- The laws that `laws.rt` names for its proofs; the others have answers of their own.
use Rattle.machine.proofs.{FateFacts.delivers-in-order, GapFacts.interrupts-are-apart, LifeFacts.{arrives-as-one, each-lives}}
use Rattle.machine.proofs.{LifeFacts.{every-run-ends, runs-as-one}, WorkFacts.works-within}

pub ruleset laws = (arrives-as-one, delivers-in-order, each-lives, every-run-ends, interrupts-are-apart, runs-as-one, works-within)
