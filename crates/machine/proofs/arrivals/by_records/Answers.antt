use Rattle.std.proofs.Common.{◌∷◌, refl, sym}
use Rattle.csv.specs.declared.parser.State.{State}
use Rattle.machine.proofs.ReadingFacts.{empty-in}
use Rattle.machine.proofs.arrivals.by_records.Goals as goal

pub returns-in_ok-records_left-in-Plain-clause-same : goal.returns-in_ok-records_left-in-Plain-clause-same
returns-in_ok-records_left-in-Plain-clause-same g c state bytes left between =
    let (at, holds) = rw c.in-Plain.is at left in
    record {
      state_after = State.StartRecord;
      left = 10 ∷ bytes;
      stands = (sym c.in_ok-records_left-in-Plain.ensures.state, c.in_ok-records_left-in-Plain.ensures.start bytes holds);
      between = refl;
      same = rw at (empty-in bytes);
    }
