use Rattle.std.proofs.Common.{◌≡◌, refl, rules}
use Rattle.machine.specs.declared.arrivals.ArrivalRows.{ArrivalRows}
use Rattle.machine.proofs.ReadingFacts.{given-plain, given-same}
use Rattle.machine.proofs.arrivals.Arrivals.plain.Goals as goal

pub returns-in_default-found-clause-same : goal.returns-in_default-found-clause-same
returns-in_default-found-clause-same g c none earlier all given =
    c.in_ok-leave_plain.ensures.same earlier all
    (given-same g.R.Read.remaining c.args.self.now earlier all given _ refl refl refl (λ state bytes left between.
    let (at, holds) = rw c.in-Plain.is at left in
    record {
      state_after = state;
      left = bytes;
      stands = (at, c.in_ok-found.ensures.none c.in_default-found.is bytes holds);
      between = between;
      same = refl;
    }))

pub returns-clause-arrival : goal.returns-clause-arrival
returns-clause-arrival g c earlier all given =
    let is : c.count.new.self.source ≡ ArrivalRows.Plain c.next_plain.new.block = search rules in
    let settings : c.count.new.self.settings ≡ c.args.self.now.settings = search rules in
    let rows : c.count.new.self.rows ≡ c.args.row = search rules in
    let last : c.count.new.self.last ≡ c.in-Some.arrival.moment = search rules in
    given-plain g.R.Read.remaining c.args.self.now earlier all given c.count.new.self c.in-Plain.block c.next_plain.new.block c.args.row
    c.in-Some.arrival c.in-Plain.is is (rw c.in-Some.is at c.in_ok-found.ensures.row) settings c.requires.row rows last
