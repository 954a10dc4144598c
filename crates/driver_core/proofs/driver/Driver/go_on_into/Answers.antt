use Rattle.std.proofs.Common.{◌≡◌, ◌∙◌, true, false, refl, sym}
use Rattle.driver_core.specs.Driver.{is_running}
use Rattle.driver_core.proofs.driver.Driver.go_on_into.Goals as goal

pub returns-clause-asks : goal.returns-clause-asks
returns-clause-asks g c =
    let self = c.args.self.now in
    let next = c.advance_into.ensures in
    let not_off : is_running self ≡ false → true ≡ false = λ off. sym c.requires.runs ∙ off in
    record {
      due = next.due;
      number = λ _. next.number;
      again = λ busy. absurd (busy c.requires.free);
      devices = rw next.devices refl;
      counts = next.counts;
      pacings = next.pacings;
      limits = next.limits;
      begins = λ off on. absurd (cc (not_off off));
      going = next.going;
      ended = next.ended;
      early = next.early;
      stops = λ ending _. next.stops ending;
      ending = next.ending;
      line = next.line;
      rests = λ report is off. absurd (cc (not_off off));
      whole = λ report is off. absurd (cc (not_off off));
    }
