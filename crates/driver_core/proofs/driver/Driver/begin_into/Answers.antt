use Rattle.std.proofs.Common.{◌≡◌, ◌∙◌, inl, inr, true, false, sym, subst, refl, ap, []}
use Rattle.std.proofs.lemmas.Bool.{cases_Bool}
use Rattle.driver_core.specs.Todo.{ended_in}
use Rattle.driver_core.specs.Driver.{IsEndedEarly, is_ending, is_running}
use Rattle.driver_core.specs.declared.{driver.Driver.Driver, todo.What.What}
use Rattle.driver_core.proofs.driver.Driver.begin_into.Goals as goal

pub returns-clause-asks : goal.returns-clause-asks
returns-clause-asks g c =
    let self = c.args.self.now in
    let begun = c.begin.ensures in
    let next = c.advance_into.ensures in
    let running : is_ending self ≡ true → is_running self ≡ true =
    λ ending. elim (cases_Bool self.runs) [
      | inl on ↦ on
      | inr off ↦ let both : true ≡ false = sym ending ∙ self.ends off in absurd (cc both)
    ] in
    record {
      due = next.due;
      number = λ _. rw (← begun.number) next.number;
      again = λ busy. absurd (busy c.requires.free);
      devices = rw next.devices (rw begun.devices refl);
      counts = next.counts ∙ begun.counts;
      pacings = next.pacings ∙ begun.pacings;
      limits = next.limits ∙ begun.limits;
      begins = λ off on. next.going self.list [] (begun.begun off) on;
      going = λ start polls going on. next.going start polls (begun.going start polls going) on;
      ended = λ start polls report is going on.
          rw (← begun.limits) (next.ended start polls report is (begun.going start polls going) (begun.ending ∙ on));
      early = λ start polls report is going ending.
          subst (λ (d : Driver). IsEndedEarly polls d c.advance_into.new.self report) (begun.same (running ending))
          (next.early start polls report is (begun.going start polls going) (begun.ending ∙ ending));
      stops = λ ending _. next.stops (begun.ending ∙ ending);
      ending = λ on. next.ending on ∙ begun.ending;
      line = (next.line.0, rw (← begun.line) next.line.1);
      rests = λ report is off.
          let over = ap (λ (what : What). ended_in what) is in
          let ended = next.ended self.list [] report over (begun.begun off) (begun.ending ∙ self.ends off) in
          (ended.count, ended.sum);
      whole = λ report is off.
          let over = ap (λ (what : What). ended_in what) is in
          rw (← begun.limits) (next.ended self.list [] report over (begun.begun off) (begun.ending ∙ self.ends off));
    }
