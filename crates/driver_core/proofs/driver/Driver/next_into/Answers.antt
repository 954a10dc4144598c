use Rattle.std.proofs.Common.{◌≡◌, ◌∙◌, Some, None, true, false, sym, ap, refl, []}
use Rattle.std.proofs.lemmas.List.{append-nil}
use Rattle.driver_core.specs.Driver.{line_of}
use Rattle.poll_runs.specs.declared.run.RunReport.{RunReport}
use Rattle.driver_core.specs.Todo.{ended_in}
use Rattle.driver_core.specs.declared.todo.What.{What}
use Rattle.driver_core.proofs.driver.Driver.next_into.Goals as goal

ends-none : (what : What) (report : RunReport) → ended_in what ≡ None → ended_in what ≡ Some report → ⊥
ends-none what report none some = let both : None ≡ Some report = sym none ∙ some in cc both

pub returns-clause-asks : goal.returns-clause-asks
returns-clause-asks g c =
    let last = c.in-Some.ensures in
    let what = c.in-Some.todo.what in
    record {
      due = last.due;
      number = λ free. absurd (last.free free);
      again = λ _. (refl, last.number);
      devices = refl;
      counts = refl;
      pacings = refl;
      limits = refl;
      begins = λ off on. let both : false ≡ true = sym off ∙ on in absurd (cc both);
      going = λ start polls going on. going;
      ended = λ start polls report is running on. absurd (ends-none what report last.more is);
      early = λ start polls report is running ending. absurd (ends-none what report last.more (ap (λ (w : What). ended_in w) is));
      stops = λ ending free. absurd (last.free free);
      ending = λ on. refl;
      line = ([], sym (append-nil (line_of c.args.self.now)));
      rests = λ report is off. absurd (ends-none what report last.more (ap (λ (w : What). ended_in w) is));
      whole = λ report is off. absurd (ends-none what report last.more (ap (λ (w : What). ended_in w) is));
    }
