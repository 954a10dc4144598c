use Rattle.std.{proofs.Common.{◌≡◌, true, refl}, specs.Prelude.is_some}
use Rattle.machine_model.proofs.SoftirqFacts.{polled-exact}
use Rattle.machine_model.proofs.softirq.Softirq.polled.Goals as goal

pub returns-then-self : goal.returns-then-self
returns-then-self c =
    let run = c.self.inside.run in
    let some : is_some run.asked ≡ true = rw (← c.self.view_is, c.if-self.true) at c.requires.asked in
    let e = c.polled.ensures in
    rw (← c.self.view_is, c.if-self.true)
    (polled-exact run c.polled.new.self c.self.inside.list c.polled.new.list c.self.inside.began c.args.once run.asked refl some
    c.requires.next e.list e.repoll e.kept e.rests e.counts e.settings)
