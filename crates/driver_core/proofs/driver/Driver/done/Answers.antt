use Rattle.std.proofs.Common.{◌≡◌, ◌∙◌, ◌∷◌, ◌++◌, ℕ, Some, [], sym, subst}
use Rattle.driver_core.specs.Driver.{IsRunning, poll_of}
use Rattle.driver_core.proofs.driver.Driver.done.Goals as goal

pub returns-in-Some-clause-going : goal.returns-in-Some-clause-going
returns-in-Some-clause-going c = λ start polls id is going.
    let asked : Some c.in-Some.device ≡ Some id = sym c.in-Some.is ∙ c.asked.ensures ∙ is in
    let same : c.in-Some.device ≡ id = cc asked in
    subst (λ (k : ℕ). IsRunning start (polls ++ poll_of k c.args.packets c.args.rearm c.args.self.now ∷ []) c.fetched.new.self) same
    (c.fetched.ensures.going start polls going)
