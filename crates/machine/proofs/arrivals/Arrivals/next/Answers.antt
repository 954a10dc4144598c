use Rattle.std.proofs.{Common.{◌≤◌, ◌-◌, ◌^◌, inl, inr, refl, rules}, lemmas.Result.IfErr-weaker}
use Rattle.machine.specs.Endless.{endless_at}
use Rattle.machine.proofs.arrivals.Arrivals.next.Goals as goal

pub returns-in_default-clause-fault : goal.returns-in_default-clause-fault
returns-in_default-clause-fault g c earlier all given =
    let most : 2 ^ 64 - 1 ≤ c.args.self.now.rows = search rules in
    inl (inl (refl, inr (endless_at c.args.self.now.rows most)))

pub returns-clause-fault : goal.returns-clause-fault
returns-clause-fault g c =
    IfErr-weaker c.record.result _ _ (λ fault told earlier all given.
    told earlier all (c.in_ok-arrival.ensures.same c.in_default-2.is earlier all given)) c.record.ensures.fault
