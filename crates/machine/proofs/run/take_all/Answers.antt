use Rattle.std.proofs.{Common.{[], ◌∙◌, ◌∷◌, ◌++◌, ap, arith, inl, inr, refl, sym}, lemmas.Result.err_from_is_err_and}
use Rattle.machine_model.specs.declared.settings.MachineSettings.{MachineSettings}
use Rattle.machine.specs.Endless.{endless_at}
use Rattle.machine.proofs.TakingFacts.{takes-push}
use Rattle.machine.proofs.run.take_all.Goals as goal

pub rows-init : goal.rows-init
rows-init g c =
    record { opened = c.requires.opened; processors = c.requires.processors; count = refl; given = λ all given. ([], given, refl) }

pub returns-in_err-next-clause-fault : goal.returns-in_err-next-clause-fault
returns-in_err-next-clause-fault g c =
    let p = err_from_is_err_and c.from_residual.result c.from_residual.ensures.1 in
    rw (p.1, p.2) (λ all h. let (earlier, has, taken) = c.rows.invariant.given all h in c.in_err-next.ensures.fault earlier all has)

pub rows-preserved : goal.rows-preserved
rows-preserved g c = record {
  opened = rw c.in-Some.is at c.in_ok-next.ensures.opened;
  processors = ap (λ (s : MachineSettings). s.processors) c.next.ensures.settings ∙ c.rows.invariant.processors
      ∙ sym c.arrive.ensures.processors;
  count = c.arrive.ensures.processors ∙ c.rows.invariant.count;
  given = λ all h.
      let (earlier, has, taken) = c.rows.invariant.given all h in
      let one = rw c.in-Some.is at (c.in_ok-next.ensures.arrival earlier all has) in
      (earlier ++ c.in-Some.arrival ∷ [], one, takes-push earlier c.in-Some.arrival _ _ _ taken c.in_ok-arrive-in-Some.ensures.arrives);
}

pub returns-in-None-clause-taken : goal.returns-in-None-clause-taken
returns-in-None-clause-taken g c = λ all h.
    let (earlier, has, taken) = c.rows.invariant.given all h in
    (earlier, rw c.in-None.is at (c.in_ok-next.ensures.arrival earlier all has), taken)

pub returns-clause-fault : goal.returns-clause-fault
returns-clause-fault g c = λ all h. inl (inl (refl, inr (endless_at c.rows.counter (omega arith))))
