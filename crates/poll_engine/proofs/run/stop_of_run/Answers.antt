use Rattle.std.{proofs.{Common.{◌≡◌, None, All, subst}, lemmas.Result.on_ok_weaker}}
use Rattle.poll_engine.proofs.run.stop_of_run.Goals as goal

pub returns-clause-whole : goal.returns-clause-whole
returns-clause-whole g c =
    on_ok_weaker c.first_stop-3.result (λ workers. (
      subst (λ l. All (λ w. w.stop ≡ None) l) c.as_slice-3.ensures.value workers,
      subst (λ l. All (λ p. p.stop ≡ None) l) c.as_slice.ensures.value c.in_ok-first_stop.ensures.whole,
      subst (λ l. All (λ p. p.stop ≡ None) l) c.as_slice-2.ensures.value c.in_ok-first_stop-2.ensures.whole,
    )) c.first_stop-3.ensures.whole
