use Rattle.std.proofs.Common.{sym, ap, ◌∙◌}
use Rattle.napi_model.proofs.SeenCases.{same_seen, seen_is, seen_same}
use Rattle.napi_model.proofs.state.State.is_legal.Goals as goal

pub returns-in-Look : goal.returns-in-Look
returns-in-Look c = rw c.in-Look.is (
  (λ t. sym (seen_is c.seen.result c.in-Look.seen (sym c.eq.ensures ∙ t)) ∙ c.seen.ensures),
  (λ e. c.eq.ensures ∙ ap (λ x. same_seen x c.in-Look.seen) (c.seen.ensures ∙ sym e) ∙ seen_same c.in-Look.seen),
)
