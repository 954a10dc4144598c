-- What a pass that joined a copy of another pass's history shows after its next step.
use Rattle.std.proofs.Common.{◌≡◌, List, [], ◌∷◌, length, true, refl, sym, subst, true≢false}
use Rattle.atomic_table.proofs.Lists.{at_longer}
use Rattle.{atomic_table.{proofs.Lists.at_last, specs.Table.Me}, napi_model.specs.declared.event.{Event.Event, Operation.Operation}}
use Rattle.napi_model.specs.Step.{event}
use Rattle.napi_word.specs.{Knowledge.{Knowledge, is_pass, view_number, view_shown}, Rule.{copy, copy_of, joined}}
use Rattle.napi_word.{specs.{Events.Steps, Slot.{Content, Carried, stays, SlotDelivers}}, proofs.Owns.begins_more}
use mathlib.Core.List.{IsPrefix}

-- a step of a pass that joined another one is a step of the pass
pub steps_joined : (v w : Knowledge) (o : Operation) (u : Knowledge) → is_pass v ≡ true → Steps (joined v w) o u → Steps v o u
steps_joined [] w o u p g = absurd (true≢false (sym p))
steps_joined (x ∷ xs) w o u p g = record {
  before = g.before;
  begins = λ k y is. g.begins k y (at_longer (x ∷ xs) w k y is);
  ends = g.ends;
  legal = g.legal;
  grows = g.grows;
  exact = g.exact;
  pass = g.pass;
  number = g.number;
  controller = g.controller;
  ring = g.ring;
  owner = g.owner;
  place = g.place;
  busy = g.busy;
  disable = g.disable;
}

-- the deliveries that a look shows, for such a pass
pub delivers_joined : (v w : Knowledge) (l : Carried) (y : Me Content Knowledge) → is_pass v ≡ true → SlotDelivers stays (joined v w, l) y
    → SlotDelivers stays (v, l) y
delivers_joined [] w l y p g = absurd (true≢false (sym p))
delivers_joined (x ∷ xs) w l y p g =
    record {
      before = g.before;
      begins = λ k z is. g.begins k z (at_longer (x ∷ xs) w k z is);
      exact = g.exact;
      held = g.held;
      first = g.first;
      shifts = g.shifts;
    }

pub meets : (v a : Knowledge) (o : Operation) (u : Knowledge) → is_pass a ≡ true → Steps (joined v (copy_of a)) o u
    → IsPrefix (view_shown a) (view_shown u)
meets v [] o u p g = absurd (true≢false (sym p))
meets v (x ∷ xs) o u p g =
    let seen = g.begins (length v) (copy x) (at_last v (copy x) (length v) refl) in
    subst (λ (l : List Event). IsPrefix x.seen l) (sym g.ends)
    (begins_more x.seen g.before (event (view_number (joined v (copy x ∷ []))) o) seen)
