-- What one step says about the pass that made it.
use Rattle.std.proofs.Common.{◌≡◌, ℕ, Bool, true, false, List, [], ◌∷◌, ◌++◌, refl, sym, ap, ◌∙◌, subst, append_assoc}
use Rattle.napi_model.specs.{declared.{event.{Event.Event, Operation.Operation}, state.State.State}, Step.{event, opening, after_by}}
use Rattle.napi_model.specs.History.{LegalHistory, own}
use Rattle.napi_word.specs.{declared.{table.Pass.Pass, history.LocalHistory.LocalHistory}, Knowledge.Knowledge}
use Rattle.{napi_word.{specs.{Events.Steps, Passes.view_of}, proofs.Knowing.{found_state, state_then}}, napi_calls.specs.Seats.pass_number}
use Rattle.{napi_calls.specs.Seats.{shown, state_shown, ShowsLegal}, napi_word.proofs.Deliveries.prefix_self}
use Rattle.napi_word.specs.{declared.history.Delivery.Delivery, Slot.{SlotDelivers, GivesSlotBack, Moves, Shifts, owns_slot}}
use mathlib.Core.{Option.Option as Maybe, List.IsPrefix}
use lib.ListN.{get_elem?}
use Rattle.napi_word.specs.Knowledge as view
use Rattle.napi_word.specs.Slot as slot

pub prefix_trans : {A : Type 0} (xs ys zs : List A) → IsPrefix xs ys → IsPrefix ys zs → IsPrefix xs zs
prefix_trans xs ys zs p q = (p.0 ++ q.0, sym (append_assoc xs p.0 q.0) ∙ ap (λ l. l ++ q.0) p.1 ∙ q.1)

own_begins : (v : Knowledge) (h : List Event) → ((k : ℕ) (x : LocalHistory) → get_elem? v k ≡ Maybe.some x → IsPrefix x.seen h)
    → IsPrefix (view.view_shown v) h
own_begins [] h all = (h, refl)
own_begins (x ∷ xs) h all = all 0 x refl

module _ (p : Pass) (o : Operation) (q : Pass) (g : Steps (view_of p) o (view_of q)) where
  -- the state in which the event took place: others may have changed it since p looked
  abbrev pub found : State
  found = found_state (view_of p) o (view_of q) g

  pub state_stepped : state_shown q ≡ after_by (pass_number p) o found
  state_stepped = state_then (view_of p) o (view_of q) g

  pub shows_more : IsPrefix (shown p) (shown q)
  shows_more =
      let more : IsPrefix g.before (g.before ++ event (pass_number p) o ∷ []) = (event (pass_number p) o ∷ [], refl) in
      subst (IsPrefix (shown p)) (sym g.ends)
      (prefix_trans (shown p) g.before (g.before ++ event (pass_number p) o ∷ []) (own_begins (view_of p) g.before g.begins) more)

  pub shows_legal : ShowsLegal q
  shows_legal = record {
    legal = subst (λ (n : ℕ). LegalHistory n (opening n) (shown q)) (sym g.controller) g.legal;
    exact = ap (λ (n : ℕ). own n (shown q)) g.number ∙ g.exact;
  }

-- ---- the deliveries known before a step are a prefix of those known after it

delivered_begins : (v : Knowledge) (ds : List Delivery)
    → ((k : ℕ) (x : LocalHistory) → get_elem? v k ≡ Maybe.some x → IsPrefix x.delivered ds)
    → IsPrefix (view.view_delivered v) ds
delivered_begins [] ds all = (ds, refl)
delivered_begins (x ∷ xs) ds all = all 0 x refl

gives_more : (b : Bool) (ds : List Delivery) (p q : Pass) → GivesSlotBack b ds p.seat.me q.seat.me
    → IsPrefix ds (view.view_delivered (view_of q))
gives_more true ds p q e = (_, sym e.4)
gives_more false ds p q e = subst (IsPrefix ds) (sym e.0) (prefix_self ds)

shifts_more : (m : Moves) (ds : List Delivery) (p q : Pass) → Shifts m ds p.seat.me q.seat.me
    → IsPrefix ds (view.view_delivered (view_of q))
shifts_more slot.stays ds p q e = subst (IsPrefix ds) (sym e.0) (prefix_self ds)
shifts_more slot.taken ds p q e = subst (IsPrefix ds) (sym e.0) (prefix_self ds)
shifts_more slot.given ds p q e = gives_more (owns_slot (view_of p)) ds p q e

pub delivers_more : {m : Moves} (p q : Pass) → SlotDelivers m p.seat.me q.seat.me
    → IsPrefix (view.view_delivered (view_of p)) (view.view_delivered (view_of q))
delivers_more {m} p q g =
    prefix_trans (view.view_delivered (view_of p)) g.before (view.view_delivered (view_of q))
    (delivered_begins (view_of p) g.before g.begins)
    (shifts_more m g.before p q g.shifts)
