-- What a pass knows from its last event on.
use Rattle.std.proofs.Common.{eq-eqb, ◌≡◌, ℕ, List, [], ◌∷◌, Bool, true, false, refl, sym, ap, ◌∙◌, subst}
use Rattle.napi_model.specs.declared.state.{State.State as Napi, Seen.Seen, Kind.Kind, Place.TheVariants.{Granted, Polling}}
use Rattle.napi_model.specs.declared.event.{Done.TheVariants.{Again, Held}, Event.Event, Operation.{Operation, TheVariants.Look}}
use Rattle.napi_model.specs.{declared.event.{Operation.TheVariants.{Schedule, Take, Complete}, Prep.Prep}, Step.{event, opening, after_by}}
use Rattle.napi_model.specs.{Step.place_of, History.{LegalHistory, IsLegalFor, state_after}, Laws.{is_owner, IsPollingPlace}}
use Rattle.napi_model.proofs.{Histories.{legal_front, legal_back, state_after-snoc}, Owners.{busy_after, opens_sound, opens_unbusy}}
use Rattle.napi_word.specs.{Knowledge.{Knowledge, view_number, view_controller, state_at, state_in, place_in, disable_in}, Events.Steps}
use Rattle.napi_word.specs.Operations.{done_of}
use Rattle.napi_word.{specs.Passes.{HasController, HasPoll}, proofs.Places.is_false}

-- IN_BUSY_POLL is set only if the place is a Polling
pub unbusy : (k : ℕ) (h : List Event) → LegalHistory k (opening k) h → ¬ IsPollingPlace (state_after (opening k) h).place
    → (state_after (opening k) h).flags.in_busy_poll ≡ false
unbusy k h legal none =
    is_false (state_after (opening k) h).flags.in_busy_poll
    (λ e. none (busy_after k (opening k) h (opens_sound k) (opens_unbusy k) legal e))

module _ (v : Knowledge) (o : Operation) (w : Knowledge) (g : Steps v o w) where
  -- the state in which the event took place; other callers may have changed it since the view was updated
  abbrev pub found_state : Napi
  found_state = state_at v g.before

  legal_one : (k : ℕ) (s : Napi) (e : Event) → LegalHistory k s (e ∷ []) → IsLegalFor k s e
  unfolding LegalHistory
  legal_one k s e l = l.0

  pub step_of : IsLegalFor (view_controller v) found_state (event (view_number v) o)
  step_of =
      let whole = subst (LegalHistory (view_controller v) (opening (view_controller v))) g.ends g.legal in
      legal_one (view_controller v) found_state (event (view_number v) o)
      (legal_back (view_controller v) (opening (view_controller v)) g.before (event (view_number v) o ∷ []) whole)

  pub found_unbusy : ¬ IsPollingPlace found_state.place → found_state.flags.in_busy_poll ≡ false
  found_unbusy =
      let k = view_controller v in
      let whole = subst (LegalHistory k (opening k)) g.ends g.legal in
      unbusy k g.before (legal_front k (opening k) g.before (event (view_number v) o ∷ []) whole)

  -- the state after the event, as the view shows it
  pub state_then : state_in w ≡ after_by (view_number v) o found_state
  state_then = (λ i. state_after (opening (g.controller i)) (g.ends i))
      ∙ state_after-snoc (opening (view_controller v)) g.before (event (view_number v) o)

  -- the place of the pass after its own event
  pub place_then : place_in w ≡ (after_by (view_number v) o found_state).place
  place_then = ap (λ (s : Napi). s.place) state_then

not_polled : (k : Kind) → ¬ IsPollingPlace (place_of k)
not_polled Kind.List is = is
not_polled Kind.Thread is = is

-- a schedule that was granted makes its caller the owner
pub schedule_grants : (v w : Knowledge) → Steps v (Schedule Prep.Granted) w → place_in w ≡ Granted (view_number w)
schedule_grants v w g = place_then v (Schedule Prep.Granted) w g ∙ ap Granted (sym g.number)

pub again_grants : (v w : Knowledge) → Steps v (Complete Again) w → place_in w ≡ Granted (view_number w)
again_grants v w g = place_then v (Complete Again) w g ∙ ap Granted (sym g.number)

pub take_polls : (v w : Knowledge) (k : Kind) → Steps v (Take k true) w → HasPoll false w
take_polls v w k g =
    let off = found_unbusy v (Take k true) w g (λ is. not_polled k (subst IsPollingPlace (step_of v (Take k true) w g).0 is)) in (
      place_then v (Take k true) w g ∙ ap Polling (sym g.number),
      ap (λ (s : Napi). s.flags.in_busy_poll) (state_then v (Take k true) w g)
          ∙ off,
    )

-- a completion by a compare-exchange never returns Held
pub never_held : (missed : Bool) → Held ≡ done_of missed → ⊥
never_held true e = cc
never_held false e = cc

-- an event that changes nothing keeps what its pass knows
module _ (v : Knowledge) (o : Operation) (w : Knowledge) (g : Steps v o w)
    (quiet : after_by (view_number v) o (found_state v o w g) ≡ found_state v o w g) where
  pub quiet_polls : {b : Bool} → HasPoll b v → HasPoll b w
  quiet_polls is =
      let owner = ap (is_owner (view_number v)) is.0 ∙ eq-eqb (view_number v) (view_number v) refl in (
        ap (λ (s : Napi). s.place) (state_then v o w g ∙ quiet) ∙ g.place owner ∙ is.0
            ∙ ap Polling (sym g.number),
        ap (λ (s : Napi). s.flags.in_busy_poll) (state_then v o w g ∙ quiet) ∙ g.busy owner ∙ is.1,
      )

-- what the poller and the controller learn from a look
module _ (v : Knowledge) (x : Seen) (w : Knowledge) (g : Steps v (Look x) w) where
  pub look_polls : {b : Bool} → HasPoll b v → HasPoll b w
  look_polls = quiet_polls v (Look x) w g refl

  pub look_disable : HasController v → x.flags.disable ≡ disable_in v
  look_disable top = ap (λ (y : Seen). y.flags.disable) (step_of v (Look x) w g).0 ∙ g.disable top
