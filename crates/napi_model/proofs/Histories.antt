-- Appending to a history, and concatenating histories.
use Rattle.std.proofs.Common.{◌≡◌, ◌≢◌, ℕ, ◌+◌, ◌<◌, List, [], ◌∷◌, ◌++◌, length, take, drop, get_or, nat_eq, eqb, true, false, refl, sym}
use Rattle.std.proofs.{Common.{ap, ◌∙◌, subst, ⊎_elim}, lemmas.{Bool.Decides.eqb_tells, List.{Elements.filter-append, take_more}}}
use Rattle.{std.proofs.lemmas.List.take-append-drop, napi_model.specs.History.{IsLegalFor, LegalHistory, state_after, own}}
use Rattle.napi_model.specs.{declared.{state.State.State, event.{Operation.TheVariants.Look, Event.Event}}, Step.{after, event, seen_of}}
use Rattle.napi_model.specs.Step.{idle}

pub state_after-append : (s : State) (g h : List Event) → state_after s (g ++ h) ≡ state_after (state_after s g) h
unfolding state_after
state_after-append s [] h = refl
state_after-append s (e ∷ g) h = state_after-append (after s e) g h

-- one more event at the end
pub state_after-snoc : (s : State) (h : List Event) (e : Event) → state_after s (h ++ e ∷ []) ≡ after (state_after s h) e
unfolding state_after
state_after-snoc s [] e = refl
state_after-snoc s (x ∷ h) e = state_after-snoc (after s x) h e

pub legal_snoc : (k : ℕ) (s : State) (h : List Event) (e : Event)
    → LegalHistory k s h → IsLegalFor k (state_after s h) e → LegalHistory k s (h ++ e ∷ [])
unfolding LegalHistory state_after
legal_snoc k s [] e l now = (now, tt)
legal_snoc k s (x ∷ h) e l now = (l.0, legal_snoc k (after s x) h e l.1 now)

pub legal_front : (k : ℕ) (s : State) (g h : List Event) → LegalHistory k s (g ++ h) → LegalHistory k s g
unfolding LegalHistory
legal_front k s [] h l = tt
legal_front k s (e ∷ g) h l = (l.0, legal_front k (after s e) g h l.1)

pub legal_back : (k : ℕ) (s : State) (g h : List Event) → LegalHistory k s (g ++ h) → LegalHistory k (state_after s g) h
unfolding LegalHistory state_after
legal_back k s [] h l = l
legal_back k s (e ∷ g) h l = legal_back k (after s e) g h l.1

pub own-append : (c : ℕ) (g h : List Event) → own c (g ++ h) ≡ own c g ++ own c h
unfolding own
own-append c g h = filter-append (λ (e : Event). nat_eq e.caller c) g h

-- if a caller has no events in a history, the first event is another caller's
pub own_first : (c : ℕ) (e : Event) (h : List Event) → own c (e ∷ h) ≡ [] → (e.caller ≢ c) × (own c h ≡ [])
unfolding own
own_first c e h none = ⊎_elim
    (λ (t : (eqb e.caller c ≡ true) × (e.caller ≡ c)). let bad = rw t.0 at none in absurd (cc))
    (λ (t : (eqb e.caller c ≡ false) × (e.caller ≢ c)). (t.1, rw t.0 at none))
    (eqb_tells e.caller c)

-- ---- the first i events, and one more

-- the event that a read past the end of a slice returns, for a total function
abbrev pub no_event : Event
no_event = event 0 (Look (seen_of idle))

pub state_after-more : (s : State) (h : List Event) (i : ℕ)
    → i < length h → state_after s (take (i + 1) h) ≡ after (state_after s (take i h)) (get_or h i no_event)
state_after-more s h i within = ap (state_after s) (take_more h i no_event within) ∙ state_after-snoc s (take i h) (get_or h i no_event)

pub legal_more : (k : ℕ) (s : State) (h : List Event) (i : ℕ) → i < length h
    → LegalHistory k s (take i h) → IsLegalFor k (state_after s (take i h)) (get_or h i no_event) → LegalHistory k s (take (i + 1) h)
legal_more k s h i within l now =
    subst (LegalHistory k s) (sym (take_more h i no_event within)) (legal_snoc k s (take i h) (get_or h i no_event) l now)

legal_one : (k : ℕ) (s : State) (e : Event) → LegalHistory k s (e ∷ []) → IsLegalFor k s e
unfolding LegalHistory
legal_one k s e l = l.0

pub legal_last : (k : ℕ) (s : State) (h : List Event) (i : ℕ) → i < length h
    → LegalHistory k s (take (i + 1) h) → IsLegalFor k (state_after s (take i h)) (get_or h i no_event)
legal_last k s h i within l =
    let more = subst (LegalHistory k s) (take_more h i no_event within) l in
    legal_one k (state_after s (take i h)) (get_or h i no_event) (legal_back k s (take i h) (get_or h i no_event ∷ []) more)

pub legal_part : (k : ℕ) (s : State) (h : List Event) (i : ℕ) → LegalHistory k s h → LegalHistory k s (take i h)
legal_part k s h i l = legal_front k s (take i h) (drop i h) (subst (LegalHistory k s) (sym (take-append-drop i h)) l)
