-- A caller's own list, and prefixes of lists.
use Rattle.std.proofs.Common.{◌≡◌, ◌≢◌, ℕ, eq-eqb, ne_eqb, List, [], ◌∷◌, ◌++◌, drop, refl, sym, ap, ◌∙◌, append_assoc}
use Rattle.{std.proofs.lemmas.List.append-nil, napi_model.{specs.{declared.event.Event.Event, History.own}, proofs.Histories.own-append}}
use mathlib.Core.List.{IsPrefix}

own_one : (c : ℕ) (e : Event) → e.caller ≡ c → own c (e ∷ []) ≡ e ∷ []
unfolding own
own_one c e same = rw (eq-eqb e.caller c same) refl

pub own_no : (c : ℕ) (e : Event) → e.caller ≢ c → own c (e ∷ []) ≡ []
unfolding own
own_no c e apart = rw (ne_eqb e.caller c apart) refl

pub own_mine : (c : ℕ) (h : List Event) (e : Event) → e.caller ≡ c → own c (h ++ e ∷ []) ≡ own c h ++ e ∷ []
own_mine c h e same = own-append c h (e ∷ []) ∙ ap (λ (l : List Event). own c h ++ l) (own_one c e same)

pub own_other : (c : ℕ) (h : List Event) (e : Event) → e.caller ≢ c → own c (h ++ e ∷ []) ≡ own c h
own_other c h e apart = own-append c h (e ∷ []) ∙ ap (λ (l : List Event). own c h ++ l) (own_no c e apart) ∙ append-nil (own c h)

no_more : {A : Type 0} (xs ys : List A) → xs ++ ys ≡ xs → ys ≡ []
no_more [] ys e = e
no_more (x ∷ xs) ys e = no_more xs ys (ap (λ l. drop 1 l) e)

-- if the first list has all of c's events, the list after it has none of them
pub own_rest : (c : ℕ) (g h mine : List Event) → own c g ≡ mine → own c (g ++ h) ≡ mine → own c h ≡ []
own_rest c g h mine front whole =
    no_more mine (own c h) (ap (λ (l : List Event). l ++ own c h) (sym front) ∙ sym (own-append c g h) ∙ whole)

pub own_none : (c : ℕ) → own c [] ≡ []
unfolding own
own_none c = refl

pub begins_self : (h : List Event) → IsPrefix h h
begins_self h = ([], append-nil h)

pub begins_more : (g h : List Event) (e : Event) → IsPrefix g h → IsPrefix g (h ++ e ∷ [])
begins_more g h e p = (p.0 ++ e ∷ [], sym (append_assoc g p.0 (e ∷ [])) ∙ ap (λ (l : List Event). l ++ e ∷ []) p.1)
