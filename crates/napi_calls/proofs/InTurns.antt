-- The history of two callers that alternate: each number's events, and how many there are in all.
use Rattle.std.proofs.Common.{◌≡◌, ◌≢◌, ℕ, zero, suc, ◌+◌, ◌<◌, Bool, true, false, List, [], ◌∷◌, ◌++◌, length, eqb, eq-eqb, ne_eqb}
use Rattle.std.proofs.Common.{eqb-true, true≢false, refl, sym, ap, ◌∙◌, arith}
use Rattle.napi_model.specs.declared.event.Event.{Event}
use Rattle.{napi_model.specs.{declared.event.Operation.Operation, History.own}, napi_word.specs.declared.table.Pass.Pass}
use Rattle.napi_calls.specs.{declared.types.Napi.Napi, Seats.{pass_number, own_list}, Instance.IsNewSeat, Made.{Made, events}}

-- the own list of a pass that was new and then made these operations
pub own_of : (n : Napi) (c : ℕ) (p q : Pass) (os : List Operation) (h : List Event) → IsNewSeat n c p → Made p os q
    → own (pass_number q) h ≡ own_list q → own c h ≡ events c os
own_of n c p q os h new m exact =
    ap (λ (k : ℕ). own k h) (sym (m.seat.number ∙ new.number_is)) ∙ exact ∙ m.grown
    ∙ ap (λ (l : List Event). l ++ events (pass_number p) os) new.nothing_done ∙ ap (λ (k : ℕ). events k os) new.number_is

own_at : (c : ℕ) (e : Event) (es : List Event) → e.caller ≡ c → own c (e ∷ es) ≡ e ∷ own c es
unfolding own
own_at c e es is = rw (eq-eqb e.caller c is) refl

own_off : (c : ℕ) (e : Event) (es : List Event) → e.caller ≢ c → own c (e ∷ es) ≡ own c es
unfolding own
own_off c e es apart = rw (ne_eqb e.caller c apart) refl

abbrev Few : List Event → Type 0
Few h = (c : ℕ) → 2 < c → own c h ≡ []

few_behind : (e : Event) (es : List Event) → Few (e ∷ es) → Few es
few_behind e es few c low = by (eqb e.caller c) refl
  where
    by : (b : Bool) → eqb e.caller c ≡ b → own c es ≡ []
    by true is = let bad = sym (own_at c e es (eqb-true e.caller c is)) ∙ few c low in absurd (cc)
    by false is = sym (own_off c e es (λ same. true≢false (sym (eq-eqb e.caller c same) ∙ is))) ∙ few c low

own_nothing : length {A = Event} [] ≡ length (own 0 []) + length (own 1 []) + length (own 2 [])
unfolding own
own_nothing = refl

-- if only the numbers 0 to 2 have events, each event is in one of their three lists
pub three_lists : (h : List Event) → Few h → length h ≡ length (own 0 h) + length (own 1 h) + length (own 2 h)
three_lists [] few = own_nothing
three_lists (e ∷ es) few = by e.caller refl (three_lists es (few_behind e es few))
  where
    long : (xs : List Event) → length (e ∷ xs) ≡ length xs + 1
    long xs = omega arith

    at : (c : ℕ) → e.caller ≡ c → length (own c (e ∷ es)) ≡ length (own c es) + 1
    at c is = ap length (own_at c e es is) ∙ long (own c es)

    off : (c : ℕ) → e.caller ≢ c → length (own c (e ∷ es)) ≡ length (own c es)
    off c apart = ap length (own_off c e es apart)

    by : (c : ℕ) → e.caller ≡ c → length es ≡ length (own 0 es) + length (own 1 es) + length (own 2 es)
        → length (e ∷ es) ≡ length (own 0 (e ∷ es)) + length (own 1 (e ∷ es)) + length (own 2 (e ∷ es))
    by zero is rest =
        let a = at 0 is in
        let b = off 1 (λ x. omega (arith, is, x)) in
        let c = off 2 (λ x. omega (arith, is, x)) in
        let d = long es in
        omega (arith, a, b, c, d, rest)
    by (suc zero) is rest =
        let a = off 0 (λ x. omega (arith, is, x)) in
        let b = at 1 is in
        let c = off 2 (λ x. omega (arith, is, x)) in
        let d = long es in
        omega (arith, a, b, c, d, rest)
    by (suc (suc zero)) is rest =
        let a = off 0 (λ x. omega (arith, is, x)) in
        let b = off 1 (λ x. omega (arith, is, x)) in
        let c = at 2 is in
        let d = long es in
        omega (arith, a, b, c, d, rest)
    by (suc (suc (suc n))) is rest =
        let bad = sym (own_at e.caller e es refl) ∙ few e.caller (omega (arith, is)) in
        absurd (cc)
