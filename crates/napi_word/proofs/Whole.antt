-- A prefix of the history that contains every number's events is the complete history.
use Rattle.std.proofs.Common.{◌≡◌, ℕ, ◌<◌, ◌≤◌, List, [], ◌∷◌, ◌++◌, length, drop, refl, sym, ap, ◌∙◌, arith, append_assoc, lt_of_not-le}
use Rattle.{std.proofs.lemmas.List.append-nil, napi_model.specs.{declared.event.Event.Event, History.own}}
use Rattle.{napi_model.proofs.Histories.{own_first, own-append}, napi_word.proofs.Owns.own_rest}
use mathlib.Core.{List.IsPrefix, Logic.dite}
use native.Mathlib.Decide.{dec_le}

nobody_none : (xs : List Event) → ((c : ℕ) → own c xs ≡ []) → xs ≡ []
nobody_none [] h = refl
nobody_none (e ∷ es) h = absurd ((own_first e.caller e es (h e.caller)).0 refl)

-- of two prefixes of one list, the shorter is a prefix of the longer
shorter_begins : (xs ys h : List Event) → IsPrefix xs h → IsPrefix ys h → length xs ≤ length ys → IsPrefix xs ys
shorter_begins [] ys h a b le = (ys, refl)
shorter_begins (x ∷ xs) [] h a b le = absurd (omega arith)
shorter_begins (x ∷ xs) (y ∷ ys) [] a b le = let bad = a.1 in absurd (cc)
shorter_begins (x ∷ xs) (y ∷ ys) (z ∷ zs) a b le =
    let tail =
    shorter_begins xs ys zs (a.0, ap (λ (l : List Event). drop 1 l) a.1) (b.0, ap (λ (l : List Event). drop 1 l) b.1) (omega arith) in
    let one = a.1 in
    let two = b.1 in
    let head : x ≡ y = cc in
    (tail.0, λ i. head i ∷ tail.1 i)

pub front_none : {A : Type 0} (us vs : List A) → us ++ vs ≡ [] → us ≡ []
front_none [] vs e = refl
front_none (u ∷ us) vs e = absurd (cc)

behind_none : {A : Type 0} (us vs : List A) → us ++ vs ≡ [] → vs ≡ []
behind_none [] vs e = e
behind_none (u ∷ us) vs e = absurd (cc)

-- a list that extends one with all of c's events, and is a prefix of the history, has all of c's events too
between : (c : ℕ) (xs ys h mine : List Event) → IsPrefix xs ys → IsPrefix ys h → own c xs ≡ mine → own c h ≡ mine → own c ys ≡ mine
between c xs ys h mine a b first last =
    let far : own c (xs ++ (a.0 ++ b.0)) ≡ mine =
    ap (λ (l : List Event). own c l) (sym (append_assoc xs a.0 b.0) ∙ ap (λ (l : List Event). l ++ b.0) a.1 ∙ b.1) ∙ last in
    let none = own_rest c xs (a.0 ++ b.0) mine first far in
    let front : own c a.0 ≡ [] = front_none (own c a.0) (own c b.0) (sym (own-append c a.0 b.0) ∙ none) in
    ap (λ (l : List Event). own c l) (sym a.1) ∙ own-append c xs a.0 ∙ (λ i. first i ++ front i) ∙ append-nil mine

-- the condition: l is a prefix, and at least as long as what each number has seen
pub whole : (last : ℕ) (h l : List Event) → IsPrefix l h
    → ((c : ℕ) → c ≤ last
    → (seen : List Event) × (mine : List Event) × IsPrefix seen h × (own c seen ≡ mine) × (own c h ≡ mine) × (length seen ≤ length l))
    → ((c : ℕ) → last < c → own c h ≡ [])
    → l ≡ h
whole last h l begins each few =
    let none : (c : ℕ) → own c begins.0 ≡ [] = λ c. dite (dec_le c last)
    (λ low.
    let a = each c low in
    let here = between c a.0 l h a.1 (shorter_begins a.0 l h a.2 begins a.5) begins a.3 a.4 in
    own_rest c l begins.0 a.1 here (ap (λ (y : List Event). own c y) begins.1 ∙ a.4))
    (λ high. behind_none (own c l) (own c begins.0)
    (sym (own-append c l begins.0) ∙ ap (λ (y : List Event). own c y) begins.1 ∙ few c (lt_of_not-le high))) in
    sym (append-nil l) ∙ ap (λ (y : List Event). l ++ y) (sym (nobody_none begins.0 none)) ∙ begins.1
