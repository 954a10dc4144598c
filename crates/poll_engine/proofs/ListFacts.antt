-- Two lists whose items are related index by index, and properties of an item and its index.
use Rattle.std.proofs.Common.{◌≡◌, ◌≢◌, ◌<◌, ◌≤◌, ℕ, zero, suc, Bool, true, false, cond, List, [], ◌∷◌, ◌++◌, length, ⊎_elim, sym, refl}
use Rattle.std.proofs.Common.{ap, ◌∙◌, subst, arith, append-nil, append_assoc, length-append, get_or, set, get_or-set_other}
use Rattle.std.proofs.{Common.get_or-set_same, lemmas.Bool.cases_eq, lemmas.Grind.common_steps, lemmas.Slice.Zip.AllZip-long}
use Rattle.std.proofs.lemmas.List.{get_or_at, get_or-map, length-map, length-set, nil_from_length}
use Rattle.{std.specs.{Prelude.{filter, map}, List.{AllByRecursion, AllZip, remove}}, poll_engine.specs.Tasks.{EachAt, IsAt}}

-- ---- the items that were yielded, and the rest

-- one more item was yielded
pub before_more : {A : Type 0} (all xs rest rest' : List A) (x : A) → xs ++ rest ≡ all → rest ≡ x ∷ rest'
    → (length xs < length all) × (get_or all (length xs) x ≡ x) × ((xs ++ x ∷ []) ++ rest' ≡ all)
before_more all xs rest rest' x e r =
    let whole : all ≡ xs ++ x ∷ rest' = sym e ∙ ap (λ l. xs ++ l) r in (
      (let n = ap (λ l. length l) whole in omega (arith, length-append xs (x ∷ rest'))),
      ap (λ l. get_or l (length xs) x) whole ∙ get_or_at xs x rest' x (length xs) refl,
      append_assoc xs (x ∷ []) rest' ∙ sym whole,
    )

-- all items were yielded
pub none_left : {A : Type 0} (all xs rest : List A) → xs ++ rest ≡ all → rest ≡ [] → xs ≡ all
none_left all xs rest e n = sym (append-nil xs) ∙ ap (λ l. xs ++ l) (sym n) ∙ e

-- the first item was removed
pub first_of : {A : Type 0} (xs ys : List A) (x : A) → 1 ≤ length xs → x ≡ get_or xs 0 x → ys ≡ remove xs 0 → xs ≡ x ∷ ys
first_of [] ys x some first rest = absurd (omega (arith, some))
first_of (z ∷ xs) ys x some first rest = grind (arith, common_steps)

-- ---- two lists

module _ {A B : Type 0} where
  pub zip_empty : (R : A → B → Type 0) (xs : List A) (ys : List B) → AllZip R xs ys → xs ≡ [] → ys ≡ []
  zip_empty R xs ys h n = nil_from_length ys (AllZip-long R xs ys h ∙ ap (λ l. length l) n)

  pub zip_flip : (R : A → B → Type 0) (xs : List A) (ys : List B) → AllZip R xs ys → AllZip (λ y x. R x y) ys xs
  zip_flip R [] [] h = tt
  zip_flip R (x ∷ xs) (y ∷ ys) h = (h.0, zip_flip R xs ys h.1)
  zip_flip R xs ys h = absurd h

  pub zip_right : (R : A → B → Type 0) (P : B → Type 0) (xs : List A) (ys : List B) → AllZip R xs ys → AllByRecursion P ys
      → AllZip (λ x y. R x y × P y) xs ys
  zip_right R P [] [] h p = tt
  zip_right R P (x ∷ xs) (y ∷ ys) h p = ((h.0, p.0), zip_right R P xs ys h.1 p.1)
  zip_right R P xs ys h p = absurd h

  pub zip_and : (R S : A → B → Type 0) (xs : List A) (ys : List B) → AllZip R xs ys → AllZip S xs ys → AllZip (λ x y. R x y × S x y) xs ys
  zip_and R S [] [] h k = tt
  zip_and R S (x ∷ xs) (y ∷ ys) h k = ((h.0, k.0), zip_and R S xs ys h.1 k.1)
  zip_and R S xs ys h k = absurd h

  pub zip_each : (R : A → B → Type 0) (P : B → Type 0) (xs : List A) (ys : List B) → ((x : A) (y : B) → R x y → P y) → AllZip R xs ys
      → AllByRecursion P ys
  zip_each R P [] [] f h = tt
  zip_each R P (x ∷ xs) (y ∷ ys) f h = (f x y h.0, zip_each R P xs ys f h.1)
  zip_each R P xs ys f h = absurd h

  pub zip_same : (R S : A → B → Type 0) (xs : List A) (ys : List B) → ((x : A) (y : B) → R x y → S x y) → AllZip R xs ys → AllZip S xs ys
  zip_same R S [] [] f h = tt
  zip_same R S (x ∷ xs) (y ∷ ys) f h = (f x y h.0, zip_same R S xs ys f h.1)
  zip_same R S xs ys f h = absurd h

pub zip_both : {A B C : Type 0} (R : A → B → Type 0) (S : B → C → Type 0) (xs : List A) (ys : List B) (zs : List C)
    → AllZip R xs ys → AllZip S ys zs → AllZip (λ x z. (y : B) × R x y × S y z) xs zs
zip_both R S [] [] [] h k = tt
zip_both R S [] (y ∷ ys) zs h k = absurd h
zip_both R S (x ∷ xs) [] zs h k = absurd h
zip_both R S (x ∷ xs) (y ∷ ys) (z ∷ zs) h k = ((y, h.0, k.0), zip_both R S xs ys zs h.1 k.1)
zip_both R S xs ys zs h k = absurd k

-- ---- the items that pass a test

zip_cond : {A B : Type 0} (Q : A → B → Type 0) (b : Bool) (x : A) (y : B) (xs : List A) (ys : List B) → Q x y → AllZip Q xs ys
    → AllZip Q (cond b (x ∷ xs) xs) (cond b (y ∷ ys) ys)
zip_cond Q true x y xs ys h more = (h, more)
zip_cond Q false x y xs ys h more = more

pub zip_filtered : {A B : Type 0} (Q : A → B → Type 0) (p : A → Bool) (q : B → Bool) (xs : List A) (ys : List B)
    → ((x : A) (y : B) → Q x y → p x ≡ q y) → AllZip Q xs ys → AllZip Q (filter p xs) (filter q ys)
zip_filtered Q p q [] [] f h = tt
zip_filtered Q p q (x ∷ xs) (y ∷ ys) f h =
    subst (λ b. AllZip Q (cond (p x) (x ∷ filter p xs) (filter p xs)) (cond b (y ∷ filter q ys) (filter q ys))) (f x y h.0)
    (zip_cond Q (p x) x y (filter p xs) (filter q ys) h.0 (zip_filtered Q p q xs ys f h.1))
zip_filtered Q p q xs ys f h = absurd h

-- ---- a property of each item, by its index

-- a property of each item still holds if one item was replaced
pub each_set : {A : Type 0} (P Q : ℕ → A → Type 0) (xs : List A) (i : ℕ) (y : A) → i < length xs → EachAt P xs → Q i y
    → ((k : ℕ) (x : A) → k ≢ i → P k x → Q k x) → EachAt Q (set xs i y)
each_set P Q xs i y within were new others k d low =
    let below : k < length xs = omega (arith, low, length-set xs i y) in ⊎_elim
    (λ (same : k ≡ i). subst (λ n. Q n (get_or (set xs i y) n d)) (sym same)
    (subst (λ z. Q i z) (sym (get_or-set_same xs i y d within)) new))
    (λ (ne : k ≢ i). subst (λ z. Q k z) (sym (get_or-set_other xs i k y d ne)) (others k _ ne (were k d below)))
    (cases_eq k i)

-- if each item of the first list has P, and two lists are related by R, each item of the second one is related to an item with
-- P
pub each_zip : {A B : Type 0} (P : ℕ → A → Type 0) (R : A → B → Type 0) (xs : List A) (ys : List B) → AllZip R xs ys → EachAt P xs
    → EachAt (λ k y. (x : A) × P k x × R x y) ys
each_zip P R [] [] zip each k d low = absurd (omega (arith, low))
each_zip P R (x ∷ xs) (y ∷ ys) zip each zero d low = (x, each 0 x (omega arith), zip.0)
each_zip P R (x ∷ xs) (y ∷ ys) zip each (suc k) d low =
    each_zip (λ n a. P (suc n) a) R xs ys zip.1 (λ n a b. each (suc n) a (omega (arith, b))) k d (omega (arith, low))
each_zip P R xs ys zip each k d low = absurd zip

pub at_place : {A : Type 0} (P : ℕ → A → Type 0) (xs : List A) → EachAt P xs → (k : ℕ) → k < length xs → (x : A) × P k x
at_place P [] each k low = absurd (omega (arith, low))
at_place P (x ∷ xs) each zero low = (x, each 0 x (omega arith))
at_place P (x ∷ xs) each (suc k) low =
    at_place (λ n a. P (suc n) a) xs (λ n a b. each (suc n) a (omega (arith, b))) k (omega (arith, low))

-- an item that was mapped keeps its index
pub at_mapped : {A B : Type 0} (f : A → B) (xs : List A) (k : ℕ) (x : A) → IsAt xs k x → IsAt (map f xs) k (f x)
at_mapped f xs k x at =
    let low = at.0 in (omega (arith, low, length-map xs f), get_or-map f xs k x (f x) low ∙ ap f at.1)

pub each_more : {A : Type 0} (P : ℕ → A → Type 0) (xs : List A) (x : A) → EachAt P xs → P (length xs) x → EachAt P (xs ++ x ∷ [])
each_more P [] x each here zero d low = here
each_more P [] x each here (suc k) d low = absurd (omega (arith, low))
each_more P (y ∷ xs) x each here zero d low = each 0 d (omega arith)
each_more P (y ∷ xs) x each here (suc k) d low =
    each_more (λ n a. P (suc n) a) xs x (λ n a b. each (suc n) a (omega (arith, b))) here k d (omega (arith, low))
