-- The devices of a bench are ended one by one, the last one first.
use Rattle.std.proofs.Common.{◌≡◌, ◌≢◌, ◌∙◌, ◌<◌, ◌≤◌, ◌+◌, ℕ, zero, suc, Bool, true, false, Option, Some, None, [], ◌∷◌, ◌++◌, length}
use Rattle.std.proofs.{Common.{length-append, length-set, get_or-set_other, slice_set, ap, refl, arith}, lemmas.Bool.eqb-true}
use Rattle.std.{proofs.lemmas.Bool.eqb-false, specs.Prelude.◌==◌}
use Rattle.device_places.specs.Places.{DeviceTable, at}
use Rattle.device_bench.specs.Bench.{BenchDevices}
use Rattle.device_bench.specs.{DeviceView.DeviceView, Ending.IsEndedAt}

-- the devices from this number on were ended, and those below it remain
pub record EndedFrom {End : Type 0} (ended : End → Type 0) (all left : BenchDevices) (ends : DeviceTable End) : Type
    0 where
  pub places : length ends ≡ 17
  pub most : length left ≤ 17
  pub same : (number : ℕ) → number < length left → at number all ≡ at number left
  pub none : (number : ℕ) → number < length left → at number ends ≡ None
  pub done : (number : ℕ) → length left ≤ number → IsEndedAt ended (at number all) (at number ends)

-- the last element of a list
at-last : {A : Type 0} → (xs : DeviceTable A) (x : Option A) → at (length xs) (xs ++ x ∷ []) ≡ x
at-last [] x = refl
at-last (y ∷ xs) x = at-last xs x

at-before : {A : Type 0} → (xs ys : DeviceTable A) (number : ℕ) → number < length xs → at number (xs ++ ys) ≡ at number xs
at-before [] ys number below = absurd (omega (arith, below))
at-before (x ∷ xs) ys zero below = refl
at-before (x ∷ xs) ys (suc number) below = at-before xs ys number (omega (arith, below))

at-beyond : {A : Type 0} → (xs : DeviceTable A) (number : ℕ) → length xs ≤ number → at number xs ≡ None
at-beyond [] number beyond = refl
at-beyond (x ∷ xs) zero beyond = absurd (omega (arith, beyond))
at-beyond (x ∷ xs) (suc number) beyond = at-beyond xs number (omega (arith, beyond))

-- before the first was ended
pub ended-none : {End : Type 0} (ended : End → Type 0) (all : BenchDevices) (ends : DeviceTable End) → length all ≡ 17
    → length ends ≡ 17 → ((number : ℕ) → number < 17 → at number ends ≡ None) → EndedFrom ended all all ends
ended-none ended all ends many places none = record {
  places = places;
  most = omega (arith, many);
  same = λ number below. refl;
  none = λ number below. none number (omega (arith, many, below));
  done = λ number beyond. rw (at-beyond all number beyond, at-beyond ends number (omega (arith, many, places, beyond))) tt;
}

module _ {End : Type 0} (ended : End → Type 0) (all : BenchDevices) where
  module _ (left left' : BenchDevices) (place : Option DeviceView) (ends ends' : DeviceTable End) (more : left ≡ left' ++ place ∷ [])
      (was : EndedFrom ended all left ends) where
    longer : length left ≡ length left' + 1
    longer = ap length more ∙ length-append left' (place ∷ [])

    place-is : at (length left') all ≡ place
    place-is = was.same (length left') (omega (arith, longer)) ∙ ap (λ (l : BenchDevices). at (length left') l) more ∙ at-last left' place

    same-still : (number : ℕ) → number < length left' → at number all ≡ at number left'
    same-still number below =
        was.same number (omega (arith, longer, below)) ∙ ap (λ (l : BenchDevices). at number l) more
        ∙ at-before left' (place ∷ []) number below

    pub ended-next : (answer : Option End) → IsEndedAt ended place answer → length ends' ≡ 17 → at (length left') ends' ≡ answer
        → ((number : ℕ) → number ≢ length left' → at number ends' ≡ at number ends) → EndedFrom ended all left' ends'
    ended-next answer here places now others = record {
      places = places;
      most = omega (arith, longer, was.most);
      same = same-still;
      none = λ number below. others number (omega (arith, below)) ∙ was.none number (omega (arith, longer, below));
      done = λ number beyond. by number beyond (number == length left') refl;
    }
      where
        by : (number : ℕ) → length left' ≤ number → (b : Bool) → (number == length left') ≡ b
            → IsEndedAt ended (at number all) (at number ends')
        by number beyond true e = rw (eqb-true number (length left') e, place-is, now) here
        by number beyond false e =
            let apart : number ≢ length left' = eqb-false number (length left') e in
            rw (others number apart) (was.done number (omega (arith, longer, beyond, apart)))

    pub ended-absent : place ≡ None → ends' ≡ ends → EndedFrom ended all left' ends'
    ended-absent absent same =
        ended-next None (rw absent tt) (ap length same ∙ was.places)
        (ap (λ (l : DeviceTable End). at (length left') l) same ∙ was.none (length left') (omega (arith, longer)))
        (λ number apart. ap (λ (l : DeviceTable End). at number l) same)

    pub ended-present : (d : DeviceView) (end : End) → place ≡ Some d → ended end
        → ends' ≡ slice_set ends (length left') (Some end) → EndedFrom ended all left' ends'
    ended-present d end present is set =
        let below : length left' < length ends = omega (arith, longer, was.most, was.places) in
        ended-next (Some end) (rw present is) (ap length set ∙ length-set ends (length left') (Some end) ∙ was.places)
        (ap (λ (l : DeviceTable End). at (length left') l) set ∙ at-same ends (length left') (Some end) below)
        (λ number apart. ap (λ (l : DeviceTable End). at number l) set
        ∙ get_or-set_other ends (length left') number (Some end) None apart)
      where
        at-same : (xs : DeviceTable End) (n : ℕ) (y : Option End) → n < length xs → at n (slice_set xs n y) ≡ y
        at-same [] n y below = absurd (omega (arith, below))
        at-same (x ∷ xs) zero y below = refl
        at-same (x ∷ xs) (suc n) y below = at-same xs n y (omega (arith, below))
