use Rattle.std.proofs.Common.{◌≡◌, List, [], ◌∷◌, ◌++◌, Some, slice_get, length, length-append, refl, sym, ap, ◌∙◌, arith}
use Rattle.napi_word.specs.declared.table.Pass.{Pass}
use Rattle.core_tests.proofs.word.table_of_two.Goals as goal

-- a list of three is empty after three pops
none_left : (xs : List Pass) (a b d : Pass) → length (((xs ++ a ∷ []) ++ b ∷ []) ++ d ∷ []) ≡ 3 → xs ≡ []
none_left [] a b d e = refl
none_left (x ∷ xs) a b d e =
    let p = length-append (((x ∷ xs) ++ a ∷ []) ++ b ∷ []) (d ∷ []) in
    let q = length-append ((x ∷ xs) ++ a ∷ []) (b ∷ []) in
    let r = length-append (x ∷ xs) (a ∷ []) in
    absurd (omega (arith, p, q, r, e))

-- the three passes, in the order of their numbers
module _ (c : goal.After-drop-room) where
  abbrev a : Pass
  a = c.in-Some-last-2.first

  abbrev b : Pass
  b = c.in-Some-last.second

  abbrev d : Pass
  d = c.in-Some.control

  popped : c.in-Ok.room.items ≡ ((c.pop-last-3.new.self.items ++ a ∷ []) ++ b ∷ []) ++ d ∷ []
  popped =
      c.in-Some.ensures.items ∙ ap (λ (l : List Pass). l ++ d ∷ [])
      (c.in-Some-last.ensures.items ∙ ap (λ (l : List Pass). l ++ b ∷ []) c.in-Some-last-2.ensures.items)

  whole : c.in-Ok.room.items ≡ a ∷ b ∷ d ∷ []
  whole = popped ∙ ap (λ (l : List Pass). ((l ++ a ∷ []) ++ b ∷ []) ++ d ∷ [])
      (none_left c.pop-last-3.new.self.items a b d (ap (λ (l : List Pass). length l) (sym popped) ∙ c.in-Ok.ensures.count.1))

pub returns-clause-first : goal.returns-clause-first
returns-clause-first c = c.in-Ok.ensures.new 0 (a c) (ap (λ (l : List Pass). slice_get l 0) (whole c))

pub returns-clause-second : goal.returns-clause-second
returns-clause-second c = c.in-Ok.ensures.new 1 (b c) (ap (λ (l : List Pass). slice_get l 1) (whole c))

pub returns-clause-control : goal.returns-clause-control
returns-clause-control c = c.in-Ok.ensures.new 2 (d c) (ap (λ (l : List Pass). slice_get l 2) (whole c))
