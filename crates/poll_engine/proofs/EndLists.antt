-- The lists that the ends know, by index, and the pushes of one end.
use Rattle.std.proofs.{lemmas.Grind.common_steps, lemmas.List.Sums.sum_by-cons}
use Rattle.std.proofs.Common.{◌≡◌, ◌≢◌, ℕ, zero, suc, ◌+◌, ◌<◌, ◌≤◌, ◌⊎◌, Bool, List, [], ◌∷◌, ◌++◌, length, set, cond, sym, refl, ap}
use Rattle.{std.proofs.Common.{subst, inl, inr, ⊎_elim, eq-eqb, ne_eqb, arith}, std.specs.List.sum_by}
use Rattle.{crossbeam_queue.proofs.Lists.at_set, poll_engine.specs.PushOrder.{Push, push_of, ids_of, pushes_by}}
use mathlib.Core.Option.{some, some-ne-none, some-injective}
use lib.ListN.{get_elem?}

module _ {A : Type 0} where
  pub in_range : (l : List A) (i : ℕ) (a : A) → get_elem? l i ≡ some a → i < length l
  in_range [] i a e = absurd (some-ne-none a (sym e))
  in_range (x ∷ xs) zero a e = omega arith
  in_range (x ∷ xs) (suc i) a e = let h = in_range xs i a e in omega arith

  pub one_there : (l : List A) (i : ℕ) → i < length l → (a : A) × (get_elem? l i ≡ some a)
  one_there [] i h = absurd (omega arith)
  one_there (x ∷ xs) zero h = (x, refl)
  one_there (x ∷ xs) (suc i) h = one_there xs i (omega arith)

  pub at_push : (l : List A) (a b : A) (j : ℕ) → get_elem? (l ++ a ∷ []) j ≡ some b → (get_elem? l j ≡ some b) ⊎ ((j ≡ length l) × (a ≡ b))
  at_push [] a b zero e = inr (refl, some-injective a b e)
  at_push [] a b (suc j) e = absurd (some-ne-none b (sym e))
  at_push (x ∷ xs) a b zero e = inl e
  at_push (x ∷ xs) a b (suc j) e = ⊎_elim (λ h. inl h) (λ h. inr (ap suc h.0, h.1)) (at_push xs a b j e)

  pub total_set : (f : A → ℕ) (l : List A) (i : ℕ) (v w : A) → get_elem? l i ≡ some v → sum_by f (set l i w) + f v ≡ sum_by f l + f w
  total_set f [] i v w e = absurd (some-ne-none v (sym e))
  total_set f (x ∷ xs) zero v w e = let q : f x ≡ f v = ap f (some-injective x v e) in omega (arith, sum_by-cons f w xs, sum_by-cons f x xs)
  total_set f (x ∷ xs) (suc i) v w e = let h = total_set f xs i v w e in omega (arith, sum_by-cons f x xs, sum_by-cons f x (set xs i w))

  pub one_weight : (f : A → ℕ) (l : List A) (i : ℕ) (a : A) → get_elem? l i ≡ some a → f a ≤ sum_by f l
  one_weight f [] i a e = absurd (some-ne-none a (sym e))
  one_weight f (x ∷ xs) zero a e = let q : f x ≡ f a = ap f (some-injective x a e) in omega (arith, sum_by-cons f x xs)
  one_weight f (x ∷ xs) (suc i) a e = let h = one_weight f xs i a e in omega (arith, sum_by-cons f x xs)

  pub two_weights : (f : A → ℕ) (l : List A) (i j : ℕ) (a b : A) → i ≢ j → get_elem? l i ≡ some a → get_elem? l j ≡ some b
      → f a + f b ≤ sum_by f l
  two_weights f [] i j a b n e d = absurd (some-ne-none a (sym e))
  two_weights f (x ∷ xs) zero zero a b n e d = absurd (n refl)
  two_weights f (x ∷ xs) zero (suc j) a b n e d = grind (arith, common_steps, one_weight)
  two_weights f (x ∷ xs) (suc i) zero a b n e d = let q : f x ≡ f b = ap f (some-injective x b d) in let h = one_weight f xs i a e in
      omega (arith, sum_by-cons f x xs)
  two_weights f (x ∷ xs) (suc i) (suc j) a b n e d = let h = two_weights f xs i j a b (λ q. n (ap suc q)) e d in
      omega (arith, sum_by-cons f x xs)

  abbrev pub EachAt : (ℕ → A → Type 0) → List A → Type 0
  EachAt F views = (port : ℕ) (v : A) → get_elem? views port ≡ some v → F port v

  pub all_set : (F : ℕ → A → Type 0) (views : List A) (port : ℕ) (w : A) → F port w
      → ((j : ℕ) (u : A) → j ≢ port → get_elem? views j ≡ some u → F j u) → EachAt F (set views port w)
  all_set F views port w mine others j u e =
      ⊎_elim (λ (x : (j ≡ port) × (w ≡ u)). subst (λ (y : ℕ × A). F y.0 y.1) (λ i. (sym x.0 i, x.1 i)) mine)
      (λ (x : (j ≢ port) × (get_elem? views j ≡ some u)). others j u x.0 x.1) (at_set views port j w u e)

pub by_mine : (p x : ℕ) (order : List Push) → pushes_by p (order ++ push_of p x ∷ []) ≡ pushes_by p order ++ x ∷ []
by_mine p x [] = ap (λ (b : Bool). cond b (x ∷ []) []) (eq-eqb p p refl)
by_mine p x (e ∷ es) = grind (arith, common_steps, by_mine p x es)

pub by_other : (p q x : ℕ) (order : List Push) → p ≢ q → pushes_by p (order ++ push_of q x ∷ []) ≡ pushes_by p order
by_other p q x [] n = ap (λ (b : Bool). cond b (x ∷ []) []) (ne_eqb q p (λ h. n (sym h)))
by_other p q x (e ∷ es) n = grind (arith, common_steps, by_other p q x es n)

pub ids_push : (order : List Push) (p x : ℕ) (got items : List ℕ) → ids_of order ≡ got ++ items
    → ids_of (order ++ push_of p x ∷ []) ≡ got ++ (items ++ x ∷ [])
ids_push order p x got items e = grind (arith, common_steps)
