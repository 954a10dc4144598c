-- After all ends were returned, the order has only the pushes of these ends and of the poller.
use Rattle.std.proofs.Common.{◌≡◌, ℕ, zero, suc, ◌+◌, ◌<◌, ◌≤◌, ◌⊎◌, Bool, true, false, List, [], ◌∷◌, ◌++◌, length, map, cond, eqb}
use Rattle.std.proofs.Common.{sym, refl, ap, ◌∙◌, subst, inl, inr, ⊎_elim, length-append, append-nil, eq-eqb, lt_of_not-le, arith}
use Rattle.std.proofs.{lemmas.List.{length-map, nil_from_length}, lemmas.List.Sums.sum_by-cons, lemmas.List.Elements.{All-nil, All-cons}}
use Rattle.{std.specs.List.{sum_by, All}, crossbeam_queue.specs.Passes.view}
use Rattle.poll_engine.specs.{declared.list_rule.Returned.Returned, declared.list_rule.EndView.EndView, declared.list_in.ListIn.ListIn}
use Rattle.poll_engine.specs.declared.shared.SharedList.{SharedList}
use Rattle.poll_engine.specs.PushOrder.{Push, ids_of, poller, pushes_by, IsReturned, KnowsOrder, PopsMore, WasEmpty, returned_pushes}
use Rattle.poll_engine.specs.SharedLists.{as_returned, end_number, own_pushes, popped_by, pushed_by, IsOneOrder}
use mathlib.Core.{Option.{some, some-ne-none, some-injective}, Logic.dite}
use native.Mathlib.Decide.{dec_le}
use lib.ListN.{get_elem?}

module _ {A : Type 0} where
  sum_mono : (f g : A → ℕ) → ((a : A) → f a ≤ g a) → (l : List A) → sum_by f l ≤ sum_by g l
  sum_mono f g h [] = omega arith
  sum_mono f g h (x ∷ xs) = let i = sum_mono f g h xs in let b = h x in omega (arith, sum_by-cons f x xs, sum_by-cons g x xs)

  sum_more : (f g : A → ℕ) → ((a : A) → f a ≤ g a) → (l : List A) (k : ℕ) (a : A) → get_elem? l k ≡ some a → f a + 1 ≤ g a
      → sum_by f l + 1 ≤ sum_by g l
  sum_more f g h [] k a e m = absurd (some-ne-none a (sym e))
  sum_more f g h (x ∷ xs) zero a e m =
      let p : f x ≡ f a = ap f (some-injective x a e) in
      let q : g x ≡ g a = ap g (some-injective x a e) in
      let i = sum_mono f g h xs in
      omega (arith, sum_by-cons f x xs, sum_by-cons g x xs)
  sum_more f g h (x ∷ xs) (suc k) a e m = let i = sum_more f g h xs k a e m in let b = h x in
      omega (arith, sum_by-cons f x xs, sum_by-cons g x xs)

  sum_same : (f g : A → ℕ) (l : List A) → ((k : ℕ) (a : A) → get_elem? l k ≡ some a → f a ≡ g a) → sum_by f l ≡ sum_by g l
  sum_same f g [] h = refl
  sum_same f g (x ∷ xs) h =
      let i = sum_same f g xs (λ k a e. h (suc k) a e) in
      let b = h zero x refl in
      omega (arith, sum_by-cons f x xs, sum_by-cons g x xs)

-- a push is appended only to the pushes of its own end
pushes_grow : (p : ℕ) (e : Push) (es : List Push) → length (pushes_by p es) ≤ length (pushes_by p (e ∷ es))
pushes_grow p e es = elim (eqb e.by p) as (λ b. length (pushes_by p es) ≤ length (cond b (e.id ∷ pushes_by p es) (pushes_by p es))) [
  | true ↦ omega arith
  | false ↦ omega arith
]

pushes_mine : (p : ℕ) (e : Push) (es : List Push) → e.by ≡ p → length (pushes_by p es) + 1 ≡ length (pushes_by p (e ∷ es))
pushes_mine p e es q =
    let h : length (cond (eqb e.by p) (e.id ∷ pushes_by p es) (pushes_by p es)) ≡ suc (length (pushes_by p es)) =
    ap (λ (b : Bool). length (cond b (e.id ∷ pushes_by p es) (pushes_by p es))) (eq-eqb e.by p q) in
    omega arith

none_later : (p : ℕ) (e : Push) (es : List Push) → pushes_by p (e ∷ es) ≡ [] → pushes_by p es ≡ []
none_later p e es z =
    let g = pushes_grow p e es in
    let n : length (pushes_by p (e ∷ es)) ≡ 0 = ap (λ (l : List ℕ). length l) z in
    nil_from_length (pushes_by p es) (omega arith)

-- if each push was made by the poller or by one of these returned ends, the order is no longer than their pushes together
covered : (m : ℕ) (known : List Returned) (order : List Push)
    → ((p : ℕ) → (p ≡ m) ⊎ (IsReturned p known ⊎ (pushes_by p order ≡ [])))
    → length order ≤ length (pushes_by m order) + sum_by (λ (d : Returned). length (pushes_by d.number order)) known
covered m known [] h = omega arith
covered m known (e ∷ es) h =
    let ih = covered m known es (λ p. ⊎_elim (λ q. inl q) (λ r. inr (⊎_elim (λ n. inl n) (λ z. inr (none_later p e es z)) r)) (h p)) in
    let mine = pushes_grow m e es in
    let theirs =
    sum_mono (λ (d : Returned). length (pushes_by d.number es)) (λ (d : Returned). length (pushes_by d.number (e ∷ es)))
    (λ d. pushes_grow d.number e es) known in
    ⊎_elim (λ (q : e.by ≡ m). let one = pushes_mine m e es q in omega arith)
    (⊎_elim (λ (n : IsReturned e.by known).
    let more =
    sum_more (λ (d : Returned). length (pushes_by d.number es)) (λ (d : Returned). length (pushes_by d.number (e ∷ es)))
    (λ d. pushes_grow d.number e es) known n.0 n.1 n.2
    (let one = pushes_mine n.1.number e es (sym n.3) in omega arith) in
    omega arith)
    (λ (z : pushes_by e.by (e ∷ es) ≡ []).
    let one = pushes_mine e.by e es refl in
    let none : length (pushes_by e.by (e ∷ es)) ≡ 0 = ap (λ (l : List ℕ). length l) z in
    absurd (omega arith)))
    (h e.by)

-- so the pushes that were popped and those in the queue together are no more than the pushes of these ends
pub all_told : (v : EndView) (queued : List ℕ) → v.made ≤ length v.returned + 1 → KnowsOrder v queued
    → length v.popped + length queued ≤ length v.pushed + returned_pushes v.returned
all_told v queued all_back t =
    let least = t.enough in
    let full : length v.returned + 1 ≡ v.made = omega arith in
    let most = covered v.number v.returned t.order (t.nobody_else full) in
    let theirs =
    sum_same (λ (d : Returned). length d.pushed) (λ (d : Returned). length (pushes_by d.number t.order)) v.returned
    (λ k d e. ap (λ (l : List ℕ). length l) (t.by_others k d e)) in
    let mine : length v.pushed ≡ length (pushes_by v.number t.order) = ap (λ (l : List ℕ). length l) t.by_poller in
    let ids : length (ids_of t.order) ≡ length (v.popped ++ queued) = ap (λ (l : List ℕ). length l) t.all in
    let size = length-map t.order (λ (x : Push). x.id) in
    let parts = length-append v.popped queued in
    omega arith

-- if the poller had room for all of them, nothing is left in the queue
pub emptied : (v w u : EndView) (held fresh : List ℕ) → u ≡ w → PopsMore v fresh w
    → v.made ≤ length v.returned + 1
    → length held + (length v.pushed + returned_pushes v.returned) ≤ 64 + length v.popped
    → (length (held ++ fresh) < 64 → WasEmpty w)
    → (queued : List ℕ) × KnowsOrder w queued
    → WasEmpty u
emptied v w u held fresh same is all_back few short told =
    subst WasEmpty (sym same) (dite (dec_le 64 (length (held ++ fresh)))
    (λ full.
    let t : KnowsOrder (record v { popped = v.popped ++ fresh }) told.0 = subst (λ (x : EndView). KnowsOrder x told.0) is told.1 in
    let most = all_told (record v { popped = v.popped ++ fresh }) told.0 all_back t in
    let a = length-append held fresh in
    let b = length-append v.popped fresh in
    (told.0, omega arith, told.1))
    (λ less. short (lt_of_not-le less)))

module _ {R : Type 0} where
  each_end : (ins : List (ListIn R)) (order : List Push)
      → ((k : ℕ) (d : Returned) → get_elem? (map (as_returned {R = R}) ins) k ≡ some d → d.pushed ≡ pushes_by d.number order)
      → All (λ (end : ListIn R). pushed_by end ≡ pushes_by (end_number end) order) ins
  each_end [] order h = All-nil (λ (end : ListIn R). pushed_by end ≡ pushes_by (end_number end) order)
  each_end (end ∷ ends) order h =
      All-cons (λ (e : ListIn R). pushed_by e ≡ pushes_by (end_number e) order) end ends (h zero (as_returned end) refl)
      (each_end ends order (λ k d e. h (suc k) d e))

  -- what the poller knows of the order of all pushes, after all ends were returned to it and it found the queue empty
  pub read_off : (list : SharedList R) (ins : List (ListIn R)) (fresh : List ℕ) (v w : EndView)
      → PopsMore v fresh w
      → v ≡ poller (view list.pass).made (own_pushes list) (popped_by list) ((view list.pass).returned ++ map (as_returned {R = R}) ins)
      → (view list.pass).returned ≡ []
      → (view list.pass).made ≤ length (map (as_returned {R = R}) ins) + 1
      → WasEmpty w
      → (order : List Push) × IsOneOrder list ins fresh order
  read_off list ins fresh v w is from none all_back empty =
      let made : ℕ = (view list.pass).made in
      let own : List ℕ = own_pushes list in
      let popped : List ℕ = popped_by list in
      let back : List Returned = map (as_returned {R = R}) ins in
      let queued : List ℕ = empty.0 in
      let q : w ≡ poller made own (popped ++ fresh) back = is ∙ ap (λ (x : EndView). record x { popped = x.popped ++ fresh }) from
      ∙ ap (λ (k : List Returned). poller made own (popped ++ fresh) (k ++ back)) none in
      let t : KnowsOrder (poller made own (popped ++ fresh) back) queued = subst (λ (x : EndView). KnowsOrder x queued) q empty.2 in
      let nothing : queued ≡ [] = nil_from_length queued empty.1 in
      let least = t.enough in (
        t.order,
        record {
          all = t.all ∙ ap (λ l. (popped ++ fresh) ++ l) nothing ∙ append-nil (popped ++ fresh);
          by_poller = t.by_poller;
          by_others = each_end ins t.order t.by_others;
          nobody_else = t.nobody_else (omega arith);
        },
      )
