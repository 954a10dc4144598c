-- Seats of the table are split and joined. A seat is what `atomic_table` gives a thread for its steps; a `Pass` contains one.
use Rattle.std.proofs.Common.{◌≡◌, ◌≢◌, ◌⊎◌, ℕ, zero, suc, ◌+◌, ◌<◌, List, [], ◌∷◌, ◌++◌, length, set, Bool, true, cond, eqb, eq-eqb}
use Rattle.std.proofs.Common.{ne_eqb, refl, sym, ap, ◌∙◌, subst, inl, inr, ⊎_elim, arith}
use Rattle.atomic_table.specs.Table.{Splits, Joins}
use Rattle.{atomic_table.proofs.Lists.{at_longer, at_set, at_snoc, set_again}, napi_model.specs.declared.event.Event.Event}
use Rattle.napi_word.specs.{declared.history.{Key.Key, LocalHistory.LocalHistory, Delivery.Delivery}, Knowledge.{Knowledge, is_pass}}
use Rattle.napi_word.specs.Rule.{Fits, Kept, Holding, left_of, right_of, copy, copy_of, joined, spent_view}
use Rattle.napi_word.proofs.Keeps.{St, opened, running}
use lib.ListN.{get_elem?}
use mathlib.Core.Option as maybe

-- ---- lists
pub at_end : {A : Type 0} (l : List A) (a b : A) (j : ℕ) → get_elem? (l ++ a ∷ []) j ≡ maybe.some b
    → (get_elem? l j ≡ maybe.some b) ⊎ ((j ≡ length l) × (a ≡ b))
at_end [] a b zero e = inr (refl, maybe.some-injective a b e)
at_end [] a b (suc j) e = absurd (maybe.some-ne-none b (sym e))
at_end (x ∷ xs) a b zero e = inl e
at_end (x ∷ xs) a b (suc j) e = ⊎_elim (λ t. inl t) (λ t. inr (ap suc t.0, t.1)) (at_end xs a b j e)

pub within_length : {A : Type 0} (l : List A) (b : A) (j : ℕ) → get_elem? l j ≡ maybe.some b → j < length l
within_length [] b j e = absurd (maybe.some-ne-none b (sym e))
within_length (x ∷ xs) b zero e = omega arith
within_length (x ∷ xs) b (suc j) e = let low = within_length xs b j e in omega (arith, low)

-- an element of two concatenated lists is an element of one of them
pub at_join : {A : Type 0} (l m : List A) (b : A) (j : ℕ) → get_elem? (l ++ m) j ≡ maybe.some b
    → (get_elem? l j ≡ maybe.some b) ⊎ ((i : ℕ) × (length l + i ≡ j) × (get_elem? m i ≡ maybe.some b))
at_join [] m b j e = inr (j, omega arith, e)
at_join (x ∷ xs) m b zero e = inl e
at_join (x ∷ xs) m b (suc j) e = ⊎_elim (λ t. inl t) (λ t. let h = t.1 in inr (t.0, omega (arith, h), t.2)) (at_join xs m b j e)

-- a local history stays valid at another position
refit : (key : Key) (h : List Event) (ds : List Delivery) (seat seat' : ℕ → ℕ × ℕ) (p q : ℕ × ℕ) (x : LocalHistory)
    → ((c : ℕ) → seat c ≡ p → seat' c ≡ q) → Fits key h ds seat p x → Fits key h ds seat' q x
refit key h ds seat seat' p q x goes f = record {
  begins = f.begins;
  delivered = f.delivered;
  owned = λ c e. let o = f.owned c e in
      record { whole = o.whole; shown = o.shown; delivers = o.delivers; has = o.has; here = goes c o.here; few = o.few };
  controller = f.controller;
  ring = f.ring;
  begun = f.begun;
}

-- other views of the same history are valid if each of their local histories is valid at its position
other_views : {key : Key} {s : St} (r : Kept key s) (seat : ℕ → ℕ × ℕ) (views : List Knowledge)
    → ((j : ℕ) (u : Knowledge) → get_elem? views j ≡ maybe.some u → (k : ℕ) (z : LocalHistory) → get_elem? u k ≡ maybe.some z
    → Fits key r.history r.deliveries seat (j, k) z)
    → Kept key record { words = s.words; homes = s.homes; views = views }
other_views r seat views histories =
    record {
      history = r.history;
      deliveries = r.deliveries;
      seat = seat;
      legal = r.legal;
      word = r.word;
      slot = r.slot;
      histories = histories;
      few = r.few;
      order = r.order;
      few_deliver = r.few_deliver;
    }

-- ---- the second local history is split off into a seat of its own
module _ (key : Key) (id : ℕ) (x y : LocalHistory) (ys : Knowledge) (s : St) (r : Kept key s)
    (at : get_elem? s.views id ≡ maybe.some (x ∷ y ∷ ys)) where
  abbrev N : ℕ
  N = length (set s.views id (x ∷ ys))

  abbrev shift : ℕ → ℕ × ℕ
  shift zero = (id, zero)
  shift (suc zero) = (N, zero)
  shift (suc (suc k)) = (id, suc k)

  abbrev moved : ℕ × ℕ → ℕ × ℕ
  moved p = cond (eqb p.0 id) (shift p.1) p

  here : (k c : ℕ) → r.seat c ≡ (id, k) → moved (r.seat c) ≡ shift k
  here k c e = ap moved e ∙ ap (λ (b : Bool). cond b (shift k) (id, k)) (eq-eqb id id refl)

  there : (j k c : ℕ) → j ≢ id → r.seat c ≡ (j, k) → moved (r.seat c) ≡ (j, k)
  there j k c apart e = ap moved e ∙ ap (λ (b : Bool). cond b (shift k) (j, k)) (ne_eqb j id apart)

  left_fits : (k : ℕ) (z : LocalHistory) → get_elem? (x ∷ ys) k ≡ maybe.some z
      → Fits key r.history r.deliveries (λ c. moved (r.seat c)) (id, k) z
  left_fits zero z e =
      refit key r.history r.deliveries r.seat (λ c. moved (r.seat c)) (id, 0) (id, 0) z (here 0) (r.histories id (x ∷ y ∷ ys) at 0 z e)
  left_fits (suc k) z e =
      refit key r.history r.deliveries r.seat (λ c. moved (r.seat c)) (id, suc (suc k)) (id, suc k) z (here (suc (suc k)))
      (r.histories id (x ∷ y ∷ ys) at (suc (suc k)) z e)

  right_fits : (k : ℕ) (z : LocalHistory) → get_elem? (y ∷ []) k ≡ maybe.some z
      → Fits key r.history r.deliveries (λ c. moved (r.seat c)) (N, k) z
  right_fits zero z e =
      refit key r.history r.deliveries r.seat (λ c. moved (r.seat c)) (id, 1) (N, 0) z (here 1) (r.histories id (x ∷ y ∷ ys) at 1 z e)
  right_fits (suc k) z e = absurd (maybe.some-ne-none z (sym e))

  divided : Kept key record { words = s.words; homes = s.homes; views = set s.views id (x ∷ ys) ++ (y ∷ []) ∷ [] }
  divided = other_views r (λ c. moved (r.seat c)) (set s.views id (x ∷ ys) ++ (y ∷ []) ∷ [])
      (λ j u is k z e. ⊎_elim
      (λ (t : get_elem? (set s.views id (x ∷ ys)) j ≡ maybe.some u). ⊎_elim
      (λ (d : (j ≡ id) × (x ∷ ys ≡ u)). subst (λ (i : ℕ). Fits key r.history r.deliveries (λ c. moved (r.seat c)) (i, k) z) (sym d.0)
      (left_fits k z (ap (λ (v : Knowledge). get_elem? v k) d.1 ∙ e)))
      (λ (d : (j ≢ id) × (get_elem? s.views j ≡ maybe.some u)). refit key r.history r.deliveries r.seat (λ c. moved (r.seat c)) (j, k)
      (j, k) z (λ c. there j k c d.0) (r.histories j u d.1 k z e))
      (at_set s.views id j (x ∷ ys) u t))
      (λ (t : (j ≡ N) × (y ∷ [] ≡ u)). subst (λ (i : ℕ). Fits key r.history r.deliveries (λ c. moved (r.seat c)) (i, k) z) (sym t.0)
      (right_fits k z (ap (λ (v : Knowledge). get_elem? v k) t.1 ∙ e)))
      (at_end (set s.views id (x ∷ ys)) (y ∷ []) u j is))

pub gives_number : (key : Key) (id : ℕ) (x y : LocalHistory) (ys v : Knowledge) → v ≡ x ∷ y ∷ ys → is_pass v ≡ true
    → Splits (Holding key) id v (left_of v) (right_of v)
gives_number key id x y ys v is p = subst (λ (u : Knowledge). Splits (Holding key) id u (left_of u) (right_of u)) (sym is)
    (λ s holding at. inr (divided key id x y ys s (running key s holding id (x ∷ y ∷ ys) at (ap is_pass (sym is) ∙ p)) at))

-- ---- a copy of a pass's history for another pass
pub copies : (key : Key) (id : ℕ) (v : Knowledge) → is_pass v ≡ true → Splits (Holding key) id v v (copy_of v)
copies key id v p s holding at =
    let r = running key s holding id v at p in
    let o = opened v p in
    let shown : copy o.first ∷ [] ≡ copy_of v = ap copy_of (sym o.is) in
    inr (other_views r r.seat (set s.views id v ++ copy_of v ∷ [])
    (λ j u is k z e. ⊎_elim
    (λ (t : get_elem? (set s.views id v) j ≡ maybe.some u). r.histories j u
    (ap (λ (l : List Knowledge). get_elem? l j) (sym (set_again s.views id v at)) ∙ t) k z e)
    (λ (t : copy_of v ≡ u). one r o.first (r.histories id v at 0 o.first (ap (λ (l : Knowledge). get_elem? l 0) o.is)) j k z
    (ap (λ (l : Knowledge). get_elem? l k) (shown ∙ t) ∙ e))
    (at_snoc (set s.views id v) (copy_of v) u j is)))
  where
    one : (r : Kept key s) (x : LocalHistory) → Fits key r.history r.deliveries r.seat (id, 0) x → (j k : ℕ) (z : LocalHistory)
        → get_elem? (copy x ∷ []) k ≡ maybe.some z → Fits key r.history r.deliveries r.seat (j, k) z
    one r x f j zero z e =
        subst (Fits key r.history r.deliveries r.seat (j, 0)) (maybe.some-injective _ _ e) record {
          begins = f.begins;
          delivered = f.delivered;
          owned = λ c none. absurd (cc);
          controller = f.controller;
          ring = f.ring;
          begun = f.begun;
        }
    one r x f j (suc k) z e = absurd (maybe.some-ne-none z (sym e))

-- ---- one seat joins another, or only the other's own local history
module _ (key : Key) (id : ℕ) (v : Knowledge) (other : ℕ) (w u : Knowledge)
    (from : (i : ℕ) (z : LocalHistory) → get_elem? u i ≡ maybe.some z → get_elem? w i ≡ maybe.some z) (s : St) (r : Kept key s)
    (at : get_elem? s.views id ≡ maybe.some v) (apart : other ≢ id)
    (beside : get_elem? (set s.views id (joined v u)) other ≡ maybe.some w) where
  abbrev shifted : ℕ × ℕ → ℕ × ℕ
  shifted p = cond (eqb p.0 other) (id, length v + p.1) p

  stood : get_elem? s.views other ≡ maybe.some w
  stood =
      ⊎_elim (λ (t : (other ≡ id) × (joined v u ≡ w)). absurd (apart t.0))
      (λ (t : (other ≢ id) × (get_elem? s.views other ≡ maybe.some w)). t.1) (at_set s.views id other (joined v u) w beside)

  comes : (k c : ℕ) → r.seat c ≡ (other, k) → shifted (r.seat c) ≡ (id, length v + k)
  comes k c e = ap shifted e ∙ ap (λ (b : Bool). cond b (id, length v + k) (other, k)) (eq-eqb other other refl)

  stays : (j k c : ℕ) → j ≢ other → r.seat c ≡ (j, k) → shifted (r.seat c) ≡ (j, k)
  stays j k c n e = ap shifted e ∙ ap (λ (b : Bool). cond b (id, length v + k) (j, k)) (ne_eqb j other n)

  both_fit : (k : ℕ) (z : LocalHistory) → get_elem? (joined v u) k ≡ maybe.some z
      → Fits key r.history r.deliveries (λ c. shifted (r.seat c)) (id, k) z
  both_fit k z e = ⊎_elim
      (λ (t : get_elem? v k ≡ maybe.some z). refit key r.history r.deliveries r.seat (λ c. shifted (r.seat c)) (id, k) (id, k) z
      (λ c. stays id k c (λ n. apart (sym n))) (r.histories id v at k z t))
      (λ (t : (i : ℕ) × (length v + i ≡ k) × (get_elem? u i ≡ maybe.some z)).
      subst (λ (i : ℕ). Fits key r.history r.deliveries (λ c. shifted (r.seat c)) (id, i) z) t.1
      (refit key r.history r.deliveries r.seat (λ c. shifted (r.seat c)) (other, t.0) (id, length v + t.0) z (comes t.0)
      (r.histories other w stood t.0 z (from t.0 z t.2))))
      (at_join v u z k e)

  merged : Kept key record { words = s.words; homes = s.homes; views = set (set s.views id (joined v u)) other spent_view }
  merged = other_views r (λ c. shifted (r.seat c)) (set (set s.views id (joined v u)) other spent_view)
      (λ j y is k z e. ⊎_elim
      (λ (t : (j ≡ other) × (spent_view ≡ y)). absurd (maybe.some-ne-none z (sym (ap (λ (l : Knowledge). get_elem? l k) t.1 ∙ e))))
      (λ (t : (j ≢ other) × (get_elem? (set s.views id (joined v u)) j ≡ maybe.some y)). ⊎_elim
      (λ (d : (j ≡ id) × (joined v u ≡ y)). subst (λ (i : ℕ). Fits key r.history r.deliveries (λ c. shifted (r.seat c)) (i, k) z) (sym d.0)
      (both_fit k z (ap (λ (l : Knowledge). get_elem? l k) d.1 ∙ e)))
      (λ (d : (j ≢ id) × (get_elem? s.views j ≡ maybe.some y)). refit key r.history r.deliveries r.seat (λ c. shifted (r.seat c)) (j, k)
      (j, k) z (λ c. stays j k c t.0) (r.histories j y d.1 k z e))
      (at_set s.views id j (joined v u) y t.1))
      (at_set (set s.views id (joined v u)) other j spent_view y is))

pub joins : (key : Key) (id : ℕ) (v : Knowledge) (other : ℕ) (w : Knowledge) → is_pass v ≡ true
    → Joins (Holding key) id v other w (joined v w) spent_view
joins key id v other w p s holding at apart beside =
    inr (merged key id v other w w (λ i z e. e) s (running key s holding id v at p) at apart beside)
