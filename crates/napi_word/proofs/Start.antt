-- A table is made, and its first seat takes the slot. A seat is what `atomic_table` gives a thread for its steps.
use Rattle.std.proofs.Common.{◌≡◌, ◌⊎◌, ℕ, zero, suc, ◌+◌, ◌-◌, ◌<◌, ◌≤◌, List, [], ◌∷◌, ◌++◌, length, get_or, set, slice_get, Some, None}
use Rattle.std.proofs.Common.{Bool, true, false, cond, eqb, eq-eqb, ne_eqb, unwrap_or, refl, sym, ap, ◌∙◌, subst, inl, inr, ⊎_elim, arith}
use Rattle.{std.proofs.Common.true≢false, atomic_table.specs.Table.{Me, opening, takes, Allows}, rx_ring.specs.declared.ends.RxCtx.RxCtx}
use Rattle.napi_model.specs.{Step.seen_of, History.{LegalHistory, state_after}, Word.word_of, declared.state.Place.TheVariants.Control}
use Rattle.napi_word.specs.declared.history.{Key.Key, LocalHistory.LocalHistory, Holds.TheVariants.Within}
use Rattle.napi_word.specs.declared.table.{Pass.Pass, StateTable.StateTable}
use Rattle.napi_word.specs.{Knowledge.{Knowledge, view_number, place_in, disable_in}, Slot.{Content, is_out, owns_slot}}
use Rattle.napi_word.specs.Rule.{new_history, new_histories_from}
use Rattle.napi_word.specs.{Rule.{maker_at, first_view, begun_view, begun_slot, Homes, Owned, Fits, Kept, Starts, Holding}}
use Rattle.napi_word.specs.{Operations.table_begun}
use Rattle.napi_word.{specs.Passes.{ctx_of, IsStored, view_of, IsPassOf, IsNewPass, Controls, Disable}, proofs.Owns.own_none}
use Rattle.napi_word.proofs.Deliveries.{own_deliveries_none, givers_none, some_is}
use lib.ListN.{get_elem?}
use mathlib.Core.Option as maybe
use Rattle.napi_model.specs.Step as model

pub opens : (key : Key) (x : RxCtx) → x ≡ key.ring.value → Holding key (opening (9 ∷ []) (Some x ∷ []) (first_view key))
opens key x same = inl record { word = refl; home = ap (λ (y : RxCtx). maybe.some (Some y) ∷ []) same; views = refl }

word_at_start : (k : ℕ) → word_of (seen_of (state_after (model.opening k) [])) ≡ 9
unfolding word_of state_after
word_at_start k = refl

out_at_start : (k : ℕ) → is_out (state_after (model.opening k) []).place ≡ true
unfolding state_after
out_at_start k = refl

legal_at_start : (k : ℕ) → LegalHistory k (model.opening k) []
unfolding LegalHistory
legal_at_start k = tt

pub owns_at_start : (last : ℕ) (of : RxCtx) (n : ℕ) → owns_slot (maker_at last of n) ≡ true
unfolding state_after
owns_at_start last of n = eq-eqb last last refl

-- the k-th of the local histories from number n on
at_from : (last : ℕ) (of : RxCtx) (n count k : ℕ) (x : LocalHistory) → get_elem? (new_histories_from last of n count) k ≡ maybe.some x
    → (new_history last of (n + k) ≡ x) × (k < count)
at_from last of n zero k x e = absurd (maybe.some-ne-none x (sym e))
at_from last of n (suc m) zero x e = (ap (new_history last of) (omega arith) ∙ maybe.some-injective _ _ e, omega arith)
at_from last of n (suc m) (suc k) x e =
    let r = at_from last of (n + 1) m k x e in
    let low = r.1 in
    (ap (new_history last of) (omega arith) ∙ r.0, omega (arith, low))

pub owns_nothing : (last : ℕ) (of : RxCtx) (c : ℕ) → c < last → owns_slot (new_history last of c ∷ []) ≡ false
unfolding state_after
owns_nothing last of c low = ne_eqb last c (λ e. omega (arith, low, e))

-- the local history of the next number is the second one in the maker's view
pub maker_more : (last : ℕ) (of : RxCtx) (n : ℕ) → n < last
    → maker_at last of n ≡ new_history last of last ∷ new_history last of n ∷ new_histories_from last of (n + 1) (last - (n + 1))
maker_more last of n low = let e : last - n ≡ suc (last - (n + 1)) = omega (arith, low) in
    ap (λ (m : ℕ). new_history last of last ∷ new_histories_from last of n m) e

pub maker_alone : (last : ℕ) (of : RxCtx) → maker_at last of last ≡ new_history last of last ∷ []
maker_alone last of = let e : last - last ≡ 0 = omega arith in
    ap (λ (m : ℕ). new_history last of last ∷ new_histories_from last of last m) e

module _ (key : Key) where
  abbrev last : ℕ
  last = key.controller

  abbrev of : RxCtx
  of = key.ring.value

  -- where each number's local history is: the seat, and the index in its view
  abbrev seat : ℕ → ℕ × ℕ
  seat c = (0, cond (eqb c last) 0 (suc c))

  new_fits : (c k : ℕ) → seat c ≡ (0, k) → c ≤ last → Fits key [] [] seat (0, k) (new_history last of c)
  new_fits c k here few = record {
    begins = ([], refl);
    delivered = ([], refl);
    owned = λ d same. subst (Owned key [] [] seat (0, k) (new_history last of c)) (some_is same) record {
      whole = own_none c;
      shown = own_none c;
      delivers = refl;
      has = λ there. refl;
      here = here;
      few = few;
    };
    controller = refl;
    ring = refl;
    begun = refl;
  }

  maker_fits : (k : ℕ) (x : LocalHistory) → get_elem? (maker_at last of 0) k ≡ maybe.some x → Fits key [] [] seat (0, k) x
  maker_fits zero x e = subst (Fits key [] [] seat (0, 0)) (maybe.some-injective _ _ e)
      (new_fits last 0 (ap (λ (b : Bool). (0, cond b 0 (suc last))) (eq-eqb last last refl)) (omega arith))
  maker_fits (suc k) x e =
      let r = at_from last of 0 (last - 0) k x e in
      let low = r.1 in
      let is : k ≡ 0 + k = omega arith in
      subst (Fits key [] [] seat (0, suc k)) (ap (new_history last of) is ∙ r.0)
      (new_fits k (suc k) (ap (λ (b : Bool). (0, cond b 0 (suc k))) (ne_eqb k last (λ e. omega (arith, low)))) (omega (arith, low)))

  begun_kept : (ws : List ℕ) (homes : Homes) → ws ≡ 9 ∷ []
      → Kept key record { words = set ws 0 (get_or ws 0 0); homes = homes; views = maker_at last of 0 ∷ [] }
  begun_kept ws homes is = record {
    history = [];
    deliveries = [];
    seat = seat;
    legal = legal_at_start last;
    word = ap (λ (l : List ℕ). set l 0 (get_or l 0 0)) is ∙ ap (λ (n : ℕ). n ∷ []) (sym (word_at_start last));
    slot = λ y. absurd (true≢false (sym (out_at_start last) ∙ y));
    histories = at_only;
    few = λ c above. own_none c;
    order = sym (givers_none (model.opening last));
    few_deliver = λ c above. own_deliveries_none c;
  }
    where
      at_only : (j : ℕ) (u : Knowledge) → get_elem? (maker_at last of 0 ∷ []) j ≡ maybe.some u → (k : ℕ) (x : LocalHistory)
          → get_elem? u k ≡ maybe.some x → Fits key [] [] seat (j, k) x
      at_only zero u there k x e = maker_fits k x (ap (λ (v : Knowledge). get_elem? v k) (maybe.some-injective _ _ there) ∙ e)
      at_only (suc j) u there k x e = absurd (maybe.some-ne-none u (sym there))

  only_first : (id : ℕ) (v : Knowledge) → get_elem? (first_view key ∷ []) id ≡ maybe.some v → id ≡ 0
  only_first zero v e = refl
  only_first (suc id) v e = absurd (maybe.some-ne-none v (sym e))

  pub begins : (slots id : ℕ) (me : Me Content Knowledge) → me ≡ (first_view key, [])
      → Allows (Holding key) slots id me 0 (λ n. n) (table_begun me)
  begins slots id me is s holding len at fits = ⊎_elim
      (λ (t : Starts key s).
      let first = only_first id me.0 (ap (λ (l : List Knowledge). get_elem? l id) (sym t.views) ∙ at) in
      let views : set s.views id (maker_at last of 0) ≡ maker_at last of 0 ∷ [] = λ i. set (t.views i) (first i) (maker_at last of 0) in (
        maker_at last of 0,
        takes 0 (Some of),
        ap (λ (hs : Homes). get_elem? hs 0) t.home,
        inr (subst
            (λ (vs : List Knowledge). Kept key record {
              words = set s.words 0 (get_or s.words 0 0);
              homes = set s.homes 0 maybe.none;
              views = vs;
            }) (sym views) (begun_kept s.words (set s.homes 0 maybe.none) t.word)),
        (
          ap (λ (m : Me Content Knowledge). begun_view m.0) (sym is),
          ap (λ (m : Me Content Knowledge). (0, Some of) ∷ m.1) is ∙ ap (λ (m : Me Content Knowledge). begun_slot m.0) (sym is),
        ),
      ))
      (λ (r : Kept key s).
      absurd (true≢false
      (sym (r.histories id me.0 at 0
      (record { begun = false; number = None; seen = []; mine = []; delivered = []; controller = key.controller; ring = key.ring.value })
      (ap (λ (m : Me Content Knowledge). get_elem? m.0 0) is)).begun)))
      holding

pub at_push : {A : Type 0} (xs : List A) (y p : A) (k : ℕ) → slice_get (xs ++ y ∷ []) k ≡ Some p
    → (slice_get xs k ≡ Some p) ⊎ ((k ≡ length xs) × (y ≡ p))
at_push [] y p zero e = inr (refl, ap (λ o. unwrap_or o y) e)
at_push [] y p (suc k) e = absurd (cc)
at_push (x ∷ xs) y p zero e = inl e
at_push (x ∷ xs) y p (suc k) e = ⊎_elim (λ t. inl t) (λ t. inr (ap suc t.0, t.1)) (at_push xs y p k e)

pub new_as : {t : StateTable} (k l : ℕ) (x y : RxCtx) (i j : ℕ) (p q : Pass) → k ≡ l → x ≡ y → i ≡ j → p ≡ q → IsNewPass t k x i p
    → IsNewPass t l y j q
new_as {t} k l x y i j p q a b d e new = subst (λ (z : ℕ × RxCtx × ℕ × Pass). IsNewPass t z.0 z.1 z.2 z.3) (λ f. (a f, b f, d f, e f)) new

-- after a step that doesn't touch it, the slot has the same context
pub still_stored : {x : RxCtx} (p q : Pass) → ctx_of q ≡ ctx_of p → IsStored x p → IsStored x q
still_stored p q same l = record {
  stored = l.stored;
  within = same ∙ l.within;
  ring = l.ring;
  received = l.received;
  known = l.known;
  polls = l.polls;
  unmarked = l.unmarked;
}

pub new_last : {t : StateTable} (last : ℕ) (x : RxCtx) (n : ℕ) (p : Pass) → n ≡ last → IsPassOf t p → view_of p ≡ maker_at last x n
    → p.holds ≡ Within → IsStored x p → IsNewPass t last x last p
new_last {t} last x n p at table view holds stored = record {
  table = table;
  view = view ∙ ap (λ (m : ℕ). maker_at last x m) at ∙ maker_alone last x;
  others = λ low. absurd (omega (arith, low));
  own = λ same. holds;
  stored = λ same. stored;
}

-- ---- what the controller's pass knows at first

place_at_start : (k : ℕ) → (state_after (model.opening k) []).place ≡ Control k
unfolding state_after
place_at_start k = refl

disable_at_start : (k : ℕ) → (state_after (model.opening k) []).flags.disable ≡ false
unfolding state_after
disable_at_start k = refl

pub new_controls : {t : StateTable} (k : ℕ) (x : RxCtx) (p : Pass) → IsNewPass t k x k p → Controls p
new_controls {t} k x p new = ap place_in new.view ∙ place_at_start k ∙ ap Control (sym (ap view_number new.view))

pub new_unmarked : {t : StateTable} (k c : ℕ) (x : RxCtx) (p : Pass) → IsNewPass t k x c p → Disable false p
new_unmarked {t} k c x p new = ap disable_in new.view ∙ disable_at_start k

pub slot_is : (a b : Content) (k l : List (ℕ × Content)) → (0, a) ∷ k ≡ (0, b) ∷ l → a ≡ b
slot_is a b k l e = ap (λ (m : List (ℕ × Content)). head_of a m) e
  where
    head_of : Content → List (ℕ × Content) → Content
    head_of x [] = x
    head_of x (y ∷ ys) = y.1
