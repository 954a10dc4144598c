-- A table at its end: what its passes held, and the local histories that their views contain.
use Rattle.napi_word.proofs.{Keeps.{St, Open, opened, running, owner_since, place_since}, Deliveries.some_is, Places.{has_owner, has_same}}
use Rattle.napi_word.proofs.{Places.is_false, Whole.whole, Counting.{numbers_of, numbers_length, find_number, every_number, no_more}}
use Rattle.napi_word.specs.{Rule.{Fits, Kept, Holding}, declared.history.{Key.Key, Holds.{Holds, TheVariants.{Nothing, Within, Out}}}}
use Rattle.napi_word.specs.declared.{history.{Delivery.Delivery, LocalHistory.LocalHistory}, table.{Pass.Pass, StateTable.StateTable}}
use Rattle.napi_word.specs.{declared.gathering.Found.Found, Ends.{Finds, picked, IsOut, IsClosedTable, views_of, Gathered}}
use Rattle.napi_word.specs.{Knowledge.{Knowledge, first_in}}
use Rattle.napi_word.specs.Knowledge.{view_delivered, own_deliveries, received_by, last_of, is_pass, view_shown, mine, view_number}
use Rattle.napi_word.specs.Knowledge.{view_controller, place_in}
use Rattle.napi_word.specs.{Knowledge.view_ring, Passes.{view_of, controller_of_table}, Slot.{Content, is_out, has_at, has_slot}}
use Rattle.rx_ring.{proofs.Names.same_name, specs.{Ends.{RingName, ring_name, received_list}, declared.ends.RxCtx.RxCtx}}
use Rattle.{atomic_table.{proofs.Lists.at_longer, specs.Table.{Final, Seen}}, std.specs.List.{AllByRecursion, IsDistinct, list_any}}
use Rattle.std.proofs.Common.{◌<◌, ◌+◌, ◌≡◌, ◌≢◌, ℕ, zero, suc, ◌≤◌, List, [], ◌∷◌, ◌++◌, length, length-append, slice_get, Option, Some}
use Rattle.std.proofs.Common.{None, Bool, true, false, unwrap_or, eqb, eq-eqb, ne_eqb, refl, sym, ap, ◌∙◌, subst, arith, true≢false}
use Rattle.{std.proofs.Common.lt_of_not-le, napi_model.{proofs.Owners.{ownership_kept, opens_sound}, specs.declared.event.Event.Event}}
use Rattle.napi_model.specs.declared.state.Place.{Place, TheVariants.{Nobody, Granted, Listed, ToThread, Polling, Control}}
use Rattle.napi_model.specs.{declared.state.State.State as Napi, History.{state_after, own}, Step.opening, Laws.is_owner}
use mathlib.Core.{Logic.dite, List.IsPrefix, Option.{Option as Maybe, some-injective}}
use native.Mathlib.Decide.{dec_le}
use lib.ListN.{get_elem?}

-- ---- the local histories of one view inside another one
abbrev pub Stands : Knowledge → Knowledge → Type 0
Stands xs ys = (k : ℕ) (x : LocalHistory) → get_elem? xs k ≡ Maybe.some x → (j : ℕ) × (get_elem? ys j ≡ Maybe.some x)

at_right : {A : Type 0} (l m : List A) (k : ℕ) (x : A) → get_elem? m k ≡ Maybe.some x → (j : ℕ) × (get_elem? (l ++ m) j ≡ Maybe.some x)
at_right [] m k x e = (k, e)
at_right (y ∷ ys) m k x e = let r = at_right ys m k x e in (suc r.0, r.1)

pub get_mid : {A : Type 0} (xs ys : List A) (y : A) → slice_get (xs ++ y ∷ ys) (length xs) ≡ Some y
get_mid [] ys y = refl
get_mid (x ∷ xs) ys y = get_mid xs ys y

pub is_pass_more : (xs ys : Knowledge) → is_pass xs ≡ true → is_pass (xs ++ ys) ≡ true
is_pass_more [] ys e = absurd (true≢false (sym e))
is_pass_more (x ∷ xs) ys e = e

-- ---- the concatenated views of the passes
stands_in : (ps : List Pass) (k : ℕ) (p : Pass) → slice_get ps k ≡ Some p → Stands (view_of p) (views_of ps)
stands_in [] k p e = absurd (cc)
stands_in (q ∷ ps) zero p e = subst (λ (y : Pass). Stands (view_of y) (views_of (q ∷ ps))) (some_is e) (at_right (views_of ps) (view_of q))
stands_in (q ∷ ps) (suc k) p e = λ i x at. let r = stands_in ps k p e i x at in (r.0, at_longer (views_of ps) (view_of q) r.0 x r.1)

at_mid : (l m : Knowledge) (x : LocalHistory) (xs : Knowledge) → m ≡ x ∷ xs → get_elem? (l ++ m) (length l) ≡ Maybe.some x
at_mid [] m x xs is = ap (λ (y : Knowledge). get_elem? y 0) is
at_mid (y ∷ l) m x xs is = at_mid l m x xs is

-- ---- what the passes held
pub gathered_none : Gathered [] [] (record { ctx = None; out = false })
gathered_none = record {
  views = refl;
  some_out = λ e. absurd (true≢false (sym e));
  none_out = λ e k p there. absurd (cc);
  none_within = λ e k p there. absurd (cc);
  ring = λ x e. absurd (cc);
}

all_more : (P : Pass → Type 0) (p : Pass) (taken : List Pass) → P p → ((k : ℕ) (q : Pass) → slice_get taken k ≡ Some q → P q)
    → (k : ℕ) (q : Pass) → slice_get (p ∷ taken) k ≡ Some q → P q
all_more P p taken one all zero q e = subst P (some_is e) one
all_more P p taken one all (suc k) q e = all k q e

pub gathered_more : (p : Pass) (taken : List Pass) (v w : Knowledge) (f f' : Found) → Gathered taken v f
    → Finds p.holds (view_ring (view_of p)) f f' → w ≡ v ++ view_of p → Gathered (p ∷ taken) w f'
gathered_more p taken v w f f' g finds both = by p.holds refl finds
  where
    views : w ≡ views_of (p ∷ taken)
    views = both ∙ ap (λ (l : Knowledge). l ++ view_of p) g.views

    by : (h : Holds) → p.holds ≡ h → Finds h (view_ring (view_of p)) f f' → Gathered (p ∷ taken) w f'
    by Nothing is same = record {
      views = views;
      some_out = λ e. let o = g.some_out (ap (λ (y : Found). y.out) (sym same) ∙ e) in (suc o.0, o.1, o.2, o.3);
      none_out = λ e. all_more (λ q. q.holds ≢ Out) p taken (λ b. cc) (g.none_out (ap (λ (y : Found). y.out) (sym same) ∙ e));
      none_within = λ e. all_more (λ q. q.holds ≢ Within) p taken (λ b. cc) (g.none_within (ap (λ (y : Found). y.ctx) (sym same) ∙ e));
      ring = λ x e. let o = g.ring x (ap (λ (y : Found). y.ctx) (sym same) ∙ e) in (suc o.0, o.1, o.2, o.3, o.4);
    }
    by Within is t = record {
      views = views;
      some_out = λ e. let o = g.some_out (ap (λ (y : Found). y.out) (sym t.1) ∙ e) in (suc o.0, o.1, o.2, o.3);
      none_out = λ e. all_more (λ q. q.holds ≢ Out) p taken (λ b. cc) (g.none_out (ap (λ (y : Found). y.out) (sym t.1) ∙ e));
      none_within = λ e. let bad : Some t.0 ≡ None = ap (λ (y : Found). y.ctx) (sym t.1) ∙ e in absurd (cc);
      ring = λ x e. (0, p, refl, t.2 ∙ ap (λ (y : RxCtx). Some (ring_name y)) (some_is (ap (λ (y : Found). y.ctx) (sym t.1) ∙ e)), is);
    }
    by Out is same = record {
      views = views;
      some_out = λ e. (0, p, refl, is);
      none_out = λ e. absurd (true≢false (ap (λ (y : Found). y.out) (sym same) ∙ e));
      none_within = λ e. all_more (λ q. q.holds ≢ Within) p taken (λ b. cc) (g.none_within (ap (λ (y : Found). y.ctx) (sym same) ∙ e));
      ring = λ x e. let o = g.ring x (ap (λ (y : Found). y.ctx) (sym same) ∙ e) in (suc o.0, o.1, o.2, o.3, o.4);
    }

pub finds_within : (h : Holds) (ring : Option RingName) (before : Found) (x : RxCtx) → h ≡ Within → ring ≡ Some (ring_name x)
    → Finds h ring before (record before { ctx = Some x })
finds_within h ring before x is named =
    subst (λ (y : Holds). Finds y ring before (record before { ctx = Some x })) (sym is) (x, refl, named)

third : (h : Holds) → h ≢ Out → h ≢ Within → h ≡ Nothing
third Nothing a b = refl
third Within a b = absurd (b refl)
third Out a b = absurd (a refl)

-- ---- the last state
module _ (t : StateTable) (passes : List Pass) (v : Knowledge) (id : ℕ) (f : Found) (g : Gathered passes v f)
    (count : controller_of_table t + 1 ≤ length passes)
    (s : St) (r : Kept t.table.shared.key s) (at : get_elem? s.views id ≡ Maybe.some v) where
  abbrev key : Key
  key = t.table.shared.key

  abbrev h : List Event
  h = r.history

  abbrev now : Napi
  now = state_after (opening key.controller) h

  abbrev front : (q : Pass) → Open (view_of q)
  front q = opened (view_of q) q.is_pass

  -- the rule of the table, for a pass's own local history
  stood : (k : ℕ) (q : Pass) → slice_get passes k ≡ Some q → (j : ℕ) × Fits key h r.deliveries r.seat (id, j) (front q).first
  stood k q e =
      let o = front q in
      let y = stands_in passes k q e 0 o.first (ap (λ (l : Knowledge). get_elem? l 0) o.is) in
      (y.0, r.histories id v at y.0 o.first (ap (λ (l : Knowledge). get_elem? l y.0) g.views ∙ y.1))
      -- ---- no number occurs twice among the passes, so every number occurs

  abbrev place_of : ℕ → ℕ
  place_of n = (r.seat n).1

  abbrev Front : List Pass → Type 0
  Front ps = (k : ℕ) (x : LocalHistory) → get_elem? (views_of ps) k ≡ Maybe.some x → get_elem? v k ≡ Maybe.some x

  front_less : (p : Pass) (ps : List Pass) → Front (p ∷ ps) → Front ps
  front_less p ps f k x e = f k x (at_longer (views_of ps) (view_of p) k x e)

  at_first : (p : Pass) (ps : List Pass) → Front (p ∷ ps) → place_of (view_number (view_of p)) ≡ length (views_of ps)
  at_first p ps f =
      let o = front p in
      let fit =
      r.histories id v at (length (views_of ps)) o.first
      (f (length (views_of ps)) o.first (at_mid (views_of ps) (view_of p) o.first o.extra o.is)) in
      ap (λ (q : ℕ × ℕ). q.1) (fit.owned (view_number (view_of p)) o.numbered).here

  longer : (p : Pass) (ps : List Pass) → length (views_of ps) < length (views_of (p ∷ ps))
  longer p ps =
      let o = front p in
      let n : length (views_of ps ++ view_of p) ≡ length (views_of ps) + length (view_of p) = length-append (views_of ps) (view_of p) in
      let m : length (view_of p) ≡ suc (length o.extra) = ap (λ (l : Knowledge). length l) o.is in
      omega (arith, n, m)

  before : (m : ℕ) (ps : List Pass) → Front ps → length (views_of ps) ≤ m → AllByRecursion (λ n. place_of n < m) (numbers_of ps)
  before m [] f le = tt
  before m (p ∷ ps) f le =
      let here = at_first p ps f in
      let more = longer p ps in
      (omega (arith, here, more, le), before m ps (front_less p ps f) (omega (arith, more, le)))

  apart : (c m : ℕ) (xs : List ℕ) → place_of c ≡ m → AllByRecursion (λ n. place_of n < m) xs → AllByRecursion (λ y. eqb c y ≡ false) xs
  apart c m [] here low = tt
  apart c m (x ∷ xs) here low = let one = low.0 in
      (ne_eqb c x (λ e. let same = ap place_of e in omega (arith, here, one, same)), apart c m xs here low.1)

  distinct : (ps : List Pass) → Front ps → IsDistinct eqb (numbers_of ps)
  unfolding IsDistinct
  distinct [] f = tt
  distinct (p ∷ ps) f = (
    apart (view_number (view_of p)) (length (views_of ps)) (numbers_of ps) (at_first p ps f)
        (before (length (views_of ps)) ps (front_less p ps f) (omega arith)),
    distinct ps (front_less p ps f),
  )

  all_distinct : IsDistinct eqb (numbers_of passes)
  all_distinct = distinct passes (λ k x e. ap (λ (l : Knowledge). get_elem? l k) g.views ∙ e)

  all_below : (q : ℕ) → list_any (eqb q) (numbers_of passes) ≡ true → q ≤ key.controller
  all_below q h =
      let a = find_number q passes h in
      let o = front a.1 in
      subst (λ (n : ℕ). n ≤ key.controller) a.3 ((stood a.0 a.1 a.2).1.owned (view_number (view_of a.1)) o.numbered).few

  pub all : (c : ℕ) → c ≤ controller_of_table t → (k : ℕ) × (p : Pass) × (slice_get passes k ≡ Some p) × (view_number (view_of p) ≡ c)
  all c low =
      let same = numbers_length passes in
      find_number c passes (every_number key.controller c (numbers_of passes) all_distinct all_below (omega (arith, same, count)) low)

  pub counted : length passes ≡ controller_of_table t + 1
  counted =
      let same = numbers_length passes in
      let most = no_more key.controller (numbers_of passes) all_distinct all_below in
      omega (arith, same, count, most)

  pub begins : (k : ℕ) (q : Pass) → slice_get passes k ≡ Some q → IsPrefix (view_shown (view_of q)) h
  begins k q e = subst (λ (l : List Event). IsPrefix l h) (sym (ap view_shown (front q).is)) (stood k q e).1.begins

  pub exact : (k : ℕ) (q : Pass) → slice_get passes k ≡ Some q → own (view_number (view_of q)) h ≡ mine (view_of q)
  exact k q e = let o = front q in
      ((stood k q e).1.owned (view_number (view_of q)) o.numbered).whole ∙ sym (ap mine o.is)

  pub firsts : (k : ℕ) (q : Pass) → slice_get passes k ≡ Some q → first_in (view_of q) ≡ Some key.ring.value
  firsts k q e = ap first_in (front q).is ∙ ap Some (stood k q e).1.ring

  pub deliveries_begin : (k : ℕ) (q : Pass) → slice_get passes k ≡ Some q → IsPrefix (view_delivered (view_of q)) r.deliveries
  deliveries_begin k q e =
      subst (λ (l : List Delivery). IsPrefix l r.deliveries) (sym (ap view_delivered (front q).is)) (stood k q e).1.delivered

  pub deliveries_exact : (k : ℕ) (q : Pass) → slice_get passes k ≡ Some q
      → own_deliveries (view_number (view_of q)) r.deliveries ≡ own_deliveries (view_number (view_of q)) (view_delivered (view_of q))
  deliveries_exact k q e = let o = front q in
      ((stood k q e).1.owned (view_number (view_of q)) o.numbered).delivers
      ∙ ap (λ (l : Knowledge). own_deliveries (view_number (view_of q)) (view_delivered l)) (sym o.is)

  pub longest : (k : ℕ) (p : Pass) → slice_get passes k ≡ Some p
      → ((j : ℕ) (q : Pass) → slice_get passes j ≡ Some q → length (view_shown (view_of q)) ≤ length (view_shown (view_of p)))
      → view_shown (view_of p) ≡ h
  longest k p e most = whole key.controller h (view_shown (view_of p)) (begins k p e)
      (λ c low.
      let a = all c low in
      let o = front a.1 in
      let fit = (stood a.0 a.1 a.2).1 in
      let w = fit.owned (view_number (view_of a.1)) o.numbered in
      let is : c ≡ view_number (view_of a.1) = sym a.3 in (
        o.first.seen,
        o.first.mine,
        fit.begins,
        ap (λ (n : ℕ). own n o.first.seen) is ∙ w.shown,
        ap (λ (n : ℕ). own n h) is ∙ w.whole,
        subst (λ (l : List Event). length l ≤ length (view_shown (view_of p))) (ap view_shown o.is) (most a.0 a.1 a.2),
      ))
      r.few

  abbrev seen_place : Pass → Place
  seen_place q = (state_after (opening key.controller) (front q).first.seen).place

  viewed : (k : ℕ) (q : Pass) → slice_get passes k ≡ Some q → place_in (view_of q) ≡ seen_place q
  viewed k q e = let o = front q in
      ap place_in o.is ∙ ap (λ (n : ℕ). (state_after (opening n) o.first.seen).place) (stood k q e).1.controller

  pub places : (k : ℕ) (q : Pass) → slice_get passes k ≡ Some q → is_owner (view_number (view_of q)) (place_in (view_of q)) ≡ true
      → now.place ≡ place_in (view_of q)
  places k q e owner =
      let o = front q in
      let fit = stood k q e in
      let is : is_owner (view_number (view_of q)) (seen_place q) ≡ true =
      ap (is_owner (view_number (view_of q))) (sym (viewed k q e)) ∙ owner in
      place_since key s r (id, fit.0) o.first fit.1 (view_number (view_of q)) o.numbered is ∙ sym (viewed k q e)

  has_now : (k : ℕ) (q : Pass) → slice_get passes k ≡ Some q → has_at (view_number (view_of q)) now.place ≡ has_slot q.holds
  has_now k q e =
      let o = front q in
      let fit = stood k q e in
      let n = view_number (view_of q) in
      has_same n now.place (seen_place q) (owner_since key s r (id, fit.0) o.first fit.1 n o.numbered)
      (place_since key s r (id, fit.0) o.first fit.1 n o.numbered)
      ∙ ap (has_at n) (sym (viewed k q e)) ∙ q.right

  some_slot : (x : Holds) → x ≢ Nothing → has_slot x ≡ true
  some_slot Nothing a = absurd (a refl)
  some_slot x a = refl

  pub deliveries_held : (k : ℕ) (q : Pass) → slice_get passes k ≡ Some q → q.holds ≢ Nothing → view_delivered (view_of q) ≡ r.deliveries
  deliveries_held k q e some = let o = front q in
      ap view_delivered o.is ∙ ((stood k q e).1.owned (view_number (view_of q)) o.numbered).has (has_now k q e ∙ some_slot q.holds some)

  pub controllers : (k : ℕ) (q : Pass) → slice_get passes k ≡ Some q → view_controller (view_of q) ≡ key.controller
  controllers k q e = ap view_controller (front q).is ∙ (stood k q e).1.controller

  pub rings : (k : ℕ) (q : Pass) → slice_get passes k ≡ Some q → view_ring (view_of q) ≡ Some (ring_name key.ring.value)
  rings k q e = ap view_ring (front q).is ∙ ap (λ (x : RxCtx). Some (ring_name x)) (stood k q e).1.ring

  -- if no pass's mark says that it holds the slot, no caller owns the slot by the history
  has_nothing : (c : ℕ) → ((k : ℕ) (q : Pass) → slice_get passes k ≡ Some q → q.holds ≡ Nothing) → has_at c now.place ≡ false
  has_nothing c empty = dite (dec_le c key.controller)
      (λ low.
      let a = all c low in
      let q = a.1 in
      let o = front q in
      let fit = (stood a.0 q a.2).1 in
      let p : ℕ × ℕ = (id, (stood a.0 q a.2).0) in
      let n = view_number (view_of q) in
      let same : has_at n now.place ≡ has_at n (seen_place q) =
      has_same n now.place (seen_place q) (owner_since key s r p o.first fit n o.numbered)
      (place_since key s r p o.first fit n o.numbered) in
      ap (λ (n : ℕ). has_at n now.place) (sym a.3) ∙ same ∙ ap (has_at n) (sym (viewed a.0 q a.2)) ∙ q.right
      ∙ ap has_slot (empty a.0 q a.2))
      (λ high.
      let top = lt_of_not-le high in
      let none : is_owner_false c = is_owner_none c (r.few c top) (λ e. omega (arith, top, e)) in
      is_false (has_at c now.place) (λ e. true≢false (sym (has_owner c now.place e) ∙ none)))
    where
      is_owner_false : ℕ → Type 0
      is_owner_false c = is_owner c now.place ≡ false

      is_owner_none : (c : ℕ) → own c h ≡ [] → (key.controller ≡ c → ⊥) → is_owner_false c
      is_owner_none c none apart = ownership_kept key.controller c (opening key.controller) h (opens_sound key.controller) r.legal none
          ∙ ne_eqb key.controller c apart

  at_home : ((k : ℕ) (q : Pass) → slice_get passes k ≡ Some q → q.holds ≡ Nothing) → is_out now.place ≡ false
  at_home empty = by now.place refl
    where
      by : (p : Place) → now.place ≡ p → is_out p ≡ false
      by Nobody e = refl
      by (Granted c) e = refl
      by Listed e = refl
      by ToThread e = refl
      by (Polling c) e = absurd (true≢false (sym (ap (has_at c) e ∙ eq-eqb c c refl) ∙ has_nothing c empty))
      by (Control c) e = absurd (true≢false (sym (ap (has_at c) e ∙ eq-eqb c c refl) ∙ has_nothing c empty))

  named : (k : ℕ) (q : Pass) (x : RxCtx) → slice_get passes k ≡ Some q → view_ring (view_of q) ≡ Some (ring_name x)
      → ring_name x ≡ ring_name key.ring.value
  named k q x e ring =
      let o = front q in
      let is : Some (ring_name x) ≡ Some (ring_name o.first.ring) = sym ring ∙ ap view_ring o.is in
      ap (λ (y : Option RingName). unwrap_or y (ring_name x)) is ∙ ap ring_name (stood k q e).1.ring

  module _ (slots : List Content) (each : (k : ℕ) (y : Content) → get_elem? s.homes k ≡ Maybe.some (Maybe.some y)
      → get_elem? slots k ≡ Maybe.some y) (slot : Content) (there : get_elem? slots 0 ≡ Maybe.some slot) where
    -- if no pass has taken the context out of the slot, it is in the slot
    in_slot : f.out ≡ false → f.ctx ≡ None → (x : RxCtx) × (slot ≡ Some x) × (ring_name x ≡ ring_name key.ring.value)
    in_slot out none =
        let home = r.slot (at_home (λ k q e. third q.holds (g.none_out out k q e) (g.none_within none k q e))) in
        (home.0, some-injective _ _ (sym there ∙ each 0 (Some home.0) (ap (λ (l : List (Maybe Content)). get_elem? l 0) home.1)), home.2)

    gone : (out : Bool) (held : Option RxCtx) → f.out ≡ out → f.ctx ≡ held → picked out held slot ≡ None → IsOut passes
    gone true held a b e = g.some_out a
    gone false (Some x) a b e = absurd (cc)
    gone false None a b e = let x = in_slot a b in let bad : Some x.0 ≡ None = sym x.1 ∙ e in absurd (cc)

    back : IsOut passes → picked f.out f.ctx slot ≡ None
    back o = by f.out refl
      where
        by : (b : Bool) → f.out ≡ b → picked b f.ctx slot ≡ None
        by true e = refl
        by false e = absurd (g.none_out e o.0 o.1 o.2 o.3)

    right : (out : Bool) (held : Option RxCtx) → f.out ≡ out → f.ctx ≡ held → (x : RxCtx) → picked out held slot ≡ Some x
        → ring_name x ≡ ring_name key.ring.value
    right true held a b x e = absurd (cc)
    right false (Some y) a b x e = let q = g.ring y b in ap ring_name (some_is (sym e)) ∙ named q.0 q.1 y q.2 q.3
    right false None a b x e = let y = in_slot a b in ap ring_name (some_is (sym e ∙ y.1)) ∙ y.2

    received : (x : RxCtx) → picked f.out f.ctx slot ≡ Some x → ((k : ℕ) (q : Pass) → slice_get passes k ≡ Some q → q.holds ≡ Nothing)
        → (received_list x ≡ received_by key.ring.value r.deliveries) × (x ≡ last_of key.ring.value r.deliveries)
    received x e empty =
        let home = r.slot (at_home empty) in
        let there : slot ≡ Some home.0 =
        some-injective _ _ (sym there ∙ each 0 (Some home.0) (ap (λ (l : List (Maybe Content)). get_elem? l 0) home.1)) in
        let is : x ≡ home.0 = by f.out f.ctx refl refl e there in
        (ap received_list is ∙ home.4, is ∙ home.5)
      where
        by : (out : Bool) (held : Option RxCtx) → f.out ≡ out → f.ctx ≡ held → picked out held slot ≡ Some x → {y : RxCtx} → slot ≡ Some y
            → x ≡ y
        by true held a b e t = absurd (cc)
        by false (Some z) a b e t = let q = g.ring z b in let bad : Nothing ≡ Within = sym (empty q.0 q.1 q.2) ∙ q.4 in absurd (cc)
        by false None a b e t = some_is (sym e ∙ t)

    pub closes : IsClosedTable t passes (picked f.out f.ctx slot)
    closes = record {
      history = h;
      legal = r.legal;
      begins = begins;
      exact = exact;
      count = counted;
      each = all;
      longest = longest;
      places = places;
      others = r.few;
      deliveries = r.deliveries;
      firsts = firsts;
      deliveries_order = r.order;
      deliveries_begin = deliveries_begin;
      deliveries_exact = deliveries_exact;
      deliveries_others = r.few_deliver;
      deliveries_held = deliveries_held;
      received = λ x e empty. received x e empty;
      controllers = controllers;
      rings = rings;
      none = (gone f.out f.ctx refl refl, back);
      same = λ x e. same_name key.ring.value x (right f.out f.ctx refl refl x e);
    }

pub ended : (t : StateTable) (passes : List Pass) (v : Knowledge) (id : ℕ) (f : Found) → Gathered passes v f
    → controller_of_table t + 1 ≤ length passes
    → is_pass v ≡ true → (ws : List ℕ) (slots : List Content) (slot : Content) → Final (Seen (Holding t.table.shared.key) id v) ws slots
    → get_elem? slots 0 ≡ Maybe.some slot
    → IsClosedTable t passes (picked f.out f.ctx slot)
ended t passes v id f g count p ws slots slot final there =
    closes t passes v id f g count final.0
    (running t.table.shared.key final.0 final.1.0 id v final.1.1 p) final.1.1 slots final.4 slot there
