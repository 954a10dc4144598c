-- A step is allowed if it is legal in each state that is consistent with the view of its pass, and if it writes the word of the
-- state after it.
use Rattle.napi_word.specs.{Operations.{makes_as_seen, slot_returned}}
use Rattle.napi_word.specs.{Knowledge.{Knowledge, is_pass, view_number, place_in, view_ring, delivery, own_deliveries, view_delivered}}
use Rattle.napi_word.specs.Knowledge.{received_by, received_in, first_in, last_of, Continues}
use Rattle.napi_word.specs.declared.history.{Key.Key, Delivery.Delivery}
use Rattle.napi_word.specs.declared.history.Holds.{Holds, TheVariants.{Nothing, Within, Out}}
use Rattle.napi_word.specs.Rule.{Home, Homes, Owned, Fits, Kept, Holding}
use Rattle.napi_word.specs.Slot.{Content, Carried, has_at, is_out, owns_slot, hold_of, has_slot, ring_in, beside_in, carried_received, Tied}
use Rattle.napi_word.{specs.Slot.{Moves, stays, taken, given, moved, GivesSlotBack, Shifts, SlotDelivers}}
use Rattle.napi_word.{proofs.Places.{has_out, has_same}}
use Rattle.napi_word.proofs.{Places.in_no_hand, Keeps.{St, Open, opened, grown, running, Knows, knows, own_fits, owned, found, steps, grew}}
use Rattle.napi_word.proofs.{Keeps.again, Deliveries.{some_is, prefix_self, to_prefix, of_prefix, received_snoc, last_snoc, More}}
use Rattle.{napi_word.proofs.Deliveries.{not_given, more_none, more_one}, rx_ring.specs.declared.{ends.RxCtx.RxCtx, packet.Packet.Packet}}
use Rattle.{rx_ring.specs.Ends.{ring_name, received_list}, napi_model.specs.History.{IsLegalFor, state_after}}
use Rattle.napi_model.specs.{declared.{state.{State.State as Napi, Place.Place, Seen.Seen}, event.Operation.Operation}, Step.event}
use Rattle.std.proofs.Common.{◌≡◌}
use Rattle.napi_model.{specs.{Step.{opening, seen_of, after_by}, Word.word_of}, proofs.Histories.state_after-snoc}
use Rattle.std.proofs.Common.{◌≢◌, ℕ, zero, set, length, [], ◌∷◌, ◌++◌, Option, Some, None, Bool, List, true, false, not, ◌&&◌, unwrap_or}
use Rattle.std.proofs.Common.{refl, sym, ap, ◌∙◌, subst, inr, true≢false, arith}
use Rattle.atomic_table.specs.Table.{Me, Act, keeps, takes, gives}
use Rattle.atomic_table.specs.Table.{rest, put_back, homes_after, carried_after, Valid, Allows}
use mathlib.Core.{Option.{Option as Maybe, some-ne-none}, List.IsPrefix}
use lib.ListN.{get_elem?}

-- ---- the marks of the queue in the state word

pub hold_nothing : (l : Carried) → hold_of l ≡ Some Nothing → l ≡ []
hold_nothing [] e = refl
hold_nothing ((zero, Some x) ∷ []) e = absurd (cc)
hold_nothing ((zero, None) ∷ []) e = absurd (cc)
hold_nothing l e = absurd (cc)

pub hold_within : (l : Carried) → hold_of l ≡ Some Within → (x : RxCtx) × (l ≡ (0, Some x) ∷ [])
hold_within ((zero, Some x) ∷ []) e = (x, refl)
hold_within ((zero, None) ∷ []) e = absurd (cc)
hold_within l e = absurd (cc)

pub hold_out : (l : Carried) → hold_of l ≡ Some Out → l ≡ (0, None) ∷ []
hold_out ((zero, None) ∷ []) e = refl
hold_out ((zero, Some x) ∷ []) e = absurd (cc)
hold_out l e = absurd (cc)

pub nothing : (h : Holds) → has_slot h ≡ false → h ≡ Nothing
nothing Nothing e = refl
nothing h e = absurd (true≢false e)

pub within : (h : Holds) → has_slot h ≡ true → h ≢ Out → h ≡ Within
within Nothing e n = absurd (true≢false (sym e))
within Within e n = refl
within Out e n = absurd (n refl)

pub ring_kept : (l : Carried) (v w : Knowledge) → ring_in l v ≡ view_ring v → view_ring v ≡ view_ring w → ring_in l w ≡ view_ring w
ring_kept [] v w e f = refl
ring_kept ((k, Some y) ∷ l) v w e f = e ∙ f
ring_kept ((k, None) ∷ l) v w e f = refl

pub some_held : {h : Holds} (k : ℕ) (x : RxCtx) (l : Carried) → hold_of ((k, Some x) ∷ l) ≡ Some h → has_slot h ≡ true
some_held zero x [] e = ap has_slot (sym (some_is e))
some_held k x l e = absurd (cc)

set_one : (homes : Homes) (a : Maybe Content) → length homes ≡ 1 → set homes 0 a ≡ a ∷ []
set_one (x ∷ []) a e = refl
set_one homes a e = absurd (omega arith)

-- ---- the obligations of a step

-- how a step may move the slot of the context, if it leads from one place to another
abbrev pub Fitting : Moves → ℕ → Place → Place → Type 0
Fitting stays c p q = (is_out q ≡ is_out p) × (has_at c q ≡ has_at c p)
Fitting taken c p q = (is_out p ≡ false) × (has_at c q ≡ true)
Fitting given c p q = (has_at c p ≡ true) × (is_out q ≡ false)

pub record Turn (k : ℕ) (now : Napi) (c : ℕ) (o : Operation) (m : Moves) (g : ℕ → ℕ) : Type 0 where
  pub legal : IsLegalFor k now (event c o)
  pub word : g (word_of (seen_of now)) ≡ word_of (seen_of (after_by c o now))
  pub slot : Fitting m c now.place (after_by c o now).place

module _ (key : Key) (id : ℕ) (me : Me Content Knowledge) (h : Holds) (tie : Tied h me) (s : St) (r : Kept key s) (len : length s.homes ≡ 1)
    (at : get_elem? s.views id ≡ Maybe.some me.0) (o : Open me.0) where
  abbrev start : Napi
  start = opening key.controller

  abbrev now : Napi
  now = state_after start r.history

  abbrev c : ℕ
  c = view_number me.0

  has_now : has_at c now.place ≡ has_slot h
  has_now =
      let k = knows key s r id me.0 at o in
      has_same c now.place (place_in me.0) k.owner k.place ∙ tie.right

  ring_now : view_ring me.0 ≡ Some (ring_name o.first.ring)
  ring_now = ap view_ring o.is

  abbrev ring : RxCtx
  ring = key.ring.value

  fits_now : Fits key r.history r.deliveries r.seat (id, 0) o.first
  fits_now = own_fits key s r id me.0 at o

  owned_now : Owned key r.history r.deliveries r.seat (id, 0) o.first c
  owned_now = owned key s r id me.0 at o

  shown_now : view_delivered me.0 ≡ o.first.delivered
  shown_now = ap view_delivered o.is

  -- the owner of the slot has seen all deliveries
  all_known : has_at c now.place ≡ true → o.first.delivered ≡ r.deliveries
  all_known = owned_now.has

  received_now : received_in me.0 ≡ received_by ring o.first.delivered
  received_now = ap received_in o.is ∙ ap (λ (x : RxCtx). received_by x o.first.delivered) fits_now.ring

  delivers_by : (m : Moves) (me' : Me Content Knowledge) → first_in me'.0 ≡ Some o.first.ring → Shifts m r.deliveries me me'
      → SlotDelivers m me me'
  delivers_by m me' first y = record {
    before = r.deliveries;
    begins = λ k x is. (r.histories id me.0 at k x is).delivered;
    exact = owned_now.delivers ∙ ap (own_deliveries c) (sym shown_now);
    held = λ owns. sym (shown_now ∙ all_known (has_now ∙ sym tie.right ∙ owns));
    first = first ∙ sym (ap first_in o.is);
    shifts = y;
  }

  abbrev after_place : Operation → Place
  after_place d = (after_by c d now).place

  module _ (d : Operation) where
    abbrev w : List Delivery → Knowledge
    w ds = grown o.first c r.history d ds ∷ []

    abbrev q : Place
    q = after_place d

    right_after : (ds : List Delivery) → owns_slot (w ds) ≡ has_at c q
    right_after ds =
        ap (λ (n : Option ℕ). has_at (unwrap_or n 0) (state_after (opening o.first.controller) (r.history ++ event c d ∷ [])).place)
        o.numbered
        ∙ ap (λ (k : ℕ). has_at c (state_after (opening k) (r.history ++ event c d ∷ [])).place) fits_now.controller
        ∙ ap (λ (u : Napi). has_at c u.place) (state_after-snoc start r.history (event c d))

    received_then : (ds : List Delivery) → received_in (w ds) ≡ received_by ring ds
    received_then ds = ap (λ (x : RxCtx). received_by x ds) fits_now.ring

    -- a context that stays with its owner has received all packets delivered
    received_kept : (l : Carried) → hold_of l ≡ Some h → IsPrefix (received_in me.0) (carried_received l me.0)
        → IsPrefix (received_in (w r.deliveries)) (carried_received l (w r.deliveries))
    received_kept [] e p = prefix_self (received_in (w r.deliveries))
    received_kept ((k, None) ∷ l) e p = prefix_self (received_in (w r.deliveries))
    received_kept ((k, Some x) ∷ l) e p =
        subst (λ (xs : List Packet). IsPrefix xs (received_list x))
        (received_now ∙ ap (received_by ring) (all_known (has_now ∙ some_held k x l e)) ∙ sym (received_then r.deliveries)) p

    -- how the slot and the deliveries change
    pub record Went (m : Moves) : Type 0 where
      pub ds : List Delivery
      pub more : More now (event c d) r.deliveries ds
      pub act : Act Content
      pub valid : Valid s.homes me.1 act
      pub home : is_out q ≡ false → Home key.ring.value ds (homes_after s.homes me.1 act)
      pub tied : Tied (moved m h) (w ds, carried_after me.1 act)
      pub state : SlotDelivers m me (w ds, carried_after me.1 act)

    pub slot_step : (m : Moves) → Fitting m c now.place q → (m ≡ given → h ≢ Out) → Went m
    slot_step stays f n = record {
      ds = r.deliveries;
      more = more_none now (event c d) r.deliveries (not_given c now.place q f.0);
      act = keeps;
      valid = tt;
      home = λ y. r.slot (sym f.0 ∙ y);
      tied = record {
        marked = tie.marked;
        right = right_after r.deliveries ∙ f.1 ∙ has_now;
        ring = ring_kept me.1 me.0 (w r.deliveries) tie.ring ring_now;
        unmarked = tie.unmarked;
        received = of_prefix _ _ (received_kept me.1 tie.marked (to_prefix _ _ tie.received));
      };
      state = delivers_by stays (w r.deliveries, me.1) refl (refl, refl);
    }
    slot_step taken f n =
        let home = r.slot f.0 in
        let empty = hold_nothing me.1 (tie.marked ∙ ap Some (nothing h (sym has_now ∙ in_no_hand c now.place f.0))) in
        let all : received_list home.0 ≡ received_in (w r.deliveries) = home.4 ∙ sym (received_then r.deliveries) in record {
          ds = r.deliveries;
          more = more_none now (event c d) r.deliveries (ap (λ (b : Bool). b && not (is_out q)) (in_no_hand c now.place f.0));
          act = takes 0 (Some home.0);
          valid = ap (λ (hs : Homes). get_elem? hs 0) home.1;
          home = λ y. absurd (true≢false (sym (has_out c q f.1) ∙ y));
          tied = record {
            marked = ap (λ (l : Carried). hold_of ((0, Some home.0) ∷ l)) empty;
            right = right_after r.deliveries ∙ f.1;
            ring = ap Some (home.2 ∙ ap ring_name (sym fits_now.ring));
            unmarked = home.3;
            received =
                of_prefix _ _
                (subst (λ (xs : List Packet). IsPrefix (received_in (w r.deliveries)) xs) (sym all)
                (prefix_self (received_in (w r.deliveries))));
          };
          state = delivers_by taken (w r.deliveries, (0, Some home.0) ∷ me.1) refl (
            refl,
            (
              home.0,
              ap (λ (l : Carried). (0, Some home.0) ∷ l) empty,
              all,
              ap
                  (λ (x : RxCtx). Some (last_of x r.deliveries)) fits_now.ring ∙ ap Some (sym home.5),
            ),
          );
        }
    slot_step given f n =
        let held = hold_within me.1 (tie.marked ∙ ap Some (within h (sym has_now ∙ f.0) (n refl))) in
        let named : ring_name held.0 ≡ ring_name o.first.ring =
        some_is (ap (λ (l : Carried). ring_in l me.0) (sym held.1) ∙ tie.ring ∙ ring_now) in
        let more = subst (λ (l : Carried). IsPrefix (received_in me.0) (carried_received l me.0)) held.1 (to_prefix _ _ tie.received) in
        let ds : List Delivery = r.deliveries ++ delivery c more.0 held.0 ∷ [] in
        let owns : true ≡ owns_slot me.0 = sym f.0 ∙ has_now ∙ sym tie.right in
        let all : received_list held.0 ≡ received_by ring ds =
        sym more.1 ∙ ap (λ (l : List Packet). l ++ more.0) (received_now ∙ ap (received_by ring) (all_known f.0))
        ∙ sym (received_snoc ring r.deliveries c more.0 held.0) in record {
          ds = ds;
          more = more_one now (event c d) r.deliveries more.0 held.0 f.0 (λ i. f.0 i && not (f.1 i));
          act = gives;
          valid = tt;
          home = λ y. (
            held.0,
            ap (λ (l : Carried). put_back s.homes l) held.1 ∙ set_one s.homes (Maybe.some (Some held.0)) len,
            named
                ∙ ap ring_name fits_now.ring,
            ap beside_in (sym held.1) ∙ tie.unmarked,
            all,
            sym (last_snoc ring r.deliveries (delivery c more.0 held.0)),
          );
          tied = record {
            marked = ap (λ (l : Carried). hold_of (rest l)) held.1;
            right = right_after ds ∙ in_no_hand c q f.1;
            ring = ring_kept (rest me.1) (w ds) (w ds) (ap (λ (l : Carried). ring_in (rest l) (w ds)) held.1) refl;
            unmarked = ap (λ (l : Carried). beside_in (rest l)) held.1;
            received =
                subst (λ (l : Carried). Continues (received_in (w ds)) (carried_received (rest l) (w ds))) (sym held.1)
                (of_prefix _ _ (prefix_self (received_in (w ds))));
          };
          state = delivers_by given (w ds, rest me.1) refl
              (subst (λ (b : Bool). GivesSlotBack b r.deliveries me (w ds, rest me.1)) owns (held.0, more.0, held.1, sym more.1, refl));
        }

module _ (key : Key) (slots id : ℕ) (me : Me Content Knowledge) (one : slots ≡ 1) (p : is_pass me.0 ≡ true) (h : Holds)
    (tie : Tied h me) where
  pub allowed : (g : ℕ → ℕ) (f : Seen → Operation) (m : Seen → Moves) → ((x : Seen) → m x ≡ given → h ≢ Out)
      → ((now : Napi) (c : ℕ) → Knows key.controller me.0 c now → Turn key.controller now c (f (seen_of now)) (m (seen_of now)) g)
      → Allows (Holding key) slots id me 0 g (makes_as_seen f m me)
  allowed g f m ready turn s holding len at fits =
      let r = running key s holding id me.0 at p in
      let o = opened me.0 p in
      let now = state_after (opening key.controller) r.history in
      let x = seen_of now in
      let d = f x in
      let t = turn now (view_number me.0) (knows key s r id me.0 at o) in
      let a = slot_step key id me h tie s r (len ∙ one) at o d (m x) t.slot (ready x) in (
        grown o.first (view_number me.0) r.history d a.ds ∷ [],
        a.act,
        a.valid,
        inr (steps key s r id me.0 at o d a.ds [] (λ k x is. absurd (some-ne-none x (sym is))) g t.word t.legal a.more
            (homes_after s.homes me.1 a.act) a.home),
        (
          x,
          found key s r id me.0 at o,
          (
            grew key s r id me.0 at o d a.ds [] t.legal,
            λ h' tie'. subst
                (λ (y : Holds). Tied (moved (m x) y) (grown o.first (view_number me.0) r.history d a.ds ∷ [], carried_after me.1 a.act))
                (some_is (sym tie.marked ∙ tie'.marked)) a.tied,
            a.state,
          ),
        ),
      )

  -- a pass may return an empty slot if its view says that it owns the slot
  pub returns_slot : h ≡ Out → Allows (Holding key) slots id me 0 (λ n. n) (slot_returned me)
  returns_slot out s holding len at fits =
      let r = running key s holding id me.0 at p in
      let o = opened me.0 p in
      let now = state_after (opening key.controller) r.history in
      let has = has_now key id me h tie s r (len ∙ one) at o ∙ ap has_slot out in (
        me.0,
        gives,
        tt,
        inr (again key s r id me.0 at o (put_back s.homes me.1)
            (λ y. absurd (true≢false (sym (has_out (view_number me.0) now.place has) ∙ y)))),
        (refl, ap rest (hold_out me.1 (tie.marked ∙ ap Some out))),
      )
