-- Appending to the deliveries: which caller may do so, and what stays true.
use Rattle.std.proofs.Common.{◌≡◌, ◌≢◌, ℕ, List, [], ◌∷◌, ◌++◌, Bool, true, false, not, ◌&&◌, nat_eq, eq-eqb, ne_eqb, refl, sym, ap, ◌∙◌}
use Rattle.std.proofs.{Common.{append_assoc, length, drop, subst, Option, Some, unwrap_or, true≢false}, lemmas.List.append-nil}
use Rattle.{std.proofs.lemmas.{List.Elements.filter-append, Bool.eqb-true}, atomic_table.specs.Table.Me}
use Rattle.rx_ring.specs.{declared.{packet.Packet.Packet, ends.RxCtx.RxCtx}, Ends.{received_list, ring_name}}
use Rattle.napi_model.specs.declared.{state.{State.State as Napi, Place.{Place, TheVariants.{Polling, Control}}}, event.Event.Event}
use Rattle.napi_model.{specs.{Step.after, History.{LegalHistory, IsLegalFor, state_after}, Laws.IsSound}, proofs.Owners.ownership_kept}
use Rattle.napi_model.proofs.Owners.{owner_kept}
use Rattle.napi_word.specs.{declared.history.Delivery.Delivery, Knowledge.{Knowledge, first_in, received_in}}
use Rattle.napi_word.specs.Knowledge.{view_delivered, delivery, packets_of, own_deliveries, received_by, last_of, deliverers, Continues}
use Rattle.napi_word.specs.Knowledge.{view_ring}
use Rattle.napi_word.{specs.Slot.{Content, stays, SlotDelivers, owns_slot, has_at, is_out, is_given, one_if, givers}}
use Rattle.napi_word.{proofs.Places.has_same}
use Rattle.napi_word.proofs.{Places.has_out, Owns.own_no}
use mathlib.Core.List.{IsPrefix}

pub some_is : {A : Type 0} {a b : A} → Some a ≡ Some b → a ≡ b
some_is {A} {a} e = ap (λ (o : Option A). unwrap_or o a) e

pub prefix_self : {A : Type 0} (l : List A) → IsPrefix l l
prefix_self l = ([], append-nil l)

pub prefix_snoc : {A : Type 0} (g h : List A) (x : A) → IsPrefix g h → IsPrefix g (h ++ x ∷ [])
prefix_snoc g h x p = (p.0 ++ x ∷ [], sym (append_assoc g p.0 (x ∷ [])) ∙ ap (λ l. l ++ x ∷ []) p.1)

pub drop_front : {A : Type 0} (g h : List A) → drop (length g) (g ++ h) ≡ h
drop_front [] h = refl
drop_front (x ∷ g) h = drop_front g h

pub to_prefix : (before after : List Packet) → Continues before after → IsPrefix before after
to_prefix before after e = (drop (length before) after, sym e)

pub of_prefix : (before after : List Packet) → IsPrefix before after → Continues before after
of_prefix before after p =
    subst (λ (l : List Packet). Continues before l) p.1 (ap (λ (l : List Packet). before ++ l) (sym (drop_front before p.0)))

pub packets_snoc : (ds : List Delivery) (d : Delivery) → packets_of (ds ++ d ∷ []) ≡ packets_of ds ++ d.packets
packets_snoc [] d = append-nil d.packets
packets_snoc (e ∷ ds) d =
    ap (λ (l : List Packet). e.packets ++ l) (packets_snoc ds d) ∙ sym (append_assoc e.packets (packets_of ds) d.packets)

pub received_snoc : (ring : RxCtx) (ds : List Delivery) (c : ℕ) (packets : List Packet) (x : RxCtx)
    → received_by ring (ds ++ delivery c packets x ∷ []) ≡ received_by ring ds ++ packets
received_snoc ring ds c packets x = ap (λ (l : List Packet). received_list ring ++ l) (packets_snoc ds (delivery c packets x))
    ∙ sym (append_assoc (received_list ring) (packets_of ds) packets)

pub last_snoc : (ring : RxCtx) (ds : List Delivery) (d : Delivery) → last_of ring (ds ++ d ∷ []) ≡ d.ctx
last_snoc ring [] d = refl
last_snoc ring (e ∷ ds) d = last_snoc e.ctx ds d

pub own_one_yes : (n : ℕ) (packets : List Packet) (x : RxCtx) → own_deliveries n (delivery n packets x ∷ []) ≡ delivery n packets x ∷ []
unfolding own_deliveries
own_one_yes n packets x = rw (eq-eqb n n refl) refl

own_one_no : (n c : ℕ) (packets : List Packet) (x : RxCtx) → c ≢ n → own_deliveries n (delivery c packets x ∷ []) ≡ []
unfolding own_deliveries
own_one_no n c packets x apart = rw (ne_eqb c n apart) refl

pub own_both : (n : ℕ) (g h : List Delivery) → own_deliveries n (g ++ h) ≡ own_deliveries n g ++ own_deliveries n h
unfolding own_deliveries
own_both n g h = filter-append (λ (d : Delivery). nat_eq d.by n) g h

pub has_one : (a b : ℕ) (p : Place) → has_at a p ≡ true → has_at b p ≡ true → a ≡ b
has_one a b (Polling c) x y = sym (eqb-true c a x) ∙ eqb-true c b y
has_one a b (Control c) x y = sym (eqb-true c a x) ∙ eqb-true c b y
has_one a b p x y = absurd (true≢false (sym x))

-- another caller's events don't change whether k has the slot
pub has_others : (k n : ℕ) (s : Napi) (e : Event) → IsSound s → IsLegalFor k s e → e.caller ≢ n
    → has_at n (after s e).place ≡ has_at n s.place
unfolding LegalHistory state_after
has_others k n s e sound legal apart = has_same n (after s e).place s.place
    (ownership_kept k n s (e ∷ []) sound (legal, tt) (own_no n e apart))
    (λ y. ap (λ (t : Place × Bool). t.0) (owner_kept k n s (e ∷ []) sound (legal, tt) (own_no n e apart) y))

deliverers_snoc : (ds : List Delivery) (d : Delivery) → deliverers (ds ++ d ∷ []) ≡ deliverers ds ++ d.by ∷ []
deliverers_snoc [] d = refl
deliverers_snoc (e ∷ ds) d = ap (λ (l : List ℕ). e.by ∷ l) (deliverers_snoc ds d)

pub givers_snoc : (s : Napi) (h : List Event) (e : Event)
    → givers s (h ++ e ∷ []) ≡ givers s h ++ one_if (is_given (state_after s h) e) e.caller
unfolding givers state_after
givers_snoc s [] e = append-nil (one_if (is_given s e) e.caller)
givers_snoc s (x ∷ h) e = ap (λ (l : List ℕ). one_if (is_given s x) x.caller ++ l) (givers_snoc (after s x) h e)
    ∙ sym (append_assoc (one_if (is_given s x) x.caller) (givers (after s x) h) (one_if (is_given (state_after (after s x) h) e) e.caller))

pub givers_none : (s : Napi) → givers s [] ≡ []
unfolding givers
givers_none s = refl

-- if the owner of the slot stays the same, the slot isn't returned
pub not_given : (c : ℕ) (p q : Place) → is_out q ≡ is_out p → (has_at c p && not (is_out q)) ≡ false
not_given c p q same = by (has_at c p) refl
  where
    by : (b : Bool) → has_at c p ≡ b → (has_at c p && not (is_out q)) ≡ false
    by true e = (λ i. e i && not (same i)) ∙ ap not (has_out c p e)
    by false e = ap (λ (b : Bool). b && not (is_out q)) e

-- c adds at most one delivery, of its own, and only if it has the slot
pub record More (now : Napi) (e : Event) (ds ds' : List Delivery) : Type 0 where
  pub begins : (l : List Delivery) → IsPrefix l ds → IsPrefix l ds'
  pub order : deliverers ds' ≡ deliverers ds ++ one_if (is_given now e) e.caller
  pub others : (n : ℕ) → e.caller ≢ n → own_deliveries n ds' ≡ own_deliveries n ds
  pub same : (n : ℕ) → e.caller ≢ n → has_at n now.place ≡ true → ds' ≡ ds

pub more_none : (now : Napi) (e : Event) (ds : List Delivery) → is_given now e ≡ false → More now e ds ds
more_none now e ds none =
    record {
      begins = λ l p. p;
      order = sym (append-nil (deliverers ds)) ∙ ap (λ (b : Bool). deliverers ds ++ one_if b e.caller) (sym none);
      others = λ n apart. refl;
      same = λ n apart has. refl;
    }

pub more_one : (now : Napi) (e : Event) (ds : List Delivery) (packets : List Packet) (x : RxCtx) → has_at e.caller now.place ≡ true
    → is_given now e ≡ true → More now e ds (ds ++ delivery e.caller packets x ∷ [])
more_one now e ds packets x has one = record {
  order = deliverers_snoc ds (delivery e.caller packets x) ∙ ap (λ (b : Bool). deliverers ds ++ one_if b e.caller) (sym one);
  begins = λ l p. prefix_snoc l ds (delivery e.caller packets x) p;
  others = λ n apart. own_both n ds (delivery e.caller packets x ∷ [])
      ∙ ap (λ (l : List Delivery). own_deliveries n ds ++ l) (own_one_no n e.caller packets x apart) ∙ append-nil (own_deliveries n ds);
  same = λ n apart there. absurd (apart (has_one e.caller n now.place has there));
}

pub own_deliveries_none : (c : ℕ) → own_deliveries c [] ≡ []
unfolding own_deliveries
own_deliveries_none c = refl

-- ---- what a view determines once its deliveries are known

-- two views with the same first context and the same deliveries have the same ring and received the same packets
pub ring_as : (v w : Knowledge) → first_in w ≡ first_in v → view_ring w ≡ view_ring v
ring_as [] [] e = refl
ring_as (x ∷ xs) (y ∷ ys) e = ap (λ (r : Option RxCtx). Some (ring_name (unwrap_or r x.ring))) e
ring_as v w e = absurd (cc)

pub received_as : (v w : Knowledge) → first_in w ≡ first_in v → view_delivered w ≡ view_delivered v → received_in w ≡ received_in v
received_as [] [] e d = refl
received_as (x ∷ xs) (y ∷ ys) e d = λ i. received_by (unwrap_or (e i) x.ring) (d i)
received_as v w e d = absurd (cc)

-- a step that leaves the slot with its owner keeps the packets that were received before it
pub received_stays : (me me' : Me Content Knowledge) → SlotDelivers stays me me' → owns_slot me.0 ≡ true
    → received_in me'.0 ≡ received_in me.0
received_stays me me' g owns = received_as me.0 me'.0 g.first (g.shifts.0 ∙ g.held owns)

pub received_is : (v : Knowledge) (r : RxCtx) (ds : List Delivery) → first_in v ≡ Some r → view_delivered v ≡ ds
    → received_in v ≡ received_by r ds
received_is [] r ds e d = absurd (cc)
received_is (x ∷ xs) r ds e d = λ i. received_by (unwrap_or (e i) r) (d i)
