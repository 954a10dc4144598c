-- The effect of consecutive steps on the packets.
use Rattle.std.proofs.Common.{◌≡◌, ℕ, Bool, true, false, List, [], ◌∷◌, ◌++◌, length, drop, Some, refl, sym, ap, ◌∙◌, subst, append_assoc}
use Rattle.rx_ring.specs.{declared.{packet.Packet.Packet, ends.RxCtx.RxCtx}, Ends.{received_list, is_beside}}
use Rattle.napi_model.specs.declared.event.Operation.{Operation}
use Rattle.napi_word.specs.{declared.{table.Pass.Pass, history.Holds.Holds}, Knowledge.Knowledge}
use Rattle.napi_word.specs.Knowledge.{own_deliveries, delivery, Continues}
use Rattle.napi_word.specs.Slot.{SlotDelivers, GivesSlotBack, owns_slot, has_slot, ctx_in}
use Rattle.napi_word.specs.{Events.Steps}
use Rattle.napi_word.{specs.Passes.{view_of, ctx_of, received_of, IsStored}, proofs.Deliveries.{drop_front, received_stays, some_is}}
use Rattle.napi_calls.specs.{Seats.pass_number, Packets.{delivered, received_before, polled, IsSame, Quiet, HoldsOn, IsFresh, GivesBack}}
use Rattle.napi_calls.proofs.Standing.{fresh}
use Rattle.napi_word.specs.Knowledge as view
use Rattle.napi_word.specs.Slot as slot

-- ---- a context that wasn't polled

pub same_self : (x : RxCtx) → IsSame x x
same_self x = record { ring = ((refl, refl, refl, refl), refl); received = refl; known = refl; polls = refl }

pub same_more : {x y z : RxCtx} → IsSame x y → IsSame y z → IsSame x z
same_more a b = record {
  ring = ((b.ring.0.0 ∙ a.ring.0.0, b.ring.0.1 ∙ a.ring.0.1, b.ring.0.2 ∙ a.ring.0.2, b.ring.0.3 ∙ a.ring.0.3), b.ring.1 ∙ a.ring.1);
  received = b.received ∙ a.received;
  known = b.known ∙ a.known;
  polls = b.polls ∙ a.polls;
}

-- the slot contains the context that was put there
same_stored : {x : RxCtx} (p : Pass) (y : RxCtx) → IsStored x p → ctx_of p ≡ Some y → IsSame x y
same_stored {x} p y l is =
    subst (λ (z : RxCtx). IsSame x z) (some_is (sym l.within ∙ is))
    (record { ring = l.ring; received = l.received; known = l.known; polls = l.polls })

-- ---- callers that deliver nothing

pub quiet_step : {o : Operation} (p q : Pass) → Steps (view_of p) o (view_of q) → SlotDelivers slot.stays p.seat.me q.seat.me → Quiet p q
quiet_step p q s g = ap (λ (n : ℕ). own_deliveries n (delivered q)) s.number ∙ ap (own_deliveries (pass_number p)) g.shifts.0 ∙ g.exact

-- a caller that doesn't have the slot delivers nothing
pub quiet_given : {o : Operation} (p q : Pass) → Steps (view_of p) o (view_of q) → owns_slot (view_of p) ≡ false
    → SlotDelivers slot.given p.seat.me q.seat.me → Quiet p q
quiet_given p q s none g =
    let e = subst (λ (b : Bool). GivesSlotBack b g.before p.seat.me q.seat.me) none g.shifts in
    ap (λ (n : ℕ). own_deliveries n (delivered q)) s.number ∙ ap (own_deliveries (pass_number p)) e.0 ∙ g.exact

quiet_taken : {o : Operation} (p q : Pass) → Steps (view_of p) o (view_of q) → SlotDelivers slot.taken p.seat.me q.seat.me → Quiet p q
quiet_taken p q s g = ap (λ (n : ℕ). own_deliveries n (delivered q)) s.number ∙ ap (own_deliveries (pass_number p)) g.shifts.0 ∙ g.exact

quiet_still : (p q r : Pass) → Quiet p q → view_of r ≡ view_of q → Quiet p r
quiet_still p q r h e = ap (λ (v : Knowledge). own_deliveries (view.view_number v) (view.view_delivered v)) e ∙ h

pub quiet_more : (p q r : Pass) → Quiet p q → Quiet q r → Quiet p r
quiet_more p q r a b = b ∙ a

-- ---- the owner of the context

-- a pass owns the slot if its mark says so
pub owns : (p : Pass) (h : Holds) → p.holds ≡ h → has_slot h ≡ true → owns_slot (view_of p) ≡ true
owns p h e has = p.right ∙ ap has_slot e ∙ has

pub held_self : (p : Pass) → HoldsOn p p
held_self p = record { deliveries = refl; received = refl }

pub held_step : (p q : Pass) → owns_slot (view_of p) ≡ true → SlotDelivers slot.stays p.seat.me q.seat.me → HoldsOn p q
held_step p q has g = record { deliveries = g.shifts.0 ∙ g.held has; received = received_stays p.seat.me q.seat.me g has }

pub held_still : {p q : Pass} (r : Pass) → HoldsOn p q → view_of r ≡ view_of q → HoldsOn p r
held_still r h e = record { deliveries = ap view.view_delivered e ∙ h.deliveries; received = ap view.received_in e ∙ h.received }

pub held_more : {p q r : Pass} → HoldsOn p q → HoldsOn q r → HoldsOn p r
held_more a b = record { deliveries = b.deliveries ∙ a.deliveries; received = b.received ∙ a.received }

-- ---- taking the context

pub taken : {o : Operation} (p q r : Pass) (x : RxCtx) → Steps (view_of p) o (view_of q) → SlotDelivers slot.taken p.seat.me q.seat.me
    → received_list x ≡ received_of q → view_of r ≡ view_of q → is_beside x ≡ false → IsFresh p r x
taken p q r x s g is same unmarked =
    record { quiet = quiet_still p q r (quiet_taken p q s g) same; received = fresh p q r x g is same; unmarked = unmarked }

pub fresh_behind : (p q r : Pass) (x : RxCtx) → Quiet p q → IsFresh q r x → IsFresh p r x
fresh_behind p q r x h f = record { quiet = f.quiet ∙ h; received = f.received; unmarked = f.unmarked }

pub fresh_held : (p q r : Pass) (x : RxCtx) → IsFresh p q x → HoldsOn q r → pass_number r ≡ pass_number q → IsFresh p r x
fresh_held p q r x f h num = record {
  quiet = (λ i. own_deliveries (num i) (h.deliveries i)) ∙ f.quiet;
  received = f.received ∙ sym h.received;
  unmarked = f.unmarked;
}

-- ---- giving the context back

-- p has the context out of the slot, q has put it into the slot, and q's step returns the slot
pub gives_back : (p q r : Pass) (x : RxCtx) → HoldsOn p q → pass_number q ≡ pass_number p → IsStored x q → owns_slot (view_of q) ≡ true
    → SlotDelivers slot.given q.seat.me r.seat.me → GivesBack p x r
gives_back p q r x h num l has g =
    let e = subst (λ (b : Bool). GivesSlotBack b g.before q.seat.me r.seat.me) has g.shifts in
    let same : IsSame x e.0 = same_stored q e.0 l (ap ctx_in e.2) in
    let all : received_before q ++ e.1 ≡ received_list x = sym e.3 ∙ same.received in
    let packets : e.1 ≡ polled p x = sym (drop_front (received_before q) e.1) ∙ (λ i. drop (length (h.received i)) (all i)) in
    let before : g.before ≡ delivered p = g.held has ∙ h.deliveries in record {
      stored = e.0;
      same = same;
      deliveries = e.4 ∙ (λ i. before i ++ delivery (num i) (packets i) e.0 ∷ []);
    }

-- the compare-exchange failed, and the context was taken out of the slot again
pub got_back : (p q r s : Pass) (x y : RxCtx) → HoldsOn p q → IsStored x q → owns_slot (view_of q) ≡ true
    → SlotDelivers slot.stays q.seat.me r.seat.me → view_of s ≡ view_of r → ctx_of r ≡ Some y → HoldsOn p s × IsSame x y
got_back p q r s x y h l has g same is =
    (held_still s (held_more h (held_step q r has g)) same, same_stored q y l (sym (ap ctx_in g.shifts.1) ∙ is))

pub gives_behind : {p q r : Pass} {x y : RxCtx} → HoldsOn p q → pass_number q ≡ pass_number p → IsSame x y → GivesBack q y r
    → GivesBack p x r
gives_behind h num s g = record {
  stored = g.stored;
  same = same_more s g.same;
  deliveries = g.deliveries ∙ (λ i. h.deliveries i ++ delivery (num i) (drop (length (h.received i)) (s.received i)) g.stored ∷ []);
}

-- ---- what was polled

-- a poll appends its batch
pub polled_more : (before now next batch : List Packet) → Continues before now → next ≡ now ++ batch
    → drop (length before) next ≡ drop (length before) now ++ batch
polled_more before now next batch has e =
    let more = drop (length before) now in
    ap (drop (length before)) (e ∙ ap (λ (l : List Packet). l ++ batch) has ∙ append_assoc before more batch)
    ∙ drop_front before (more ++ batch)
