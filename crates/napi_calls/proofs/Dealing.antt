-- The packets that callers delivered, over a sequence of calls.
use Rattle.std.proofs.Common.{◌≡◌, ℕ, zero, suc, ◌<◌, List, [], ◌∷◌, ◌++◌, length, drop, sym, ap, ◌∙◌, subst, append-nil, arith}
use Rattle.rx_ring.specs.declared.{packet.Packet.Packet, ends.{RxCtx.RxCtx, RxIn.RxIn}}
use Rattle.rx_ring.specs.Ends.{RingName, ring_name, received_list, IsOneRing, SameIn}
use Rattle.napi_word.specs.{declared.{table.Pass.Pass, history.Delivery.Delivery}, Knowledge.{delivery, own_deliveries, packets_of}}
use Rattle.napi_word.proofs.Deliveries.{packets_snoc, own_both, own_one_yes, own_deliveries_none, drop_front}
use Rattle.napi_calls.specs.{declared.types.Napi.Napi, Seats.{pass_number, PutsIntoRingOf}, Instance.IsNewSeat}
use Rattle.napi_calls.specs.{Packets.{delivered, own_delivered, received_before, polled, Quiet, GivesBack}, Dealt.Delivers}

pub delivers_none : (p q : Pass) → Quiet p q → Delivers p [] q
delivers_none p q h = ap packets_of h ∙ sym (append-nil (packets_of (own_delivered p)))

-- a call without a delivery, before or after a call with one, doesn't change the packets delivered
pub delivers_behind : (a : List Packet) (p q r : Pass) → Quiet p q → Delivers q a r → Delivers p a r
delivers_behind a p q r h k = k ∙ ap (λ (l : List Delivery). packets_of l ++ a) h

pub delivers_before : (a : List Packet) (p q r : Pass) → Delivers p a q → Quiet q r → Delivers p a r
delivers_before a p q r k h = ap packets_of h ∙ k

pub delivers_back : (p q : Pass) (x : RxCtx) → GivesBack p x q → pass_number q ≡ pass_number p → Delivers p (polled p x) q
delivers_back p q x g num =
    let n = pass_number p in
    let d = delivery n (polled p x) g.stored in
    ap packets_of
    ((λ i. own_deliveries (num i) (g.deliveries i)) ∙ own_both n (delivered p) (d ∷ [])
    ∙ ap (λ (l : List Delivery). own_delivered p ++ l) (own_one_yes n (polled p x) g.stored))
    ∙ packets_snoc (own_delivered p) d

-- if a context has received exactly what was delivered, it wasn't polled since it was taken
pub polled_none : (p : Pass) (x : RxCtx) → received_list x ≡ received_before p → polled p x ≡ []
polled_none p x e =
    let all : received_list x ≡ received_before p ++ [] = e ∙ sym (append-nil (received_before p)) in
    ap (drop (length (received_before p))) all ∙ drop_front (received_before p) []

-- the deliveries of a pass that was new at the start
pub delivered_all : (n : Napi) (c : ℕ) (p q : Pass) (a : List Packet) (ds : List Delivery) → IsNewSeat n c p → pass_number q ≡ pass_number p
    → Delivers p a q → own_deliveries (pass_number q) ds ≡ own_delivered q → packets_of (own_deliveries c ds) ≡ a
delivered_all n c p q a ds new num h exact =
    ap (λ (k : ℕ). packets_of (own_deliveries k ds)) (sym (num ∙ new.number_is)) ∙ ap packets_of exact ∙ h
    ∙ ap (λ (l : List Delivery). packets_of (own_deliveries (pass_number p) l) ++ a) new.nothing_delivered
    ∙ ap (λ (l : List Delivery). packets_of l ++ a) (own_deliveries_none (pass_number p))

pub delivers_last : (a : List Packet) (p q r : Pass) → Delivers p a q → Delivers q [] r → Delivers p a r
delivers_last a p q r h k = k ∙ append-nil (packets_of (own_delivered q)) ∙ h

-- the context was taken, polled once, and put back into the slot
pub turn_delivers : (p r s t : Pass) (x y : RxCtx) (batch : List Packet) → Quiet p r → received_list x ≡ received_before r → s ≡ r
    → polled s y ≡ polled r x ++ batch → GivesBack s y t → pass_number t ≡ pass_number s → Delivers p batch t
turn_delivers p r s t x y batch quiet fresh same more g num =
    delivers_behind batch p s t (subst (λ (z : Pass). Quiet p z) (sym same) quiet)
    (subst (λ (l : List Packet). Delivers s l t) (more ∙ ap (λ (l : List Packet). l ++ batch) (polled_none r x fresh))
    (delivers_back s t y g num))

-- the context was put back into the slot without a poll
pub back_unpolled : (p q : Pass) (x : RxCtx) → received_list x ≡ received_before p → GivesBack p x q → pass_number q ≡ pass_number p
    → Delivers p [] q
back_unpolled p q x fresh g num = subst (λ (l : List Packet). Delivers p l q) (polled_none p x fresh) (delivers_back p q x g num)

pub others : (ds : List Delivery) → packets_of (own_deliveries 2 ds) ≡ [] → ((c : ℕ) → 2 < c → own_deliveries c ds ≡ []) → (c : ℕ) → 1 < c
    → packets_of (own_deliveries c ds) ≡ []
others ds two more (suc (suc zero)) low = two
others ds two more (suc (suc (suc n))) low = ap packets_of (more (suc (suc (suc n))) (omega arith))
others ds two more c low = absurd (omega (arith, low))

-- contexts with the same name belong to the same ring
pub named_ring : (input : RxIn) (x y : RxCtx) → IsOneRing input x → ring_name x ≡ ring_name y → IsOneRing input y
named_ring input x y one same = (
  sym (ap (λ (n : RingName). n.0) same) ∙ one.0,
  sym (ap (λ (n : RingName). n.1) same) ∙ one.1,
  sym (ap (λ (n : RingName). n.2) same)
      ∙ one.2,
  sym (ap (λ (n : RingName). n.3) same) ∙ one.3,
)

-- after packets were put, an end still belongs to the same ring
pub same_input : (before after : RxIn) (p : Pass) → SameIn before after → PutsIntoRingOf before p → PutsIntoRingOf after p
same_input before after p same fed =
    (fed.0, fed.1, (fed.2.0 ∙ sym same.0.0, fed.2.1 ∙ sym same.0.1, fed.2.2 ∙ sym same.0.2, fed.2.3 ∙ sym same.0.3))
