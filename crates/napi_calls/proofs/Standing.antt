-- What a caller's value (`Caller`, `Polling` and others) implies after a step.
use Rattle.std.proofs.Common.{◌≡◌, ℕ, Bool, true, false, cond, List, Option, Some, None, unwrap_or, true≢false, eq-eqb, refl, sym, ap, ◌∙◌}
use Rattle.{std.proofs.Common.subst, napi_model.specs.declared.state.Place.{TheVariants.{Nobody, Granted, Polling, Control}, Place}}
use Rattle.napi_model.specs.declared.{state.{Kind.Kind, Seen.Seen, State.State}, event.Operation.{Operation, TheVariants.{Look, Hand}}}
use Rattle.napi_model.specs.{declared.event.Operation.TheVariants.{Take, MarkDisable, TakeDisable, Unmark, Enable}, Step.opening}
use Rattle.napi_model.specs.{Step.after_by, History.{LegalHistory, own}, Laws.{is_owner, IsOwnedBy, IsPollingPlace}}
use Rattle.rx_ring.specs.{declared.{ends.{RxIn.RxIn, RxCtx.RxCtx}, packet.Packet.Packet}, Ends.{RingName, ring_name, received_list}}
use Rattle.{rx_ring.specs.Ends.IsOneRing, napi_word.specs.{Slot.{SlotDelivers, has_slot}, Knowledge.Knowledge, Events.Steps}}
use Rattle.napi_word.specs.{declared.{history.Holds.TheVariants.{Out, Nothing}, table.Pass.Pass}, Passes.{view_of, received_of}}
use Rattle.napi_word.proofs.{Deliveries.{of_prefix, prefix_self, received_stays}, Knowing.{unbusy, take_polls, quiet_polls, step_of}}
use Rattle.napi_calls.{proofs.{Steps.{found, state_stepped, shows_legal}, Whole.whole}}
use Rattle.napi_calls.{specs.Knows.{own_place, Free, Stands, KnowsBusyPoll}}
use Rattle.napi_calls.specs.{Knows.{ControllerKnows, Has}}
use Rattle.napi_calls.specs.{Seats.{pass_number, controller_of, shown, state_shown, instance_ring, ShowsLegal, PutsIntoRingOf}}
use Rattle.napi_word.specs.Slot as slot
use Rattle.napi_word.specs.Knowledge as view

-- ---- places, as a caller sees them

pub is_kept : (c : ℕ) (p q : Place) (b : Bool) → is_owner c p ≡ b → is_owner c q ≡ is_owner c p → (is_owner c p ≡ true → q ≡ p)
    → own_place c q ≡ own_place c p
is_kept c p q true is same stays = ap (own_place c) (stays is)
is_kept c p q false is same stays = ap (λ (b : Bool). cond b q Nobody) (same ∙ is) ∙ sym (ap (λ (b : Bool). cond b p Nobody) is)

owned : (c : ℕ) (p r : Place) (b : Bool) → is_owner c p ≡ b → own_place c p ≡ r → is_owner c r ≡ true → p ≡ r
owned c p r true is e own = sym (ap (λ (b : Bool). cond b p Nobody) is) ∙ e
owned c p r false is e own = absurd (true≢false (sym own ∙ ap (is_owner c) (sym e ∙ ap (λ (b : Bool). cond b p Nobody) is)))

free_by : (c : ℕ) (p : Place) (b : Bool) → is_owner c p ≡ b → own_place c p ≡ Nobody → is_owner c p ≡ false
free_by c p true is e = ap (is_owner c) (sym (ap (λ (b : Bool). cond b p Nobody) is) ∙ e)
free_by c p false is e = is

-- an owner sees its own place unchanged
pub own_self : (c : ℕ) → own_place c (Control c) ≡ Control c
own_self c = ap (λ (b : Bool). cond b (Control c) Nobody) (eq-eqb c c refl)

pub self_granted : (c : ℕ) → own_place c (Granted c) ≡ Granted c
self_granted c = ap (λ (b : Bool). cond b (Granted c) Nobody) (eq-eqb c c refl)

pub self_polling : (c : ℕ) → own_place c (Polling c) ≡ Polling c
self_polling c = ap (λ (b : Bool). cond b (Polling c) Nobody) (eq-eqb c c refl)

pub hand_free : (k : Kind) (c : ℕ) (s : State) → own_place c (after_by c (Hand k) s).place ≡ Nobody
hand_free Kind.List c s = refl
hand_free Kind.Thread c s = refl

-- ---- what the types of the values imply

pub shows_of : {r : ℕ → Place} {c : ℕ} {p : Pass} → Stands r c p → ShowsLegal p
shows_of {r} {c} {p} st = record {
  legal = whole (controller_of p) (opening (controller_of p)) (shown p) st.legal;
  exact = ap (λ (n : ℕ). own n (shown p)) st.number ∙ st.exact;
}

pub is_free : {c : ℕ} {p : Pass} → Stands Free c p → is_owner (pass_number p) (state_shown p).place ≡ false
is_free {c} {p} st =
    ap (λ (n : ℕ). is_owner n (state_shown p).place) st.number
    ∙ free_by c (state_shown p).place (is_owner c (state_shown p).place) refl st.place

pub owns_nothing : {c : ℕ} {p : Pass} → Stands Free c p → IsOwnedBy (pass_number p) (state_shown p).place → ⊥
owns_nothing {c} {p} st owns = true≢false (sym owns ∙ is_free st)

pub is_granted : {c : ℕ} {p : Pass} → Stands Granted c p → (state_shown p).place ≡ Granted (pass_number p)
is_granted {c} {p} st =
    owned c (state_shown p).place (Granted c) (is_owner c (state_shown p).place) refl st.place (eq-eqb c c refl)
    ∙ ap Granted (sym st.number)

pub is_polling : {c : ℕ} {p : Pass} → Stands Polling c p → (state_shown p).place ≡ Polling (pass_number p)
is_polling {c} {p} st =
    owned c (state_shown p).place (Polling c) (is_owner c (state_shown p).place) refl st.place (eq-eqb c c refl)
    ∙ ap Polling (sym st.number)

pub is_control : {c : ℕ} {p : Pass} → Stands Control c p → (state_shown p).place ≡ Control (pass_number p)
is_control {c} {p} st =
    owned c (state_shown p).place (Control c) (is_owner c (state_shown p).place) refl st.place (eq-eqb c c refl)
    ∙ ap Control (sym st.number)

-- ---- steps

-- to prove a role after a step, it is enough to prove the place; the rest follows from the step
standing : (r : ℕ → Place) (c : ℕ) (p : Pass) (o : Operation) (q : Pass) → (g : Steps (view_of p) o (view_of q)) → pass_number p ≡ c
    → own_place c (after_by c o (found p o q g)).place ≡ r c → Stands r c q
standing r c p o q g num is = record {
  number = g.number ∙ num;
  legal = ∣ (shows_legal p o q g).legal ∣₁;
  exact = ap (λ (n : ℕ). own n (shown q)) (sym num) ∙ g.exact;
  place = ap (λ (s : State). own_place c s.place) (state_stepped p o q g)
      ∙ ap (λ (n : ℕ). own_place c (after_by n o (found p o q g)).place) num ∙ is;
}

-- an event that gives its caller a new role
pub made : {s : ℕ → Place} {c : ℕ} {p : Pass} {o : Operation} (r : ℕ → Place) (q : Pass) → Stands s c p → Steps (view_of p) o (view_of q)
    → ((n : State) → own_place c (after_by c o n).place ≡ r c) → Stands r c q
made {s} {c} {p} {o} r q st g is = standing r c p o q g st.number (is (found p o q g))

-- an event that keeps its caller's place also keeps its role, whatever other callers did before
pub kept : {r : ℕ → Place} {c : ℕ} {p : Pass} {o : Operation} (q : Pass) → Stands r c p → Steps (view_of p) o (view_of q)
    → ((n : State) → (after_by c o n).place ≡ n.place) → Stands r c q
kept {r} {c} {p} {o} q st g leaves =
    let e = st.number in
    let now = (found p o q g).place in
    let had = (state_shown p).place in
    let owner : is_owner c now ≡ is_owner c had = subst (λ (n : ℕ). is_owner n now ≡ is_owner n had) e g.owner in
    let place : is_owner c had ≡ true → now ≡ had = λ h. g.place (ap (λ (n : ℕ). is_owner n had) e ∙ h) in
    standing r c p o q g e (ap (own_place c) (leaves (found p o q g)) ∙ is_kept c had now (is_owner c had) refl owner place ∙ st.place)

pub looked : {r : ℕ → Place} {c : ℕ} {p : Pass} {x : Seen} (q : Pass) → Stands r c p → Steps (view_of p) (Look x) (view_of q) → Stands r c q
looked q st g = kept q st g (λ s. refl)

-- moving the context into or out of the slot changes no role
pub moved : {r : ℕ → Place} {c : ℕ} {p : Pass} (q : Pass) → Stands r c p → view_of q ≡ view_of p → Stands r c q
moved {r} {c} {p} q st e = record {
  number = ap view.view_number e ∙ st.number;
  legal = subst (λ (v : Knowledge). ∥ LegalHistory (view.view_controller v) (opening (view.view_controller v)) (view.view_shown v) ∥₁)
      (sym e)
      st.legal;
  exact = subst (λ (v : Knowledge). own c (view.view_shown v) ≡ view.mine v) (sym e) st.exact;
  place = ap (λ (v : Knowledge). own_place c (view.state_in v).place) e ∙ st.place;
}

-- a look returns the flags of the state after it, which is the state before it
pub looked_flags : {x : Seen} (p q : Pass) → Steps (view_of p) (Look x) (view_of q) → x.flags ≡ (state_shown q).flags
looked_flags {x} p q g = ap (λ (y : Seen). y.flags) (step_of (view_of p) (Look x) (view_of q) g).0
    ∙ ap (λ (s : State). s.flags) (sym (state_stepped p (Look x) q g))

-- ---- the poller

-- a granted instance isn't busy polled
pub granted_unbusy : {c : ℕ} {p : Pass} → Stands Granted c p → KnowsBusyPoll false p
granted_unbusy {c} {p} st = unbusy (controller_of p) (shown p) (shows_of st).legal (λ is. subst IsPollingPlace (is_granted st) is)

pub busy_taken : {c : ℕ} {p : Pass} {k : Kind} (q : Pass) → Stands Free c p → Steps (view_of p) (Take k true) (view_of q)
    → KnowsBusyPoll false q
busy_taken {c} {p} {k} q st g = (take_polls (view_of p) (view_of q) k g).1

-- whether the caller busy polls, after an event that sets it and after one that changes nothing
pub busy_made : {b : Bool} {r : ℕ → Place} {c : ℕ} {p : Pass} {o : Operation} (q : Pass) → Stands r c p → Steps (view_of p) o (view_of q)
    → ((c : ℕ) (s : State) → (after_by c o s).flags.in_busy_poll ≡ b) → KnowsBusyPoll b q
busy_made {b} {r} {c} {p} {o} q st g is =
    ap (λ (s : State). s.flags.in_busy_poll) (state_stepped p o q g) ∙ is (pass_number p) (found p o q g)

pub busy_kept : {b : Bool} {c : ℕ} {p : Pass} {o : Operation} (q : Pass) → Stands Polling c p → KnowsBusyPoll b p
    → Steps (view_of p) o (view_of q)
    → ((n : ℕ) (s : State) → after_by n o s ≡ s) → KnowsBusyPoll b q
busy_kept {b} {c} {p} {o} q st busy g quiet =
    (quiet_polls (view_of p) o (view_of q) g (quiet (pass_number p) (found p o q g)) (is_polling st, busy)).1

pub busy_looked : {b : Bool} {c : ℕ} {p : Pass} {x : Seen} (q : Pass) → Stands Polling c p → KnowsBusyPoll b p
    → Steps (view_of p) (Look x) (view_of q) → KnowsBusyPoll b q
busy_looked q st busy g = busy_kept q st busy g (λ n s. refl)

pub busy_moved : {b : Bool} {c : ℕ} {p : Pass} (q : Pass) → Stands Polling c p → KnowsBusyPoll b p → view_of q ≡ view_of p
    → KnowsBusyPoll b q
busy_moved {b} q st busy e = ap (λ (v : Knowledge). (view.state_in v).flags.in_busy_poll) e ∙ busy

-- the context is taken out of the slot: what it has received is what the pass knew of it
pub outside : (p q : Pass) (x : RxCtx) → q.holds ≡ Out → view_of q ≡ view_of p → instance_ring p ≡ Some (ring_name x)
    → received_list x ≡ received_of p → Has q (Some x)
outside p q x out same ring is = record {
  holds = out;
  ring = ap view.view_ring same ∙ ring;
  received =
      subst (λ (v : Knowledge). view.Continues (view.received_in v) (received_list x)) (sym same)
      (subst (λ (l : List Packet). view.Continues (view.received_in (view_of p)) l) (sym is) p.received);
}

-- a step that keeps the slot keeps the packets that the context has received since it was taken
pub stays_has : (p q : Pass) (x : RxCtx) → Has p (Some x) → q.holds ≡ p.holds → instance_ring q ≡ instance_ring p
    → SlotDelivers slot.stays p.seat.me q.seat.me → Has q (Some x)
stays_has p q x h holds ring g = record {
  holds = holds ∙ h.holds;
  ring = ring ∙ h.ring;
  received =
      subst (λ (l : List Packet). view.Continues l (received_list x))
      (sym (received_stays p.seat.me q.seat.me g (p.right ∙ ap has_slot h.holds))) h.received;
}

pub has_none : (q : Pass) → q.holds ≡ Nothing → Has q None
has_none q holds = record { holds = holds; ring = refl; received = of_prefix _ _ (prefix_self _) }

-- ---- the controller

pub controls_moved : {r : ℕ → Place} {b : Bool} {p : Pass} (q : Pass) → ControllerKnows r b p → view_of q ≡ view_of p
    → ControllerKnows r b q
controls_moved {r} {b} {p} q k e = record {
  stands = subst (λ (n : ℕ). Stands r n q) (ap view.view_controller (sym e)) (moved q k.stands e);
  flag = ap (λ (v : Knowledge). (view.state_in v).flags.disable) e ∙ k.flag;
}

-- the disable flag after an event that sets it, and after one that keeps it
flag_made : (b : Bool) (p : Pass) (o : Operation) (q : Pass) → Steps (view_of p) o (view_of q)
    → ((c : ℕ) (s : State) → (after_by c o s).flags.disable ≡ b) → (state_shown q).flags.disable ≡ b
flag_made b p o q g is = ap (λ (s : State). s.flags.disable) (state_stepped p o q g) ∙ is (pass_number p) (found p o q g)

flag_kept : (r : ℕ → Place) (b : Bool) (p : Pass) (o : Operation) (q : Pass) → Steps (view_of p) o (view_of q) → ControllerKnows r b p
    → ((c : ℕ) (s : State) → (after_by c o s).flags.disable ≡ s.flags.disable) → (state_shown q).flags.disable ≡ b
flag_kept r b p o q g k leaves =
    ap (λ (s : State). s.flags.disable) (state_stepped p o q g) ∙ leaves (pass_number p) (found p o q g) ∙ g.disable k.stands.number
    ∙ k.flag

controlling : (r : ℕ → Place) (b : Bool) (p : Pass) (o : Operation) (q : Pass) → Steps (view_of p) o (view_of q)
    → Stands r (controller_of p) q → (state_shown q).flags.disable ≡ b → ControllerKnows r b q
controlling r b p o q g st flag = record { stands = subst (λ (n : ℕ). Stands r n q) (sym g.controller) st; flag = flag }

pub control_looked : {r : ℕ → Place} {b : Bool} {p : Pass} {x : Seen} (q : Pass) → ControllerKnows r b p
    → Steps (view_of p) (Look x) (view_of q)
    → ControllerKnows r b q
control_looked {r} {b} {p} {x} q k g =
    controlling r b p (Look x) q g (looked q k.stands g) (flag_kept r b p (Look x) q g k (λ c s. refl))

pub control_busy : {r : ℕ → Place} {b : Bool} {p : Pass} (q : Pass) → ControllerKnows r b p
    → Steps (view_of p) (TakeDisable false) (view_of q)
    → ControllerKnows r b q
control_busy {r} {b} {p} q k g =
    controlling r b p (TakeDisable false) q g (kept q k.stands g (λ s. refl)) (flag_kept r b p (TakeDisable false) q g k (λ c s. refl))

pub control_marked : {p : Pass} (q : Pass) → ControllerKnows Free false p → Steps (view_of p) MarkDisable (view_of q)
    → ControllerKnows Free true q
control_marked {p} q k g =
    controlling Free true p MarkDisable q g (kept q k.stands g (λ s. refl)) (flag_made true p MarkDisable q g (λ c s. refl))

pub control_taken : {p : Pass} (q : Pass) → ControllerKnows Free true p → Steps (view_of p) (TakeDisable true) (view_of q)
    → ControllerKnows Control true q
control_taken {p} q k g =
    controlling Control true p (TakeDisable true) q g (made Control q k.stands g (λ s. own_self (controller_of p)))
    (flag_kept Free true p (TakeDisable true) q g k (λ c s. refl))

pub control_unmarked : {p : Pass} (q : Pass) → ControllerKnows Control true p → Steps (view_of p) Unmark (view_of q)
    → ControllerKnows Control false q
control_unmarked {p} q k g =
    controlling Control false p Unmark q g (kept q k.stands g (λ s. refl)) (flag_made false p Unmark q g (λ c s. refl))

pub control_enabled : {p : Pass} (b : Bool) (q : Pass) → ControllerKnows Control false p → Steps (view_of p) (Enable b) (view_of q)
    → ControllerKnows Free false q
control_enabled {p} b q k g =
    controlling Free false p (Enable b) q g (made Free q k.stands g (λ s. refl)) (flag_kept Control false p (Enable b) q g k (λ c s. refl))

-- ---- the ring

-- the two ends of the ring are those of the instance
pub one_ring : {p : Pass} {ctx : RxCtx} (input : RxIn) → Has p (Some ctx) → PutsIntoRingOf input p → IsOneRing input ctx
one_ring {p} {ctx} input has fed =
    let same : ring_name fed.0 ≡ ring_name ctx = ap (λ (o : Option RingName). unwrap_or o (ring_name ctx)) (sym fed.1 ∙ has.ring) in (
      sym (ap (λ (n : RingName). n.0) same) ∙ fed.2.0,
      sym (ap (λ (n : RingName). n.1) same) ∙ fed.2.1,
      sym (ap (λ (n : RingName). n.2) same)
          ∙ fed.2.2,
      sym (ap (λ (n : RingName). n.3) same) ∙ fed.2.3,
    )

-- a context just taken from the slot has received exactly what was delivered
pub fresh : (p q r : Pass) (x : RxCtx) → SlotDelivers slot.taken p.seat.me q.seat.me → received_list x ≡ received_of q
    → view_of r ≡ view_of q
    → received_list x ≡ view.received_in (view_of r)
fresh p q r x g is same =
    let t = g.shifts.1 in
    is ∙ ap (λ (l : slot.Carried). slot.carried_received l (view_of q)) t.1 ∙ t.2 ∙ ap view.received_in (sym same)
