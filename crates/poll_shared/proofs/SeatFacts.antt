-- A call by a caller's handle (`SharedHandle`) on a shared instance. Names with "seat" are about such handles.
use Rattle.std.proofs.Common.{◌≡◌, ◌≢◌, ◌∙◌, ℕ, List, [], ◌∷◌, ◌++◌, Option, Some, length, drop, map}
use Rattle.std.proofs.Common.{ap, refl, sym, append-nil, append_assoc}
use Rattle.rx_ring.specs.{declared.{packet.Packet.Packet, ends.RxCtx.RxCtx}, Ends.{GivesNext, received_list}}
use Rattle.napi_model.specs.declared.event.Operation.{Operation}
use Rattle.napi_word.specs.{declared.table.Pass.Pass, Knowledge.{own_deliveries, packets_of}}
use Rattle.napi_calls.specs.{Made.Made, Packets.{GivesBack, HoldsOn, IsFresh, own_delivered, polled}, Seats.pass_number, Dealt.Delivers}
use Rattle.napi_calls.{specs.declared.types.Caller.Caller, proofs.Dealing.{delivers_back, polled_none}}
use Rattle.poll_runs.specs.{Plan.{Action, Does, Plan, gave, given, made, operations}, Polling.{HasLast, gives}}
use Rattle.poll_runs.specs.declared.bench.Next.{Next, TheVariants.Absent}
use Rattle.napi_calls.specs.declared.state.CallerState.{CallerState, TheVariants.{Gone, Rests}}
use Rattle.poll_shared.specs.declared.seat.SharedHandle.{SharedHandle}
use Rattle.poll_shared.specs.{Seat.{GivesEach, MadeBy, SeatDid, handle_ctx, packets_by, handle_pass}, Tries.{PlanMakes, Tries}}
use Rattle.poll_shared.proofs.TriesFacts.{IsMade, begun, given-none, operations-made}

-- ---- the packets of the owner of the context: those delivered, and those polled since

abbrev Polled : Pass → RxCtx → List Packet
Polled p x = packets_of (own_delivered p) ++ polled p x

pub taken_packets : (p q : Pass) (x : RxCtx) → IsFresh p q x → Polled q x ≡ packets_of (own_delivered p) ++ []
taken_packets p q x f = λ i. packets_of (f.quiet i) ++ polled_none q x f.received i

pub polled_packets : (p q : Pass) (x y : RxCtx) (batch : List Packet) → q ≡ p → polled q y ≡ polled p x ++ batch
    → Polled q y ≡ Polled p x ++ batch
polled_packets p q x y batch same more =
    (λ i. packets_of (own_delivered (same i)) ++ more i) ∙ sym (append_assoc (packets_of (own_delivered p)) (polled p x) batch)

pub held_packets : (p q : Pass) (x y : RxCtx) → HoldsOn p q → pass_number q ≡ pass_number p → y ≡ x → Polled q y ≡ Polled p x ++ []
held_packets p q x y h num same =
    (λ i. packets_of (own_deliveries (num i) (h.deliveries i)) ++ drop (length (h.received i)) (received_list (same i)))
    ∙ sym (append-nil (Polled p x))

pub back_packets : (p q : Pass) (x : RxCtx) → GivesBack p x q → pass_number q ≡ pass_number p
    → packets_of (own_delivered q) ≡ Polled p x ++ []
back_packets p q x g num = delivers_back p q x g num ∙ sym (append-nil (Polled p x))

-- after a batch was cleared, it has exactly what was added since
pub batch-has : {B : Type 0} (items : B → List Packet) (next : Next) (before : B) (packets : List Packet) (after : B)
    → items before ≡ [] → HasLast (λ b ps. items b ≡ ps) next before packets after → items after ≡ packets
batch-has items Absent before packets after none h = ap items h.1 ∙ none ∙ sym h.0
batch-has items next before packets after none h = h

made-by : (os : List Operation) (p q : Pass) → os ≢ [] → Made p os q → MadeBy os (Some p) (Some q)
made-by [] p q some m = absurd (some refl)
made-by (o ∷ os) p q some m = m

made-of : (os : List Operation) (p q : Pass) → os ≢ [] → MadeBy os (Some p) (Some q) → Made p os q
made-of [] p q some m = absurd (some refl)
made-of (o ∷ os) p q some m = m

-- if the actions are only operations, they contain no poll
gives-any : (o : Operation) (os : List Operation) (x y : Option RxCtx) → GivesEach x (made o ∷ map made os) y
gives-any o [] x y = (y, refl)
gives-any o (u ∷ os) x y = (x, gives-any u os x y)

gives-none : (os : List Operation) (x y : Option RxCtx) → os ≢ [] → GivesEach x (map made os) y
gives-none [] x y some = absurd (some refl)
gives-none (o ∷ os) x y some = gives-any o os x y

module _ {R : Type 0} where
  -- the handle after a call, whose caller was taken out for the call and put back
  abbrev pub Back : SharedHandle R → CallerState → SharedHandle R → CallerState → SharedHandle R → Type 0
  Back s before gone after t = (s.state ≡ before) × (gone ≡ record s { state = Gone }) × (t ≡ record gone { state = after })

  pub seat_did : (s : SharedHandle R) (before : CallerState) (gone : SharedHandle R) (after : CallerState) (t : SharedHandle R)
      (deeds : List (Action Packet))
      → Back s before gone after t → MadeBy (operations deeds) (handle_pass before) (handle_pass after)
      → packets_by after ≡ packets_by before ++ given deeds → GivesEach (handle_ctx before) deeds (handle_ctx after) → SeatDid s deeds t
  seat_did s before gone after t deeds b m g e =
      rw (b.2, b.1) (record { thread = refl; made = rw b.0 m; gave = rw b.0 g; each = rw b.0 e })

  -- a call that makes operations and polls nothing
  pub seat_does : {A : Type 0} (plan : Plan Packet A) (s : SharedHandle R) (before : CallerState) (gone : SharedHandle R)
      (after : CallerState) (t : SharedHandle R) (p q : Pass)
      (os : List Operation) (a : A) → Back s before gone after t → handle_pass before ≡ Some p → handle_pass after ≡ Some q → IsMade plan
      → Made p os q → PlanMakes plan os a → packets_by after ≡ packets_by before ++ [] → Does Tries SeatDid plan s a t
  seat_does plan s before gone after t p q os a b was is first m f none =
      let some : os ≢ [] = rw operations-made at (begun plan (map made os) a first f) in (
        map made os,
        seat_did s before gone after t (map made os) b (rw (operations-made, was, is) (made-by os p q some m)) (rw given-none none)
            (gives-none os (handle_ctx before) (handle_ctx after) some),
        f,
      )

  -- a poll, which makes no operations
  pub seat_gives : (s : SharedHandle R) (before : CallerState) (gone : SharedHandle R) (after : CallerState) (t : SharedHandle R)
      (x y : RxCtx) (weight : ℕ)
      (packets : List Packet) → Back s before gone after t → handle_pass after ≡ handle_pass before → handle_ctx before ≡ Some x
      → handle_ctx after ≡ Some y → GivesNext weight x y packets → packets_by after ≡ packets_by before ++ packets
      → Does Tries SeatDid (gives weight) s packets t
  seat_gives s before gone after t x y weight packets b same was is next more = (
    gave weight packets ∷ [],
    seat_did s before gone after t (gave weight packets ∷ []) b same (rw append-nil more) (rw (was, is) (y, next, refl)),
    (packets, [], next.poll.0, (refl, refl), refl),
  )

  -- what was done from one state of the caller to the next: the operations made, and the packets delivered
  pub rises : {A : Type 0} (plan : Plan Packet A) (s t : SharedHandle R) (b c : Caller) (a : A) → IsMade plan
      → (d : Does Tries SeatDid plan s a t) → s.state ≡ Rests b → t.state ≡ Rests c
      → Made b.pass (operations d.0) c.pass × Delivers b.pass (given d.0) c.pass
  rises plan s t b c a first d was is = (
    made-of (operations d.0) b.pass c.pass (begun plan d.0 a first d.2) (rw (was, is) at d.1.made),
    rw (was, is) at d.1.gave,
  )
