-- The actions of a handle compose. Names with "seat" are about handles.
use Rattle.std.proofs.Common.{◌≡◌, ◌∙◌, List, [], ◌∷◌, ◌++◌, Option, Some, None, append-nil, append_assoc, ap, refl, subst, sym}
use Rattle.{rx_ring.specs.declared.{ends.RxCtx.RxCtx, packet.Packet.Packet}, napi_model.specs.declared.event.Operation.Operation}
use Rattle.{napi_word.specs.declared.table.Pass.Pass, napi_calls.proofs.Making.more}
use Rattle.poll_runs.specs.Plan.{Action, gave, given, made, operations}
use Rattle.poll_shared.specs.{Seat.{GivesEach, MadeBy, SeatDid, handle_ctx, packets_by, handle_pass}}
use Rattle.poll_shared.specs.{declared.seat.SharedHandle.SharedHandle}

MadeBy-append : (first second : List Operation) (p q r : Option Pass) → MadeBy first p q → MadeBy second q r → MadeBy (first ++ second) p r
MadeBy-append [] second p q r m n = subst (λ (x : Option Pass). MadeBy second x r) m n
MadeBy-append (o ∷ os) [] p q r m n =
    subst (λ (l : List Operation). MadeBy (o ∷ l) p r) (sym (append-nil os)) (subst (MadeBy (o ∷ os) p) (sym n) m)
MadeBy-append (o ∷ os) (u ∷ us) (Some p) (Some q) (Some r) m n = more u us m n
MadeBy-append (o ∷ os) (u ∷ us) (Some p) (Some q) None m n = absurd n
MadeBy-append (o ∷ os) (u ∷ us) (Some p) None r m n = absurd m
MadeBy-append (o ∷ os) (u ∷ us) None q r m n = absurd m

GivesEach-append : (first second : List (Action Packet)) (x y z : Option RxCtx) → GivesEach x first y → GivesEach y second z
    → GivesEach x (first ++ second) z
GivesEach-append [] second x y z m n = subst (λ (u : Option RxCtx). GivesEach u second z) m n
GivesEach-append (made o ∷ first) second x y z m n = (m.0, GivesEach-append first second m.0 y z m.1 n)
GivesEach-append (gave weight packets ∷ first) second (Some x) y z m n =
    (m.0, m.1, GivesEach-append first second (Some m.0) y z m.2 n)
GivesEach-append (gave weight packets ∷ first) second None y z m n = absurd m

operations-append : (first second : List (Action Packet)) → operations (first ++ second) ≡ operations first ++ operations second
operations-append [] second = refl
operations-append (made o ∷ first) second = ap (λ (l : List Operation). o ∷ l) (operations-append first second)
operations-append (gave weight packets ∷ first) second = operations-append first second

given-append : (first second : List (Action Packet)) → given (first ++ second) ≡ given first ++ given second
given-append [] second = refl
given-append (made o ∷ first) second = given-append first second
given-append (gave weight packets ∷ first) second =
    ap (λ (l : List Packet). packets ++ l) (given-append first second) ∙ sym (append_assoc packets (given first) (given second))

module _ {R : Type 0} where
  pub seat_nothing : (it : SharedHandle R) → SeatDid it [] it
  seat_nothing it = record { thread = refl; made = refl; gave = sym (append-nil (packets_by it.state)); each = refl }

  pub seat_joins : (a b c : SharedHandle R) (first second : List (Action Packet)) → SeatDid a first b → SeatDid b second c
      → SeatDid a (first ++ second) c
  seat_joins a b c first second m n = record {
    thread = n.thread ∙ m.thread;
    made =
        subst (λ (os : List Operation). MadeBy os (handle_pass a.state) (handle_pass c.state)) (sym (operations-append first second))
        (MadeBy-append (operations first) (operations second) (handle_pass a.state) (handle_pass b.state) (handle_pass c.state) m.made
        n.made);
    gave = n.gave ∙ ap (λ (l : List Packet). l ++ given second) m.gave
        ∙ append_assoc (packets_by a.state) (given first) (given second)
        ∙ ap (λ (l : List Packet). packets_by a.state ++ l) (sym (given-append first second));
    each = GivesEach-append first second (handle_ctx a.state) (handle_ctx b.state) (handle_ctx c.state) m.each n.each;
  }
