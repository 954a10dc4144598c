-- The list of all passes at the end, and the history of the instance.
use Rattle.napi_model.specs.{Step.{opening, IsControl}, declared.event.Event.Event, History.{LegalHistory, state_after}, Laws.is_owner}
use Rattle.std.proofs.Common.{◌≡◌, ◌≢◌, ℕ, zero}
use Rattle.rx_ring.specs.{declared.ends.RxCtx.RxCtx, Ends.{RingName, ring_name, received_list}}
use Rattle.std.proofs.Common.{suc, ◌+◌, ◌<◌, List, [], ◌∷◌, ◌++◌, length, slice_get, Option, Some, false, unwrap_or, eq-eqb, refl, sym, ap}
use Rattle.std.proofs.Common.{◌∙◌, subst, length-append, arith}
use Rattle.napi_word.specs.{Passes.{controller_of_table, view_of}, Slot.givers}
use Rattle.napi_word.specs.{Ends.IsClosedTable, declared.{history.Holds.TheVariants.{Nothing, Out}, table.Pass.Pass}, Knowledge.deliverers}
use Rattle.napi_word.{specs.Knowledge.{own_deliveries, received_in}, proofs.{Deliveries.received_is, Closing.get_mid}}
use Rattle.napi_calls.{proofs.{Serving.served, Standing.is_control}, specs.Closed.{seats_of, IsHistoryOf, IsClosed}}
use Rattle.napi_calls.specs.{declared.types.{Caller.Caller, Napi.Napi}, Seats.pass_number, Knows.{ControllerKnows, Has}}
use Rattle.napi_calls.specs.{Instance.first_of_instance}
use Rattle.napi_model.specs.declared.state.Place.TheVariants as place

pub seats_length : (cs : List Caller) → length (seats_of cs) ≡ length cs
seats_length [] = refl
seats_length (x ∷ xs) = ap suc (seats_length xs)

-- the k-th caller has the pass at index k
pub seat_at : (cs : List Caller) (k : ℕ) (c : Caller) → slice_get cs k ≡ Some c → slice_get (seats_of cs) k ≡ Some c.pass
seat_at [] k c e = absurd (cc)
seat_at (x ∷ xs) zero c e = ap (λ (o : Option Caller). Some (unwrap_or o x).pass) e
seat_at (x ∷ xs) (suc k) c e = seat_at xs k c e

pub seats_more : (cs : List Caller) (c : Caller) → seats_of (cs ++ c ∷ []) ≡ seats_of cs ++ c.pass ∷ []
seats_more [] c = refl
seats_more (x ∷ xs) c = ap (λ (l : List Pass). x.pass ∷ l) (seats_more xs c)

-- the list of passes: those of the callers made so far, the next one, and the remaining ones
pub next_seat : (cs : List Caller) (all rest : List Pass) (p : Pass) (n : ℕ) → all ≡ seats_of cs ++ p ∷ rest → n ≡ length cs
    → (n < length all) × (slice_get all n ≡ Some p)
next_seat cs all rest p n e is =
    let same = seats_length cs in
    let whole : length all ≡ length (seats_of cs) + length (p ∷ rest) = ap length e ∙ length-append (seats_of cs) (p ∷ rest) in
    let one : length (p ∷ rest) ≡ length rest + 1 = omega arith in (
      omega (arith, whole, one, same, is),
      ap (slice_get all) (is ∙ sym same) ∙ ap (λ l. slice_get l (length (seats_of cs))) e
          ∙ get_mid (seats_of cs) rest p,
    )

pub all_count : (cs : List Caller) (p : Pass) → length (seats_of cs ++ p ∷ []) ≡ length cs + 1
all_count cs p = length-append (seats_of cs) (p ∷ []) ∙ ap (λ (n : ℕ). n + 1) (seats_length cs)

module _ (n : Napi) (cs : List Caller) (p : Pass) (left : Option RxCtx) (k : ControllerKnows place.Control false p)
    (e : IsClosedTable n.table (seats_of cs ++ p ∷ []) left) where
  at : slice_get (seats_of cs ++ p ∷ []) (length (seats_of cs)) ≡ Some p
  at = get_mid (seats_of cs) [] p

  ends : (state_after (opening (controller_of_table n.table)) e.history).place ≡ place.Control (controller_of_table n.table)
  ends =
      let i = length (seats_of cs) in
      let held = is_control k.stands in
      e.places i p at (ap (is_owner (pass_number p)) held ∙ eq-eqb (pass_number p) (pass_number p) refl) ∙ held
      ∙ ap place.Control (k.stands.number ∙ e.controllers i p at)

  one_history : IsHistoryOf (controller_of_table n.table) (seats_of cs ++ p ∷ []) e.history
  one_history = record {
    legal = e.legal;
    begins = e.begins;
    exact = e.exact;
    all = e.each;
    only = e.others;
    longest = e.longest;
    ends = ends;
    served = λ front ev rest is accepted.
        served (controller_of_table n.table) front ev rest
        (subst (LegalHistory (controller_of_table n.table) (opening (controller_of_table n.table))) is e.legal)
        (subst (λ (h : List Event). IsControl (state_after (opening (controller_of_table n.table)) h).place) is
        (subst IsControl (sym ends) tt)) accepted;
  }

  pub closed : (ctx : RxCtx) → Has p (Some ctx) → received_list ctx ≡ received_in (view_of p) → IsClosed n cs p ctx
  closed ctx has exact =
      let i = length (seats_of cs) in
      let out : p.holds ≢ Nothing = λ none. let bad : Out ≡ Nothing = sym has.holds ∙ none in absurd (cc) in record {
        all = let count = e.count in let seats = all_count cs p in let made = n.count in omega (arith, count, seats, made);
        history = e.history;
        is = subst (λ (m : ℕ). IsHistoryOf m (seats_of cs ++ p ∷ []) e.history) n.count one_history;
        ring = ap (λ (o : Option RingName). unwrap_or o (ring_name ctx)) (sym has.ring ∙ e.rings i p at);
        deliveries = e.deliveries;
        order = subst (λ (m : ℕ). deliverers e.deliveries ≡ givers (opening m) e.history) n.count e.deliveries_order;
        own_exact = e.deliveries_exact;
        own_only = subst (λ (m : ℕ). (c : ℕ) → m < c → own_deliveries c e.deliveries ≡ []) n.count e.deliveries_others;
        received = exact ∙ received_is (view_of p) (first_of_instance n) e.deliveries (e.firsts i p at) (e.deliveries_held i p at out);
      }
