-- How a receive side is opened: its callers are new.
use Rattle.std.proofs.{lemmas.Grind.common_steps, Common.{◌≡◌, ◌∙◌, ℕ, List, [], ◌∷◌, ◌++◌, length, slice_get, Some}}
use Rattle.std.proofs.Common.{ap, arith, refl, subst, sym}
use Rattle.rx_ring.specs.{declared.ends.{RxCtx.RxCtx, RxIn.RxIn}, Ends.{IsOneRing, ring_name}}
use Rattle.napi_word.specs.declared.table.Pass.{Pass}
use Rattle.napi_calls.specs.{declared.types.{Caller.Caller, Napi.Napi}, Instance.{IsNewSeat, ring_of_instance}}
use Rattle.napi_calls.specs.{Seats.{PutsIntoRingOf, SameSeat}, declared.state.{CallerState.TheVariants.Rests, ControlState.ControlState}}
use Rattle.device_shared.specs.Callers.{AreCallers, IsFed, IsSeat, control_pass}

-- three callers were popped one by one
pub none_left : (items l1 l2 l3 : List Caller) (a b c : Caller) → items ≡ l1 ++ c ∷ [] → l1 ≡ l2 ++ b ∷ [] → l2 ≡ l3 ++ a ∷ []
    → length items ≡ 3 → length l3 ≡ 0
none_left items l1 l2 l3 a b c e1 e2 e3 three = grind (arith, common_steps)

pub popped : (items l1 l2 l3 : List Caller) (a b c : Caller) → items ≡ l1 ++ c ∷ [] → l1 ≡ l2 ++ b ∷ [] → l2 ≡ l3 ++ a ∷ []
    → length items ≡ 3 → items ≡ a ∷ b ∷ c ∷ []
popped items l1 l2 l3 a b c e1 e2 e3 three = grind (arith, common_steps, none_left)

pub new_callers : (n : Napi) (items : List Caller) (a b c : Caller) → items ≡ a ∷ b ∷ c ∷ []
    → ((k : ℕ) (d : Caller) → slice_get items k ≡ Some d → IsNewSeat n k d.pass)
    → IsNewSeat n 0 a.pass × IsNewSeat n 1 b.pass × IsNewSeat n 2 c.pass
new_callers n items a b c e each = (
  each 0 a (ap (λ (l : List Caller). slice_get l 0) e),
  each 1 b (ap (λ (l : List Caller). slice_get l 1) e),
  each 2 c
      (ap (λ (l : List Caller). slice_get l 2) e),
)

-- the callers of a new instance; the interrupt handler made a look, and the controller enabled the instance
module _ (n : Napi) (input : RxIn) (ctx : RxCtx) (ring : ring_of_instance n ≡ ring_name ctx) (one : IsOneRing input ctx) where
  fed : (k : ℕ) (p : Pass) → IsNewSeat n k p → PutsIntoRingOf input p
  fed k p new = (ctx, new.ring ∙ ap Some ring, one)

  fed-after : (p q : Pass) → SameSeat p q → PutsIntoRingOf input p → PutsIntoRingOf input q
  fed-after p q same f = (f.0, same.ring ∙ f.1, f.2)

  pub opened : (before interrupt poller thread : Caller) (d : ControlState) (old control : Pass) → IsNewSeat n 0 before.pass
      → SameSeat before.pass interrupt.pass → IsNewSeat n 1 poller.pass → IsNewSeat n 2 thread.pass → IsNewSeat n 3 old
      → SameSeat old control → control_pass d ≡ Some control → AreCallers n input (Rests interrupt) (Rests poller) (Rests thread) d
  opened before interrupt poller thread d old control new0 looked new1 new2 new3 enabled is = record {
    zeroth = record {
      seat = looked.table ∙ new0.instance;
      fed = fed-after before.pass interrupt.pass looked (fed 0 before.pass new0);
      state = refl;
    };
    one = record { seat = new1.instance; fed = fed 1 poller.pass new1; state = refl };
    two = record { seat = new2.instance; fed = fed 2 thread.pass new2; state = refl };
    control_seat = subst (IsSeat n) (sym is) (enabled.table ∙ new3.instance);
    control_fed = subst (IsFed input) (sym is) (fed-after old control enabled (fed 3 old new3));
  }
