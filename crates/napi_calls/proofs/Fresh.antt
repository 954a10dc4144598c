-- New passes.
use Rattle.std.proofs.Common.{Option, unwrap_or, append-nil, ◌≡◌, ℕ, zero, suc, ◌<◌, List, [], ◌∷◌, ◌++◌, slice_get, length, Some, Bool}
use Rattle.std.proofs.Common.{cond, false, ne_eqb, refl, sym, ap, ◌∙◌, subst, arith}
use Rattle.rx_ring.specs.declared.ends.RxCtx.{RxCtx}
use Rattle.{rx_ring.specs.Ends.{ring_name, received_list}, napi_model.specs.{declared.state.Place.Place, Step.opening}}
use Rattle.{napi_model.specs.History.{LegalHistory, own, state_after}, napi_word.specs.declared.table.{Pass.Pass, StateTable.StateTable}}
use Rattle.napi_word.specs.{Knowledge.Knowledge, Rule.new_history, Passes.{view_of, ctx_of, IsNewPass, IsPassOf, ring_of_table}}
use Rattle.napi_word.proofs.Closing.{get_mid}
use Rattle.napi_calls.specs.{declared.types.Napi.Napi, Knows.{own_place, Free, Stands, ControllerKnows}, Instance.IsNewSeat}
use Rattle.napi_calls.proofs.Standing.{own_self}
use Rattle.napi_word.specs.Knowledge as view

abbrev seat : ℕ → RxCtx → ℕ → Knowledge
seat last of c = new_history last of c ∷ []

opens : (last : ℕ) (of : RxCtx) (c : ℕ) → view.place_in (seat last of c) ≡ Place.Control last
unfolding state_after
opens last of c = refl

unflagged : (last : ℕ) (of : RxCtx) (c : ℕ) → view.disable_in (seat last of c) ≡ false
unfolding state_after
unflagged last of c = refl

blank : (role : ℕ → Place) (last : ℕ) (of : RxCtx) (c : ℕ) (p : Pass) → view_of p ≡ seat last of c
    → own_place c (Place.Control last) ≡ role c → Stands role c p
unfolding LegalHistory own
blank role last of c p e is = record {
  number = ap view.view_number e;
  legal = subst (λ (v : Knowledge). ∥ LegalHistory (view.view_controller v) (opening (view.view_controller v)) (view.view_shown v) ∥₁)
      (sym e) ∣
      tt ∣₁;
  exact = subst (λ (v : Knowledge). own c (view.view_shown v) ≡ view.mine v) (sym e) refl;
  place = ap (λ (v : Knowledge). own_place c (view.place_in v)) e ∙ ap (own_place c) (opens last of c) ∙ is;
}

pub new_stands : {t : StateTable} {last : ℕ} {of : RxCtx} {c : ℕ} (p : Pass) → IsNewPass t last of c p → c < last → Stands Free c p
new_stands {t} {last} {of} {c} p new low =
    blank Free last of c p new.view
    (ap (λ (b : Bool). cond b (Place.Control last) Place.Nobody) (ne_eqb last c (λ e. omega (arith, low, e))))

pub new_controls : {t : StateTable} {last : ℕ} {of : RxCtx} (p : Pass) → IsNewPass t last of last p → ControllerKnows Place.Control false p
new_controls {t} {last} {of} p new =
    let controller : view.view_controller (view_of p) ≡ last = ap view.view_controller new.view in record {
      stands = subst (λ (n : ℕ). Stands Place.Control n p) (sym controller) (blank Place.Control last of last p new.view (own_self last));
      flag = ap view.disable_in new.view ∙ unflagged last of last;
    }

-- the controller's new pass has the context with which the instance was made
pub new_exact : {t : StateTable} {last : ℕ} {of : RxCtx} (p q : Pass) (x : RxCtx) → IsNewPass t last of last p → ctx_of p ≡ Some x
    → view_of q ≡ view_of p → received_list x ≡ view.received_in (view_of q)
new_exact {t} {last} {of} p q x new is same =
    let l = new.stored refl in
    let one : x ≡ l.stored = ap (λ (o : Option RxCtx). unwrap_or o x) (sym is ∙ l.within) in
    ap received_list one ∙ l.received ∙ sym (append-nil (received_list of)) ∙ sym (ap view.received_in (same ∙ new.view))

-- a pass that still shows what it showed when it was made is a new pass
pub new_seat : (n : Napi) {last : ℕ} {of : RxCtx} {c : ℕ} (p : Pass) → IsPassOf n.table p → view_of p ≡ new_history last of c ∷ []
    → last ≡ n.callers → ring_of_table n.table ≡ ring_name of → IsNewSeat n c p
new_seat n {last} {of} {c} p table e count ring = record {
  instance = table;
  number_is = ap view.view_number e;
  controller = ap view.view_controller e ∙ count;
  ring = ap view.view_ring e ∙ ap Some (sym ring);
  nothing_shown = ap view.view_shown e;
  nothing_done = ap view.mine e;
  nothing_delivered = ap view.view_delivered e;
}

-- the position of the element at which a list is split
pub here : {A : Type 0} (xs ys zs : List A) (y : A) → zs ≡ xs ++ y ∷ ys → slice_get zs (length xs) ≡ Some y
here xs ys zs y e = ap (λ l. slice_get l (length xs)) e ∙ get_mid xs ys y

pub front_of : {A : Type 0} (xs ys : List A) (k : ℕ) (y : A) → slice_get xs k ≡ Some y → slice_get (xs ++ ys) k ≡ Some y
front_of [] ys k y e = absurd (cc)
front_of (x ∷ xs) ys zero y e = e
front_of (x ∷ xs) ys (suc k) y e = front_of xs ys k y e
