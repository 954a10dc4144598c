-- The end of a poll releases the instance exactly if no request was missed before it.
use Rattle.std.proofs.Common.{◌≡◌, ℕ, [], ◌∷◌, ◌++◌, true, false, Bool, ◌||◌, nat_eq, ap, sym, subst}
use Rattle.{c_handles.specs.Status.{RELEASED, AGAIN}, napi_calls.specs.{Calls.TriesToComplete, Seats.{pass_number, controller_of, shown}}}
use Rattle.{napi_calls.specs.{Made.Made, Packets.TriesToGiveBack, declared.types.Polling.Polling}, napi_word.specs.declared.table.Pass.Pass}
use Rattle.napi_model.{proofs.Histories.legal_back, specs.{History.LegalHistory, Step.{opening, event}, declared.state.Seen.Seen}}
use Rattle.napi_calls.specs.declared.state.CallerState.{CallerState}
use Rattle.c_handles.specs.{Endings.EndsByReply}
use Rattle.c_handles.specs.{Tries.{Is, try_completed}, CallerCalls.{CallerCompletes, RestsWith, GrantedWith}}
use Rattle.c_handles.specs.{Status.{HELD, NOT_ALLOWED}}
use Rattle.napi_model.specs.declared.event.Done.TheVariants as done
use Rattle.napi_model.specs.declared.event.Operation.TheVariants as operation
use Rattle.napi_calls.specs.declared.state.CallerState.TheVariants as caller

abbrev is_held : ℕ → Bool
is_held n = nat_eq n HELD || nat_eq n NOT_ALLOWED

-- ---- the completion released the instance

pub ends_released : (p : Pass) (x : Seen) (q : Pass) → Made p (operation.Look x ∷ operation.Complete done.Released ∷ []) q
    → EndsByReply done.Released false q
unfolding LegalHistory
ends_released p x q m =
    let before = m.ends.0 in
    let k = controller_of q in
    let last = event (pass_number p) (operation.Complete done.Released) in
    let is : shown q ≡ before ++ last ∷ [] = m.ends.1 in
    let legal = legal_back k (opening k) before (last ∷ []) (subst (LegalHistory k (opening k)) is m.shows.legal) in
    (before, subst (λ (c : ℕ). shown q ≡ before ++ event c (operation.Complete done.Released) ∷ []) (sym m.seat.number) is, legal.0.0.1)

polls_released : (w : Polling) (k : CallerState)
    → Is (λ r. TriesToComplete w.pass r × TriesToGiveBack w.pass w.ctx r) (try_completed k RELEASED)
    → RestsWith (EndsByReply done.Released false) k
polls_released w (caller.Rests c) m = ends_released w.pass m.0.0 c.pass m.0.1
polls_released w _ m = absurd m

pub completes_released : (h k : CallerState) → CallerCompletes h RELEASED k → RestsWith (EndsByReply done.Released false) k
completes_released (caller.Polls w) k m = polls_released w k m
completes_released _ k m = let bad : false ≡ true = ap is_held m.0 in absurd (cc bad)

-- ---- the completion found a missed request

pub ends_again : (p : Pass) (x : Seen) (q : Pass) → Made p (operation.Look x ∷ operation.Complete done.Again ∷ []) q
    → EndsByReply done.Again true q
unfolding LegalHistory
ends_again p x q m =
    let before = m.ends.0 in
    let k = controller_of q in
    let last = event (pass_number p) (operation.Complete done.Again) in
    let is : shown q ≡ before ++ last ∷ [] = m.ends.1 in
    let legal = legal_back k (opening k) before (last ∷ []) (subst (LegalHistory k (opening k)) is m.shows.legal) in
    (before, subst (λ (c : ℕ). shown q ≡ before ++ event c (operation.Complete done.Again) ∷ []) (sym m.seat.number) is, legal.0.0.1)

polls_again : (w : Polling) (k : CallerState) → Is (λ r. TriesToComplete w.pass r × TriesToGiveBack w.pass w.ctx r) (try_completed k AGAIN)
    → GrantedWith (EndsByReply done.Again true) k
polls_again w (caller.Granted g) m = ends_again w.pass m.0.0 g.pass m.0.1
polls_again w _ m = absurd m

pub completes_again : (h k : CallerState) → CallerCompletes h AGAIN k → GrantedWith (EndsByReply done.Again true) k
completes_again (caller.Polls w) k m = polls_again w k m
completes_again _ k m = let bad : false ≡ true = ap is_held m.0 in absurd (cc bad)
