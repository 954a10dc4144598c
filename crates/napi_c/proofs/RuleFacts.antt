-- What single calls on a caller leave.
use Rattle.std.proofs.Common.{◌≡◌, ℕ, Some}
use Rattle.napi_model.specs.declared.state.{Kind.Kind, Seen.Seen}
use Rattle.napi_calls.specs.declared.state.CallerState.{CallerState}
use Rattle.c_handles.specs.{CallerCalls.{CallerHands, CallerRequeues, CallerLooks}, Callers.{IsGrantedCaller, IsPolling, IsResting}}
use Rattle.c_handles.specs.Status.{OK}
use Rattle.napi_calls.specs.declared.state.CallerState.TheVariants as caller

pub look_stays_granted : (h : CallerState) (x : Seen) (k : CallerState) → CallerLooks h (Some x) k → IsGrantedCaller h → IsGrantedCaller k
look_stays_granted (caller.Granted g) x (caller.Granted q) m is = tt
look_stays_granted (caller.Granted g) x _ m is = absurd m
look_stays_granted _ x k m is = absurd is

pub look_stays_polling : (h : CallerState) (x : Seen) (k : CallerState) → CallerLooks h (Some x) k → IsPolling h → IsPolling k
look_stays_polling (caller.Polls w) x (caller.Polls v) m is = tt
look_stays_polling (caller.Polls w) x _ m is = absurd m
look_stays_polling _ x k m is = absurd is

pub granted_hands : (h : CallerState) (kind : Kind) (n : ℕ) (k : CallerState) → CallerHands kind h n k → IsGrantedCaller h
    → (n ≡ OK) × IsResting k
granted_hands (caller.Granted g) kind n (caller.Rests c) m is = (m.0, tt)
granted_hands (caller.Granted g) kind n _ m is = absurd m.1
granted_hands _ kind n k m is = absurd is

pub polls_requeues : (h : CallerState) (n : ℕ) (k : CallerState) → CallerRequeues h n k → IsPolling h
    → (n ≡ OK) × IsResting k
polls_requeues (caller.Polls w) n (caller.Rests c) m is = (m.0, tt)
polls_requeues (caller.Polls w) n _ m is = absurd m.1
polls_requeues _ n k m is = absurd is
