-- What the handles of a new shared instance show.
use Rattle.std.proofs.Common.{ℕ, List, Option, Some, None, ap}
use Rattle.napi_model.specs.{History.state_after, Step.opening, declared.event.Event.Event}
use Rattle.napi_calls.specs.{Instance.IsNewSeat, Seats.{controller_of, own_list, state_shown}, declared.types.Napi.Napi}
use Rattle.c_handles.specs.{Endings.LeadsToCaller, declared.{body.Object.Object, caller.CallerObject.CallerObject}}
use Rattle.napi_c.specs.Shared.{IsUnthreaded}
use Rattle.c_handles.specs.declared.body.Object.TheVariants as body

-- a new pass shows an instance that isn't threaded
pub unthreaded : (n : Napi) (k : ℕ) (p : _) → IsNewSeat n k p → IsUnthreaded (own_list p) (state_shown p)
unfolding state_after
unthreaded n k p new = record {
  nothing_made = new.nothing_done;
  not_threaded = ap (λ (es : List Event). (state_after (opening (controller_of p)) es).flags.threaded) new.nothing_shown;
}

-- the caller of a handle has each property that follows from one that it has
pub caller_weaker : (P Q : CallerObject → Type 0) → ((s : CallerObject) → P s → Q s) → (o : Option Object)
    → LeadsToCaller P o → LeadsToCaller Q o
caller_weaker P Q f None h = absurd h
caller_weaker P Q f (Some (body.Caller s)) h = f s h
caller_weaker P Q f (Some _) h = absurd h
