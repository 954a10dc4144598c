-- The laws of legal histories.
use Rattle.std.proofs.Common.{◌≡◌, ◌≢◌, ℕ, Bool, List, [], ◌∷◌, ne_eqb, true, false, refl, sym, ap, ◌∙◌, subst, ⊎_elim, true≢false}
use Rattle.napi_model.specs.declared.state.{Place.{TheVariants.{Nobody, Granted, Listed, ToThread, Polling, Control}, Place}, State.State}
use Rattle.napi_model.specs.declared.{state.Kind.Kind, event.{Event.Event, Prep.Prep, Done.TheVariants.{Released, Again, Held}}}
use Rattle.napi_model.specs.declared.event.Operation.{Operation, TheVariants.{Look, Schedule, Hand, Take, Complete, BusyTake, BusyStop}}
use Rattle.napi_model.specs.declared.event.Operation.TheVariants.{MarkDisable, TakeDisable, Unmark, Enable, SetThreaded}
use Rattle.napi_model.specs.{History.{LegalHistory, IsBy, state_after, own}}
use Rattle.napi_model.specs.{Step.{after, after_by, opening, IsLegalBy, CallerPolls, MayHand}}
use Rattle.napi_model.specs.Laws.{IsSound, is_owner, IsOwnedBy, stand_of, IsPollingPlace, BusyIsPolled, IsHandedOrPolled, ThreadsIsHanded}
use Rattle.napi_model.specs.Laws.{IsControlled, SchedClearIsNobody, BusyPollIsPolling, SchedThreadedIsHanded, OthersLeaveOwner}
use Rattle.napi_model.{specs.Laws.{OthersLeaveOwnership, ControlIsTheControllers, OthersLeaveDisable}, proofs.Histories.state_after-append}
use Rattle.napi_model.proofs.Histories.{legal_front, legal_back, own_first}

-- ---- SCHED clear implies that the place is Nobody

hand_apart : (c : ℕ) (s : State) → s.place ≡ Nobody → MayHand c Kind.List s → ⊥
hand_apart c s e h = ⊎_elim (λ (g : s.place ≡ Granted c). cc) (λ (g : CallerPolls c false s). let p = g.0 in cc) h

pub sound_by : (c : ℕ) (o : Operation) (s : State) → IsLegalBy c o s → IsSound s → IsSound (after_by c o s)
sound_by c (Schedule Prep.Granted) s l sound = λ e. absurd (true≢false e)
sound_by c (Hand Kind.List) s l sound = λ e. absurd (hand_apart c s (sound e) l)
sound_by c (Hand Kind.Thread) s l sound = λ e. let n = sound e in cc
sound_by c (Take Kind.List true) s l sound = λ e. let n = sound e in cc
sound_by c (Take Kind.Thread true) s l sound = λ e. let n = sound e in cc
sound_by c (Complete Again) s l sound = λ e. let n = sound e in let p = l.0 in cc
sound_by c (Complete Released) s l sound = λ e. refl
sound_by c BusyTake s l sound = λ e. absurd (true≢false e)
sound_by c (TakeDisable true) s l sound = λ e. absurd (true≢false e)
sound_by c (Enable b) s l sound = λ e. refl
sound_by c o s l sound = sound

pub sound_after : SchedClearIsNobody
unfolding LegalHistory state_after
sound_after k s [] sound l = sound
sound_after k s (e ∷ h) sound l = sound_after k (after s e) h (sound_by e.caller e.operation s l.0.0 sound) l.1

-- ---- IN_BUSY_POLL, and the place is a Polling

pub busy_by : (c : ℕ) (o : Operation) (s : State) → IsLegalBy c o s → IsSound s → BusyIsPolled s → BusyIsPolled (after_by c o s)
busy_by c (Schedule Prep.Granted) s l sound busy = λ e. absurd (subst IsPollingPlace (sound l.1) (busy e))
busy_by c (Hand Kind.List) s l sound busy = λ e. ⊎_elim
    (λ (g : s.place ≡ Granted c). subst IsPollingPlace g (busy e))
    (λ (g : CallerPolls c false s). absurd (true≢false (sym e ∙ g.1)))
    l
busy_by c (Hand Kind.Thread) s l sound busy = λ e. subst IsPollingPlace l (busy e)
busy_by c (Take k true) s l sound busy = λ e. tt
busy_by c (Complete Again) s l sound busy = λ e. absurd (true≢false (sym e ∙ l.2))
busy_by c (Complete Released) s l sound busy = λ e. absurd (true≢false (sym e ∙ l.2))
busy_by c BusyTake s l sound busy = λ e. tt
busy_by c BusyStop s l sound busy = λ e. absurd (true≢false (sym e))
busy_by c (TakeDisable true) s l sound busy = λ e. absurd (subst IsPollingPlace (sound l.1) (busy e))
busy_by c (Enable b) s l sound busy = λ e. absurd (subst IsPollingPlace l.0 (busy e))
busy_by c o s l sound busy = busy

pub busy_after : BusyPollIsPolling
unfolding LegalHistory state_after
busy_after k s [] sound busy l = busy
busy_after k s (e ∷ h) sound busy l =
    busy_after k (after s e) h (sound_by e.caller e.operation s l.0.0 sound) (busy_by e.caller e.operation s l.0.0 sound busy) l.1

-- ---- SCHED_THREADED implies that the instance is queued for its thread or polled

pub threads_by : (c : ℕ) (o : Operation) (s : State) → IsLegalBy c o s → IsSound s → ThreadsIsHanded s → ThreadsIsHanded (after_by c o s)
threads_by c (Schedule Prep.Granted) s l sound handed = λ e. absurd (subst IsHandedOrPolled (sound l.1) (handed e))
threads_by c (Hand Kind.List) s l sound handed = λ e. tt
threads_by c (Hand Kind.Thread) s l sound handed = λ e. tt
threads_by c (Take k true) s l sound handed = λ e. tt
threads_by c (Complete Again) s l sound handed = λ e. absurd (true≢false (sym e))
threads_by c (Complete Released) s l sound handed = λ e. absurd (true≢false (sym e))
threads_by c BusyTake s l sound handed = λ e. tt
threads_by c (TakeDisable true) s l sound handed = λ e. absurd (subst IsHandedOrPolled (sound l.1) (handed e))
threads_by c (Enable b) s l sound handed = λ e. absurd (subst IsHandedOrPolled l.0 (handed e))
threads_by c o s l sound handed = handed

pub threads_after : SchedThreadedIsHanded
unfolding LegalHistory state_after
threads_after k s [] sound handed l = handed
threads_after k s (e ∷ h) sound handed l =
    threads_after k (after s e) h (sound_by e.caller e.operation s l.0.0 sound) (threads_by e.caller e.operation s l.0.0 sound handed) l.1

-- ---- whether a caller owns the instance

pub ownership_by_others : (c b : ℕ) (o : Operation) (s : State)
    → b ≢ c → IsLegalBy b o s → IsSound s → is_owner c (after_by b o s).place ≡ is_owner c s.place
ownership_by_others c b (Look seen) s apart l sound = refl
ownership_by_others c b (Schedule Prep.Granted) s apart l sound = ne_eqb b c apart ∙ sym (ap (is_owner c) (sound l.1))
ownership_by_others c b (Schedule Prep.Missed) s apart l sound = refl
ownership_by_others c b (Schedule Prep.Disabled) s apart l sound = refl
ownership_by_others c b (Hand Kind.List) s apart l sound =
    sym (⊎_elim (λ (g : s.place ≡ Granted b). ap (is_owner c) g ∙ ne_eqb b c apart)
    (λ (g : CallerPolls b false s). ap (is_owner c) g.0 ∙ ne_eqb b c apart) l)
ownership_by_others c b (Hand Kind.Thread) s apart l sound = sym (ap (is_owner c) l ∙ ne_eqb b c apart)
ownership_by_others c b (Take Kind.List true) s apart l sound = ne_eqb b c apart ∙ sym (ap (is_owner c) l)
ownership_by_others c b (Take Kind.Thread true) s apart l sound = ne_eqb b c apart ∙ sym (ap (is_owner c) l)
ownership_by_others c b (Take k false) s apart l sound = refl
ownership_by_others c b (Complete Again) s apart l sound = sym (ap (is_owner c) l.0)
ownership_by_others c b (Complete Released) s apart l sound = sym (ap (is_owner c) l.0 ∙ ne_eqb b c apart)
ownership_by_others c b (Complete Held) s apart l sound = refl
ownership_by_others c b BusyTake s apart l sound = ne_eqb b c apart ∙ sym (ap (is_owner c) (sound l.1))
ownership_by_others c b BusyStop s apart l sound = refl
ownership_by_others c b MarkDisable s apart l sound = refl
ownership_by_others c b (TakeDisable true) s apart l sound = ne_eqb b c apart ∙ sym (ap (is_owner c) (sound l.1))
ownership_by_others c b (TakeDisable false) s apart l sound = refl
ownership_by_others c b Unmark s apart l sound = refl
ownership_by_others c b (Enable threaded) s apart l sound = sym (ap (is_owner c) l.0 ∙ ne_eqb b c apart)
ownership_by_others c b (SetThreaded threaded) s apart l sound = refl

-- by induction over a history, from any sound state
pub ownership_kept : (k c : ℕ) (s : State) (h : List Event)
    → IsSound s → LegalHistory k s h → own c h ≡ [] → is_owner c (state_after s h).place ≡ is_owner c s.place
unfolding LegalHistory state_after
ownership_kept k c s [] sound l none = refl
ownership_kept k c s (e ∷ h) sound l none =
    let first = own_first c e h none in
    ownership_kept k c (after s e) h (sound_by e.caller e.operation s l.0.0 sound) l.1 first.1
    ∙ ownership_by_others c e.caller e.operation s first.0 l.0.0 sound

pub others_leave_ownership : OthersLeaveOwnership
others_leave_ownership k c s h others sound l none =
    let t = state_after s h in
    let kept = ownership_kept k c t others (sound_after k s h sound (legal_front k s h others l)) (legal_back k s h others l) none in
    ap (λ (u : State). is_owner c u.place) (state_after-append s h others) ∙ kept

-- ---- the place of an owner

-- a caller that owns the instance in another place doesn't own it here
not_owner : {A : Type 0} (c : ℕ) (p q : Place) → p ≡ q → is_owner c q ≡ false → IsOwnedBy c p → A
not_owner c p q is other owned = absurd (true≢false (sym owned ∙ ap (is_owner c) is ∙ other))

pub owned_by_others : (c b : ℕ) (o : Operation) (s : State)
    → b ≢ c → IsLegalBy b o s → IsSound s → IsOwnedBy c s.place → stand_of (after_by b o s) ≡ stand_of s
owned_by_others c b (Schedule Prep.Granted) s apart l sound owned = not_owner c s.place Nobody (sound l.1) refl owned
owned_by_others c b (Hand Kind.List) s apart l sound owned = ⊎_elim
    (λ (g : s.place ≡ Granted b). not_owner c s.place (Granted b) g (ne_eqb b c apart) owned)
    (λ (g : CallerPolls b false s). not_owner c s.place (Polling b) g.0 (ne_eqb b c apart) owned)
    l
owned_by_others c b (Hand Kind.Thread) s apart l sound owned = not_owner c s.place (Granted b) l (ne_eqb b c apart) owned
owned_by_others c b (Take Kind.List true) s apart l sound owned = not_owner c s.place Listed l refl owned
owned_by_others c b (Take Kind.Thread true) s apart l sound owned = not_owner c s.place ToThread l refl owned
owned_by_others c b (Complete Again) s apart l sound owned = not_owner c s.place (Polling b) l.0 (ne_eqb b c apart) owned
owned_by_others c b (Complete Released) s apart l sound owned = not_owner c s.place (Polling b) l.0 (ne_eqb b c apart) owned
owned_by_others c b BusyTake s apart l sound owned = not_owner c s.place Nobody (sound l.1) refl owned
owned_by_others c b BusyStop s apart l sound owned = not_owner c s.place (Polling b) l.0 (ne_eqb b c apart) owned
owned_by_others c b (TakeDisable true) s apart l sound owned = not_owner c s.place Nobody (sound l.1) refl owned
owned_by_others c b (Enable threaded) s apart l sound owned = not_owner c s.place (Control b) l.0 (ne_eqb b c apart) owned
owned_by_others c b o s apart l sound owned = refl

-- by induction over a history, from any sound state
pub owner_kept : (k c : ℕ) (s : State) (h : List Event)
    → IsSound s → LegalHistory k s h → own c h ≡ [] → IsOwnedBy c s.place → stand_of (state_after s h) ≡ stand_of s
unfolding LegalHistory state_after
owner_kept k c s [] sound l none owned = refl
owner_kept k c s (e ∷ h) sound l none owned =
    let first = own_first c e h none in
    let same = owned_by_others c e.caller e.operation s first.0 l.0.0 sound owned in
    owner_kept k c (after s e) h (sound_by e.caller e.operation s l.0.0 sound) l.1 first.1
    (subst (λ (t : Place × Bool). IsOwnedBy c t.0) (sym same) owned) ∙ same

pub others_leave_owner : OthersLeaveOwner
others_leave_owner k c s h others sound l none owned =
    let t = state_after s h in
    let kept = owner_kept k c t others (sound_after k s h sound (legal_front k s h others l)) (legal_back k s h others l) none owned in
    ap stand_of (state_after-append s h others) ∙ kept

-- ---- the disable flag

disable_by_others : (k c : ℕ) (o : Operation) (s : State) → c ≢ k → IsBy k c o → (after_by c o s).flags.disable ≡ s.flags.disable
disable_by_others k c (Schedule Prep.Granted) s apart by = refl
disable_by_others k c (Hand Kind.List) s apart by = refl
disable_by_others k c (Take kind true) s apart by = refl
disable_by_others k c (Complete Again) s apart by = refl
disable_by_others k c MarkDisable s apart by = absurd (apart by)
disable_by_others k c (TakeDisable true) s apart by = refl
disable_by_others k c Unmark s apart by = absurd (apart by)
disable_by_others k c o s apart by = refl

pub disable_kept : (k : ℕ) (s : State) (h : List Event)
    → LegalHistory k s h → own k h ≡ [] → (state_after s h).flags.disable ≡ s.flags.disable
unfolding LegalHistory state_after
disable_kept k s [] l none = refl
disable_kept k s (e ∷ h) l none =
    let first = own_first k e h none in
    disable_kept k (after s e) h l.1 first.1 ∙ disable_by_others k e.caller e.operation s first.0 l.0.1

pub others_leave_disable : OthersLeaveDisable
others_leave_disable k s h others l none =
    ap (λ (u : State). u.flags.disable) (state_after-append s h others)
    ∙ disable_kept k (state_after s h) others (legal_back k s h others l) none

-- ---- the place Control

pub controlled_by : (k c : ℕ) (o : Operation) (s : State) → IsBy k c o → IsControlled k s → IsControlled k (after_by c o s)
controlled_by k c (Schedule Prep.Granted) s by ok = λ d e. cc
controlled_by k c (Hand Kind.List) s by ok = λ d e. cc
controlled_by k c (Hand Kind.Thread) s by ok = λ d e. cc
controlled_by k c (Take q true) s by ok = λ d e. cc
controlled_by k c (Complete Again) s by ok = λ d e. cc
controlled_by k c (Complete Released) s by ok = λ d e. cc
controlled_by k c BusyTake s by ok = λ d e. cc
controlled_by k c (TakeDisable true) s by ok = λ d e. cc
controlled_by k c (Enable threaded) s by ok = λ d e. cc
controlled_by k c o s by ok = ok

pub controlled_after : ControlIsTheControllers
unfolding LegalHistory state_after
controlled_after k s [] ok l = ok
controlled_after k s (e ∷ h) ok l = controlled_after k (after s e) h (controlled_by k e.caller e.operation s l.0.1 ok) l.1

pub opens_controlled : (k : ℕ) → IsControlled k (opening k)
opens_controlled k = λ d e. cc

pub opens_unbusy : (k : ℕ) → BusyIsPolled (opening k)
opens_unbusy k = λ e. absurd (true≢false (sym e))

pub opens_unthreaded : (k : ℕ) → ThreadsIsHanded (opening k)
opens_unthreaded k = λ e. absurd (true≢false (sym e))

pub opens_sound : (k : ℕ) → IsSound (opening k)
opens_sound k = λ e. absurd (true≢false e)
