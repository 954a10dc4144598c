-- What the calls of the callers preserve.
use Rattle.std.proofs.Common.{◌≡◌, ◌∙◌, Bool, true, false, Option, Some, None, sym, subst, refl}
use Rattle.rx_ring.specs.{declared.ends.RxIn.RxIn, Ends.SameIn}
use Rattle.napi_word.specs.declared.table.Pass.{Pass}
use Rattle.napi_calls.specs.{declared.types.Napi.Napi, Seats.{PutsIntoRingOf, SameSeat}}
use Rattle.napi_calls.specs.declared.state.{CallerState.CallerState, ControlState.ControlState}
use Rattle.napi_calls.specs.declared.state.CallerState.TheVariants.{Rests, Granted, Polls, Busy, Gone}
use Rattle.device_shared.specs.Callers.{AreCallers, IsBusyTaken, IsCaller, IsFed, IsSeat, IsTaken, Same, control_pass, fits_poller}
use Rattle.device_shared.specs.Callers.{is_owned, fits_thread, state_pass, owner_place, has_polling, has_busy, has_caller}

-- ---- one caller, after its call

seat-after : (n : Napi) (o q : Option Pass) → Same o q → IsSeat n o → IsSeat n q
seat-after n (Some p) (Some q) s w = s.table ∙ w
seat-after n (Some p) None s w = absurd s
seat-after n None q s w = absurd w

fed-after : (input : RxIn) (o q : Option Pass) → Same o q → IsFed input o → IsFed input q
fed-after input (Some p) (Some q) s w = (w.0, s.ring ∙ w.1, w.2)
fed-after input (Some p) None s w = absurd s
fed-after input None q s w = absurd w

caller-after : (n : Napi) (input : RxIn) (fits : CallerState → Bool) (s t : CallerState) → Same (state_pass s) (state_pass t)
    → fits t ≡ true → IsCaller n input fits s → IsCaller n input fits t
caller-after n input fits s t same is w =
    record { seat = seat-after n _ _ same w.seat; fed = fed-after input _ _ same w.fed; state = is }

module _ {n : Napi} {input : RxIn} {a b c : CallerState} {d : ControlState} (w : AreCallers n input a b c d) where
  pub interrupt-after : (a' : CallerState) → Same (state_pass a) (state_pass a') → has_caller a' ≡ true → AreCallers n input a' b c d
  interrupt-after a' same is = record {
    zeroth = caller-after n input has_caller a a' same is w.zeroth;
    one = w.one;
    two = w.two;
    control_seat = w.control_seat;
    control_fed = w.control_fed;
  }

  pub poller-after : (b' : CallerState) → Same (state_pass b) (state_pass b') → fits_poller b' ≡ true → AreCallers n input a b' c d
  poller-after b' same is = record {
    zeroth = w.zeroth;
    one = caller-after n input fits_poller b b' same is w.one;
    two = w.two;
    control_seat = w.control_seat;
    control_fed = w.control_fed;
  }

  pub thread-after : (c' : CallerState) → Same (state_pass c) (state_pass c') → fits_thread c' ≡ true → AreCallers n input a b c' d
  thread-after c' same is = record {
    zeroth = w.zeroth;
    one = w.one;
    two = caller-after n input fits_thread c c' same is w.two;
    control_seat = w.control_seat;
    control_fed = w.control_fed;
  }

  pub control-after : (d' : ControlState) → Same (control_pass d) (control_pass d') → AreCallers n input a b c d'
  control-after d' same = record {
    zeroth = w.zeroth;
    one = w.one;
    two = w.two;
    control_seat = seat-after n _ _ same w.control_seat;
    control_fed = fed-after input _ _ same w.control_fed;
  }

-- ---- the ring's end, after a packet was put or polled

pub same-fed : (before after : RxIn) (p q : Pass) → SameIn before after → q ≡ p → PutsIntoRingOf before p → PutsIntoRingOf after q
same-fed before after p q same pass fed =
    subst (PutsIntoRingOf after) (sym pass)
    (fed.0, fed.1, (fed.2.0 ∙ sym same.0.0, fed.2.1 ∙ sym same.0.1, fed.2.2 ∙ sym same.0.2, fed.2.3 ∙ sym same.0.3))

fed-by : (before after : RxIn) (o : Option Pass) → SameIn before after → IsFed before o → IsFed after o
fed-by before after (Some p) same w = same-fed before after p p same refl w
fed-by before after None same w = absurd w

caller-fed : (n : Napi) (before after : RxIn) (fits : CallerState → Bool) (s : CallerState) → SameIn before after
    → IsCaller n before fits s → IsCaller n after fits s
caller-fed n before after fits s same w = record { seat = w.seat; fed = fed-by before after _ same w.fed; state = w.state }

module _ {n : Napi} {before after : RxIn} {a b c : CallerState} {d : ControlState} (same : SameIn before after)
    (w : AreCallers n before a b c d) where
  pub all-fed : AreCallers n after a b c d
  all-fed = record {
    zeroth = caller-fed n before after has_caller a same w.zeroth;
    one = caller-fed n before after fits_poller b same w.one;
    two = caller-fed n before after fits_thread c same w.two;
    control_seat = w.control_seat;
    control_fed = fed-by before after _ same w.control_fed;
  }

  polled : (fits : CallerState → Bool) (s t : CallerState) → state_pass t ≡ state_pass s → fits t ≡ fits s → IsCaller n after fits s
      → IsCaller n after fits t
  polled fits s t pass is k = record {
    seat = subst (IsSeat n) (sym pass) k.seat;
    fed = subst (IsFed after) (sym pass) k.fed;
    state = is ∙ k.state;
  }

  pub poller-polled : (b' : CallerState) → state_pass b' ≡ state_pass b → fits_poller b' ≡ fits_poller b → AreCallers n after a b' c d
  poller-polled b' pass is = record {
    zeroth = all-fed.zeroth;
    one = polled fits_poller b b' pass is all-fed.one;
    two = all-fed.two;
    control_seat = all-fed.control_seat;
    control_fed = all-fed.control_fed;
  }

  pub thread-polled : (c' : CallerState) → state_pass c' ≡ state_pass c → fits_thread c' ≡ fits_thread c → AreCallers n after a b c' d
  thread-polled c' pass is = record {
    zeroth = all-fed.zeroth;
    one = all-fed.one;
    two = polled fits_thread c c' pass is all-fed.two;
    control_seat = all-fed.control_seat;
    control_fed = all-fed.control_fed;
  }

-- ---- the variants

pub rests-poller : (s : CallerState) → has_caller s ≡ true → fits_poller s ≡ true
rests-poller (Rests c) h = refl
rests-poller (Polls w) h = refl
rests-poller (Busy b) h = refl
rests-poller (Granted g) h = cc h
rests-poller Gone h = cc h

pub rests-thread : (s : CallerState) → has_caller s ≡ true → fits_thread s ≡ true
rests-thread (Rests c) h = refl
rests-thread (Polls w) h = refl
rests-thread (Busy b) h = cc h
rests-thread (Granted g) h = cc h
rests-thread Gone h = cc h

polls-thread : (s : CallerState) → has_polling s ≡ true → fits_thread s ≡ true
polls-thread (Rests c) h = refl
polls-thread (Polls w) h = refl
polls-thread (Busy b) h = cc h
polls-thread (Granted g) h = cc h
polls-thread Gone h = cc h

pub thread-poller : (s : CallerState) → fits_thread s ≡ true → fits_poller s ≡ true
thread-poller (Rests c) h = refl
thread-poller (Polls w) h = refl
thread-poller (Busy b) h = cc h
thread-poller (Granted g) h = cc h
thread-poller Gone h = cc h

pub busy-poller : (s : CallerState) → has_busy s ≡ true → fits_poller s ≡ true
busy-poller (Rests c) h = refl
busy-poller (Polls w) h = refl
busy-poller (Busy b) h = refl
busy-poller (Granted g) h = cc h
busy-poller Gone h = cc h

pub polls-poller : (s : CallerState) → has_polling s ≡ true → fits_poller s ≡ true
polls-poller s h = thread-poller s (polls-thread s h)

pub taken-thread : (taken : Bool) (s : CallerState) → IsTaken taken s → fits_thread s ≡ true
taken-thread true s h = polls-thread s h
taken-thread false s h = rests-thread s h

pub taken-poller : (taken : Bool) (s : CallerState) → IsTaken taken s → fits_poller s ≡ true
taken-poller taken s h = thread-poller s (taken-thread taken s h)

pub busy-taken-poller : (taken : Bool) (s : CallerState) → IsBusyTaken taken s → fits_poller s ≡ true
busy-taken-poller true s h = busy-poller s h
busy-taken-poller false s h = rests-poller s h
