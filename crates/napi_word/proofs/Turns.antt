-- Each kind of step, in each state that is consistent with the view of its pass.
use Rattle.napi_model.specs.{Step.{event, seen_of, seen_after, after_by, handed_at, place_of, MayHand, IsControl}, Laws.is_owner}
use Rattle.napi_model.specs.{Laws.IsHandedOrPolled, History.IsLegalFor, Word.word_of, declared.event.Operation.Operation}
use Rattle.napi_model.specs.declared.event.Operation.TheVariants.{Look, Schedule, Hand, Take, Complete, BusyTake, BusyStop, MarkDisable}
use Rattle.napi_model.specs.declared.event.{Operation.TheVariants.{TakeDisable, Unmark, Enable, SetThreaded}, Done.TheVariants.Held}
use Rattle.napi_model.specs.declared.state.{State.State as Napi, Kind.Kind, Seen.Seen, Place.TheVariants.{Granted, Listed, ToThread}}
use Rattle.napi_model.{specs.declared.state.Place.{TheVariants.{Polling, Control}, Place}, proofs.Words.word_of-injective}
use Rattle.{napi_model.proofs.Tells.tells_next, atomic_table.specs.Table.Me, napi_word.proofs.{Places.is_false, Keeps.Knows}}
use Rattle.napi_word.proofs.Bits.{hand_bits, take_mask, added, subtracted, hand_list, hand_thread, take_word, threaded_word}
use Rattle.napi_word.proofs.{Bits.{unthreaded_word, mark_word, unmark_word}, Allowed.{nothing, Fitting, Turn, allowed}}
use Rattle.napi_word.specs.{declared.{history.Holds.Holds, table.{Pass.Pass, StateTable.StateTable}}, Slot.{Content, has_at, is_out}}
use Rattle.napi_word.specs.{Slot.{owns_slot, Tied, Moves, stays, taken, given, GivesSlotBack, SlotDelivers}}
use Rattle.napi_word.specs.{Passes.{tie_of, IsSlotFilled, PassMayHand}}
use Rattle.napi_word.specs.{Passes.{HasPoll, PassPolls, IsController, Controls, IsNoOwner, Disable}, Atoms.{MayMake, MayExchange}}
use Rattle.napi_word.specs.Operations.{Did}
use Rattle.napi_word.specs.{Operations.{when, either_op, no_move, load_op, prep_of, done_of, is_marked, shows_busy, busy_op}}
use Rattle.napi_word.specs.{Knowledge.{Knowledge, view_number}}
use Rattle.std.proofs.Common.{◌≡◌, ◌⊎◌, ℕ, eqb, eq-eqb, None, Bool, true, false}
use Rattle.napi_word.specs.Knowledge.{view_controller, place_in}
use Rattle.std.proofs.{Common.{refl, sym, ap, ◌∙◌, subst, inl, inr, ⊎_elim, true≢false, bit_and, bit_or}, lemmas.Bool.{eqb-true, or_cases}}
use prog.Atomic.{either}
use Rattle.napi_model.specs.Step as step

-- ---- places and marks

marked_place : (k : Kind) (p : Place) → is_marked k (handed_at p) ≡ true → p ≡ place_of k
marked_place Kind.List Listed e = refl
marked_place Kind.Thread ToThread e = refl
marked_place k p e = absurd (true≢false (sym e))

place_marked : (k : Kind) → is_marked k (handed_at (place_of k)) ≡ true
place_marked Kind.List = refl
place_marked Kind.Thread = refl

-- the state after a take succeeds if the mark of its queue was set, and fails otherwise
take_said : (k : Kind) (now : Napi) (b : Bool) → is_marked k (handed_at now.place) ≡ b
    → bit_and (word_of (seen_of now)) (take_mask k) ≡ word_of (seen_after (Take k b) (seen_of now))
take_said k now b is = take_word k (seen_of now) ∙ ap (λ (v : Bool). word_of (seen_after (Take k v) (seen_of now))) is

home_at : (k : Kind) → is_out (place_of k) ≡ false
home_at Kind.List = refl
home_at Kind.Thread = refl

control_is : (p : Place) → IsControl p → (d : ℕ) × (p ≡ Control d)
control_is (Control c) h = (c, refl)
control_is p h = absurd h

gift : {A : Type 0} (b : Bool) (m : Moves) → (m ≡ given → A) → when b m ≡ given → A
gift true m f e = f e
gift false m f e = absurd (cc)

-- ---- what the owner and the controller know

owned_place : (k : ℕ) (v : Knowledge) (c : ℕ) (now : Napi) → Knows k v c now → (q : Place) → place_in v ≡ q → is_owner c q ≡ true
    → now.place ≡ q
owned_place k v c now kn q is mine = kn.place (ap (is_owner c) is ∙ mine) ∙ is

is_polling : (k : ℕ) (v : Knowledge) (c : ℕ) (now : Napi) (b : Bool) → Knows k v c now → HasPoll b v → step.CallerPolls c b now
is_polling k v c now b kn is =
    let place = is.0 ∙ ap Polling kn.number in
    (owned_place k v c now kn (Polling c) place (eq-eqb c c refl), kn.busy (ap (is_owner c) place ∙ eq-eqb c c refl) ∙ is.1)

is_control : (k : ℕ) (v : Knowledge) (c : ℕ) (now : Napi) → Knows k v c now → place_in v ≡ Control (view_number v) → now.place ≡ Control c
is_control k v c now kn is = owned_place k v c now kn (Control c) (is ∙ ap Control kn.number) (eq-eqb c c refl)

is_last : (k : ℕ) (v : Knowledge) (c : ℕ) (now : Napi) → Knows k v c now → view_number v ≡ view_controller v → c ≡ k
is_last k v c now kn top = sym kn.number ∙ top ∙ kn.controller

-- a compare-exchange counts as its operation if it succeeds, and as a look otherwise
exchange_turn : (k : ℕ) (now : Napi) (c : ℕ) (seen : Seen) (next : ℕ) (o : Operation) (m : Moves)
    → (seen_of now ≡ seen → Turn k now c o m (λ n. next)) → (b : Bool) → eqb (word_of (seen_of now)) (word_of seen) ≡ b
    → Turn k now c (either_op b o (seen_of now)) (when b m) (λ n. either (eqb n (word_of seen)) next n)
exchange_turn k now c seen next o m hit true e = let t = hit (word_of-injective _ _ (eqb-true _ _ e)) in
    record { legal = t.legal; word = rw e t.word; slot = t.slot }
exchange_turn k now c seen next o m hit false e = record { legal = (refl, tt); word = rw e refl; slot = (refl, refl) }

module _ (t : StateTable) (p : Pass) where
  abbrev me : Me Content Knowledge
  me = p.seat.me

  abbrev last : ℕ
  last = t.table.shared.key.controller

  -- a step is allowed if it is legal in every place that the pass may have
  makes : (g : ℕ → ℕ) (f : Seen → Operation) (m : Seen → Moves) → ((x : Seen) → m x ≡ given → IsSlotFilled p)
      → ((now : Napi) (c : ℕ) → Knows last me.0 c now → Turn last now c (f (seen_of now)) (m (seen_of now)) g)
      → MayMake t p.seat g f m
  makes g f m ready turn =
      allowed t.table.shared.key t.table.shared.table_id.slots p.seat.id me t.one_slot p.is_pass p.holds (tie_of p) g f m ready turn

  -- if a step is legal, the word before it determines the word after it
  turn : (now : Napi) (c : ℕ) (o : Operation) (m : Moves) (g : ℕ → ℕ) → Knows last me.0 c now → IsLegalFor last now (event c o)
      → g (word_of (seen_of now)) ≡ word_of (seen_after o (seen_of now)) → Fitting m c now.place (after_by c o now).place
      → Turn last now c o m g
  turn now c o m g kn legal word slot =
      record { legal = legal; word = word ∙ ap word_of (sym (tells_next c o now legal.0 kn.sound)); slot = slot }

  -- ---- loads
  pub looks : MayMake t p.seat (λ n. n) (λ x. Look x) no_move
  looks = makes (λ n. n) (λ x. Look x) no_move (λ x e. absurd (cc))
      (λ now c kn. record { legal = (refl, tt); word = refl; slot = (refl, refl) })

  try_turn : (now : Napi) (c : ℕ) (b : Bool) → now.flags.disable ≡ b → Turn last now c (load_op b (seen_of now)) stays (λ n. n)
  try_turn now c true is = record { legal = (is, tt); word = refl; slot = (refl, refl) }
  try_turn now c false is = record { legal = (refl, tt); word = refl; slot = (refl, refl) }

  pub tries : MayMake t p.seat (λ n. n) (λ x. load_op x.flags.disable x) no_move
  tries = makes (λ n. n) (λ x. load_op x.flags.disable x) no_move (λ x e. absurd (cc))
      (λ now c kn. try_turn now c now.flags.disable refl)

  ask_turn : (now : Napi) (c : ℕ) → c ≡ last → now.flags.disable ≡ true → (b : Bool) → shows_busy (seen_of now) ≡ b
      → Turn last now c (busy_op b (seen_of now)) stays (λ n. n)
  ask_turn now c top off true is =
      record { legal = ((off, or_cases now.flags.sched now.flags.npsvc is), top); word = refl; slot = (refl, refl) }
  ask_turn now c top off false is = record { legal = (refl, tt); word = refl; slot = (refl, refl) }

  pub asks : IsController p → Disable true p → MayMake t p.seat (λ n. n) (λ x. busy_op (shows_busy x) x) no_move
  asks is off = makes (λ n. n) (λ x. busy_op (shows_busy x) x) no_move (λ x e. absurd (cc))
      (λ now c kn. let top = is_last last me.0 c now kn is in ask_turn now c top (kn.disable top ∙ off) (shows_busy (seen_of now)) refl)

  -- ---- exchanges

  -- the operation of a compare-exchange that succeeds: it is legal, and moves the slot as the rules say
  abbrev Hit : Napi → ℕ → Operation → Moves → Type 0
  Hit now c o m = IsLegalFor last now (event c o) × Fitting m c now.place (after_by c o now).place

  exchanges : (seen : Seen) (f : Seen → Operation) (m : Seen → Moves) → ((x : Seen) → m x ≡ given → IsSlotFilled p)
      → ((now : Napi) (c : ℕ) → Knows last me.0 c now → seen_of now ≡ seen → Hit now c (f (seen_of now)) (m (seen_of now)))
      → MayExchange t p.seat seen f m
  exchanges seen f m ready hit = makes (λ n. either (eqb n (word_of seen)) (word_of (seen_after (f seen) seen)) n)
      (λ x. either_op (eqb (word_of x) (word_of seen)) (f x) x) (λ x. when (eqb (word_of x) (word_of seen)) (m x))
      (λ x e. gift (eqb (word_of x) (word_of seen)) (m x) (ready x) e)
      (λ now c kn. exchange_turn last now c seen (word_of (seen_after (f seen) seen)) (f (seen_of now)) (m (seen_of now))
      (λ same. let h = hit now c kn same in
      turn now c (f (seen_of now)) (m (seen_of now)) (λ n. word_of (seen_after (f seen) seen)) kn h.0
      (ap (λ (x : Seen). word_of (seen_after (f x) x)) (sym same)) h.1)
      (eqb (word_of (seen_of now)) (word_of seen)) refl)

  schedule_hit : (now : Napi) (c : ℕ) → Knows last me.0 c now → now.flags.disable ≡ false → (b : Bool) → now.flags.sched ≡ b
      → Hit now c (Schedule (prep_of b)) stays
  schedule_hit now c kn on true is = (((on, is), tt), (refl, refl))
  schedule_hit now c kn on false is = let nobody = kn.sound is in (((on, is), tt), (sym (ap is_out nobody), sym (ap (has_at c) nobody)))

  pub schedules : (seen : Seen) → seen.flags.disable ≡ false → MayExchange t p.seat seen (λ x. Schedule (prep_of x.flags.sched)) no_move
  schedules seen on = exchanges seen (λ x. Schedule (prep_of x.flags.sched)) no_move (λ x e. absurd (cc))
      (λ now c kn same. schedule_hit now c kn (ap (λ (x : Seen). x.flags.disable) same ∙ on) now.flags.sched refl)

  complete_hit : (now : Napi) (c : ℕ) → step.CallerPolls c false now → (b : Bool) → now.flags.missed ≡ b
      → Hit now c (Complete (done_of b)) given
  complete_hit now c polls true is = (((polls.0, is, polls.1), tt), (ap (has_at c) polls.0 ∙ eq-eqb c c refl, refl))
  complete_hit now c polls false is = (((polls.0, is, polls.1), tt), (ap (has_at c) polls.0 ∙ eq-eqb c c refl, refl))

  pub completes : (seen : Seen) → PassPolls false p → IsSlotFilled p
      → MayExchange t p.seat seen (λ x. Complete (done_of x.flags.missed)) (λ x. given)
  completes seen polls within = exchanges seen (λ x. Complete (done_of x.flags.missed)) (λ x. given) (λ x e. within)
      (λ now c kn same. complete_hit now c (is_polling last me.0 c now false kn polls) now.flags.missed refl)

  pub takes_busy : (seen : Seen) → step.MayBusyTake seen.flags → MayExchange t p.seat seen (λ x. BusyTake) (λ x. taken)
  takes_busy seen free = exchanges seen (λ x. BusyTake) (λ x. taken) (λ x e. absurd (cc))
      (λ now c kn same.
      let may = subst (λ (x : Seen). step.MayBusyTake x.flags) (sym same) free in
      ((may, tt), (ap is_out (kn.sound may.1), eq-eqb c c refl)))

  pub stops_busy : (seen : Seen) → PassPolls true p → MayExchange t p.seat seen (λ x. BusyStop) no_move
  stops_busy seen polls = exchanges seen (λ x. BusyStop) no_move (λ x e. absurd (cc))
      (λ now c kn same. ((is_polling last me.0 c now true kn polls, tt), (refl, refl)))

  pub completes_held : PassPolls true p → MayMake t p.seat (λ n. n) (λ x. Complete Held) no_move
  completes_held polls = makes (λ n. n) (λ x. Complete Held) no_move (λ x e. absurd (cc))
      (λ now c kn. record { legal = (is_polling last me.0 c now true kn polls, tt); word = refl; slot = (refl, refl) })

  pub disables : (seen : Seen) → IsController p → seen.flags.disable ≡ true → seen.flags.sched ≡ false → seen.flags.npsvc ≡ false
      → MayExchange t p.seat seen (λ x. TakeDisable true) (λ x. taken)
  disables seen top off sched npsvc = exchanges seen (λ x. TakeDisable true) (λ x. taken) (λ x e. absurd (cc))
      (λ now c kn same.
      let clear : now.flags.sched ≡ false = ap (λ (x : Seen). x.flags.sched) same ∙ sched in (
        (
          (ap (λ (x : Seen). x.flags.disable) same ∙ off, clear, ap (λ (x : Seen). x.flags.npsvc) same ∙ npsvc),
          is_last last me.0 c now kn
              top,
        ),
        (ap is_out (kn.sound clear), eq-eqb c c refl),
      ))

  pub enables : (b : Bool) (seen : Seen) → IsController p → Controls p → Disable false p → IsSlotFilled p
      → MayExchange t p.seat seen (λ x. Enable b) (λ x. given)
  enables b seen is control on within = exchanges seen (λ x. Enable b) (λ x. given) (λ x e. within)
      (λ now c kn same.
      let place = is_control last me.0 c now kn control in
      let top = is_last last me.0 c now kn is in
      (((place, kn.disable top ∙ on), top), (ap (has_at c) place ∙ eq-eqb c c refl, refl)))

  -- ---- single bits
  list_turn : (m : Moves) (now : Napi) (c : ℕ) → Knows last me.0 c now → MayHand c Kind.List now → handed_at now.place ≡ None
      → Fitting m c now.place Listed
      → Turn last now c (Hand Kind.List) m (added (hand_bits Kind.List))
  list_turn m now c kn may none slot =
      turn now c (Hand Kind.List) m (added (hand_bits Kind.List)) kn (may, tt) (hand_list (seen_of now) none) slot

  granted_turn : (k : Kind) (now : Napi) (c : ℕ) → Knows last me.0 c now → now.place ≡ Granted c
      → Turn last now c (Hand k) stays (added (hand_bits k))
  granted_turn Kind.List now c kn is = list_turn stays now c kn (inl is) (ap handed_at is) (sym (ap is_out is), sym (ap (has_at c) is))
  granted_turn Kind.Thread now c kn is =
      -- a granted instance doesn't have SCHED_THREADED set
      let unthreaded = is_false now.flags.sched_threaded (λ e. subst IsHandedOrPolled is (kn.threads e)) in
      turn now c (Hand Kind.Thread) stays (added (hand_bits Kind.Thread)) kn (is, tt)
      (hand_thread (seen_of now) (ap handed_at is) unthreaded) (sym (ap is_out is), sym (ap (has_at c) is))

  gives_nothing : (x y : Me Content Knowledge) → owns_slot x.0 ≡ false → SlotDelivers stays x y → SlotDelivers given x y
  gives_nothing x y none g = record {
    before = g.before;
    begins = g.begins;
    exact = g.exact;
    held = g.held;
    first = g.first;
    shifts = subst (λ (b : Bool). GivesSlotBack b g.before x y) (sym none) g.shifts;
  }

  -- a caller that was granted the instance doesn't own the slot, so it doesn't return it
  nothing_given : (o : Operation) (me' : Me Content Knowledge) → place_in me.0 ≡ Granted (view_number me.0) → Did o stays me me'
      → Did o given me me'
  nothing_given o me' is d =
      let none : owns_slot me.0 ≡ false = ap (has_at (view_number me.0)) is in
      (d.0, λ h' tie'. subst (λ (y : Holds). Tied y me') (nothing h' (sym tie'.right ∙ none)) (d.1 h' tie'), gives_nothing me me' none d.2)

  hands_granted : (k : Kind) → place_in me.0 ≡ Granted (view_number me.0)
      → MayMake t p.seat (added (hand_bits k)) (λ x. Hand k) (λ x. given)
  hands_granted k is s holding len at fits =
      let a = makes (added (hand_bits k)) (λ x. Hand k) no_move (λ x e. absurd (cc))
      (λ now c kn. granted_turn k now c kn (owned_place last me.0 c now kn (Granted c) (is ∙ ap Granted kn.number) (eq-eqb c c refl))) s
      holding len at fits in
      (a.0, a.1, a.2, a.3, (a.4.0, a.4.1, nothing_given (Hand k) _ is a.4.2))

  hands_polled : PassPolls false p → IsSlotFilled p → MayMake t p.seat (added (hand_bits Kind.List)) (λ x. Hand Kind.List) (λ x. given)
  hands_polled is within = makes (added (hand_bits Kind.List)) (λ x. Hand Kind.List) (λ x. given) (λ x e. within)
      (λ now c kn. let q = is_polling last me.0 c now false kn is in
      list_turn given now c kn (inr q) (ap handed_at q.0) (ap (has_at c) q.0 ∙ eq-eqb c c refl, refl))

  pub hands : (k : Kind) → PassMayHand k p → IsSlotFilled p → MayMake t p.seat (added (hand_bits k)) (λ x. Hand k) (λ x. given)
  hands Kind.List may within =
      ⊎_elim (λ (q : place_in me.0 ≡ Granted (view_number me.0)). hands_granted Kind.List q)
      (λ (q : PassPolls false p). hands_polled q within) may
  hands Kind.Thread may within = hands_granted Kind.Thread may

  take_turn : (k : Kind) (now : Napi) (c : ℕ) → Knows last me.0 c now → (b : Bool) → is_marked k (handed_at now.place) ≡ b
      → Turn last now c (Take k b) (when b taken) (λ n. bit_and n (take_mask k))
  take_turn k now c kn true is =
      let place = marked_place k now.place is in
      turn now c (Take k true) taken (λ n. bit_and n (take_mask k)) kn (place, tt) (take_said k now true is)
      (ap is_out place ∙ home_at k, eq-eqb c c refl)
  take_turn k now c kn false is =
      turn now c (Take k false) stays (λ n. bit_and n (take_mask k)) kn
      ((λ e. true≢false (sym (place_marked k) ∙ ap (λ (q : Place). is_marked k (handed_at q)) (sym e) ∙ is)), tt) (take_said k now false is)
      (refl, refl)

  pub takes_over : (k : Kind)
      → MayMake t p.seat (λ n. bit_and n (take_mask k)) (λ x. Take k (is_marked k x.handed)) (λ x. when (is_marked k x.handed) taken)
  takes_over k = makes (λ n. bit_and n (take_mask k)) (λ x. Take k (is_marked k x.handed)) (λ x. when (is_marked k x.handed) taken)
      (λ x e. gift (is_marked k x.handed) taken (λ t. absurd (cc)) e)
      (λ now c kn. take_turn k now c kn (is_marked k (handed_at now.place)) refl)

  pub sets_threaded : MayMake t p.seat (λ n. bit_or n 256) (λ x. SetThreaded true) no_move
  sets_threaded = makes (λ n. bit_or n 256) (λ x. SetThreaded true) no_move (λ x e. absurd (cc))
      (λ now c kn. turn now c (SetThreaded true) stays (λ n. bit_or n 256) kn (tt, tt) (threaded_word (seen_of now)) (refl, refl))

  pub clears_threaded : MayMake t p.seat (λ n. bit_and n 18446744073709551359) (λ x. SetThreaded false) no_move
  clears_threaded = makes (λ n. bit_and n 18446744073709551359) (λ x. SetThreaded false) no_move (λ x e. absurd (cc))
      (λ now c kn. turn now c (SetThreaded false) stays (λ n. bit_and n 18446744073709551359) kn (tt, tt) (unthreaded_word (seen_of now))
      (refl, refl))

  not_control : (now : Napi) (c : ℕ) → Knows last me.0 c now → c ≡ last → IsNoOwner p → ¬ IsControl now.place
  not_control now c kn top free h =
      let d = control_is now.place h in
      let mine : is_owner c now.place ≡ true = ap (is_owner c) d.1 ∙ eq-eqb d.0 c (kn.controlled d.0 d.1 ∙ sym top) in
      true≢false (sym mine ∙ kn.owner ∙ ap (λ (n : ℕ). is_owner n (place_in me.0)) (sym kn.number) ∙ free)

  pub marks : IsController p → IsNoOwner p → Disable false p
      → MayMake t p.seat (added 4) (λ x. MarkDisable) no_move
  marks is free on = makes (added 4) (λ x. MarkDisable) no_move (λ x e. absurd (cc))
      (λ now c kn. let top = is_last last me.0 c now kn is in
      turn now c MarkDisable stays (added 4) kn ((kn.disable top ∙ on, not_control now c kn top free), top)
      (mark_word (seen_of now) (kn.disable top ∙ on)) (refl, refl))

  pub unmarks : IsController p → Controls p → Disable true p
      → MayMake t p.seat (subtracted 4) (λ x. Unmark) no_move
  unmarks is control off = makes (subtracted 4) (λ x. Unmark) no_move (λ x e. absurd (cc))
      (λ now c kn. let top = is_last last me.0 c now kn is in
      turn now c Unmark stays (subtracted 4) kn ((is_control last me.0 c now kn control, kn.disable top ∙ off), top)
      (unmark_word (seen_of now) (kn.disable top ∙ off)) (refl, refl))
