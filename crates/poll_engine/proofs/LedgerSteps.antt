-- What the calls by a worker's handles add to its ledger (`Ledger` of `specs/Runs.antt`).
use Rattle.std.proofs.Common.{arith, rules, ◌≡◌, ℕ, zero, suc, ◌≤◌, Bool, true, false, List, [], ◌∷◌, ◌++◌, length, inl, inr, ⊎_elim}
use Rattle.std.proofs.{Common.{refl, sym, ap, ◌∙◌, subst, append_assoc}, lemmas.Grind.common_steps}
use Rattle.std.specs.Prelude.{flat_map, if◌then◌else◌}
use Rattle.rx_ring.specs.{declared.ends.RxIn.RxIn, declared.packet.Packet.Packet, Ends.{capacity_of, put_list}}
use Rattle.{napi_model.specs.declared.event.Operation.Operation, napi_word.specs.declared.table.Pass.Pass}
use Rattle.napi_calls.specs.{declared.answers.Sched.Sched, declared.types.Caller.Caller, Calls.{Disables, Enables, Schedules}}
use Rattle.napi_calls.specs.{Made.{Made, events, looks}, Seats.{pass_number, own_list}}
use Rattle.poll_engine.specs.{declared.acts.Act.Act, declared.worker.WorkerHandles.WorkerHandles}
use Rattle.poll_engine.specs.{declared.worker.ControllerState.ControllerState, declared.worker.ControllerState.TheVariants.{On, Off}}
use Rattle.poll_engine.specs.{Acts.after_acts, Handles.{AreSameHandles, is_on, pass_of}}
use Rattle.poll_engine.specs.Calls.{Acts, AllActs, Arrives, GoesOn, HandsOver, Interrupts, TurnsOff, TurnsOn}
use Rattle.poll_engine.specs.Runs.{Adds, AllAdd, IsDisabling, IsEnabling, IsHandingOver, IsInterrupt, Ledger, SwitchesOff, SwitchesOn}
use Rattle.poll_engine.specs.{Runs.{Whose, WorksBy}, Works.{ledger_of, whose}}
use Rattle.napi_model.specs.declared.state.Kind.TheVariants as kind
use Rattle.napi_model.specs.declared.event.Prep.TheVariants as prep
use Rattle.napi_model.specs.declared.event.Operation.TheVariants as operation
use Rattle.napi_calls.specs.declared.answers.Sched.TheVariants as sched
use Rattle.poll_engine.specs.declared.acts.Act.TheVariants as act

-- ---- calls of one caller

-- between the passes p and q, the caller's own events grew by these operations
abbrev Grew : Pass → List Operation → Pass → Type 0
Grew p os q = (own_list q ≡ own_list p ++ events (pass_number p) os) × (pass_number q ≡ pass_number p)

made_grew : (p : Pass) (os : List Operation) (q : Pass) → Made p os q → Grew p os q
made_grew p os q m = (m.grown, m.seat.number)

-- two calls, one after the other
grew_both : (p : Pass) (os : List Operation) (q : Pass) (rest : List Operation) (r : Pass) → Grew p os q → Grew q rest r
    → Grew p (os ++ rest) r
grew_both p os q rest r a b = grind (arith, common_steps)

-- a call made some operations of this kind
abbrev Grows : (List Operation → Type 0) → Pass → Pass → Type 0
Grows Is p q = (os : List Operation) × Is os × Grew p os q

hands_over : (thread : Bool) (p q : Pass) → HandsOver thread p q → Grows (IsHandingOver thread) p q
hands_over false p q m = (operation.Hand kind.List ∷ [], refl, made_grew p _ q m)
hands_over true p q h =
    let over = operation.Hand (if h.0.flags.threaded then kind.Thread else kind.List) in (
      operation.Look h.0 ∷ over
          ∷ [],
      (h.0, refl),
      grew_both p (operation.Look h.0 ∷ []) h.1 (over ∷ []) q (made_grew p _ h.1 h.2) (made_grew h.1 _ q h.3),
    )

answered : (thread : Bool) (p : Pass) (s : Sched) (q : Pass) → Schedules p s → GoesOn thread s q → Grows (IsInterrupt thread) p q
answered thread p (sched.Granted g) q m on = let tries = flat_map looks m.0 in
    let reply = operation.Look m.1 ∷ operation.Schedule prep.Granted ∷ [] in
    let over = hands_over thread g.pass q on in
    let all = grew_both p (tries ++ reply) g.pass over.0 q (made_grew p _ g.pass m.2) over.2 in (
      tries ++ (reply ++ over.0),
      (m.0, prep.Granted, reply ++ over.0, (m.1, over.0, over.1, refl), refl),
      subst (λ os. Grew p os q)
          (append_assoc tries reply over.0) all,
    )
answered thread p (sched.Missed c) q m on = grind (arith, common_steps)
answered thread p (sched.Disabled c) q m on = let reply = operation.Schedule prep.Disabled ∷ [] in (
  flat_map looks m.0 ++ reply,
  (m.0, prep.Disabled, reply, refl, refl),
  subst (λ r. Grew p (flat_map looks m.0 ++ reply) r) (sym on)
      (made_grew p _ c.pass m.1),
)

interrupts : (thread : Bool) (p q : Pass) → Interrupts thread p q → Grows (IsInterrupt thread) p q
interrupts thread p q h = answered thread p h.0 q h.1 h.2

enables : (threaded : Bool) (p q : Pass) → Enables threaded p q → Grows (IsEnabling threaded) p q
enables threaded p q h = (flat_map looks h.0 ++ operation.Look h.1 ∷ operation.Enable threaded ∷ [], (h.0, h.1, refl), made_grew p _ q h.2)

disables : (p q : Pass) → Disables p q → Grows IsDisabling p q
disables p q h = (_, (h.0, h.1, refl), made_grew p _ q h.2)

-- ---- a worker's handles, and the ledger that they amount to

abbrev handles_of : Caller → ControllerState → Bool → WorkerHandles
handles_of caller control threaded = record { caller = caller; control = control; threaded = threaded }

-- the owner of the handles (`Whose`)
pub record IsOf (w : Whose) (handles : WorkerHandles) (rx : RxIn) : Type 0 where
  pub caller : pass_number handles.caller.pass ≡ w.caller
  pub controller : pass_number (pass_of handles.control) ≡ w.controller
  pub places : capacity_of rx ≡ w.places

-- the calls by these handles changed the ledger by this relation
abbrev pub Did : Whose → (Ledger → Ledger → Type 0) → WorkerHandles → RxIn → WorkerHandles → RxIn → Type 0
Did w Is a before b after = Is (ledger_of a before) (ledger_of b after) × IsOf w b after

same_ledger : (a b : WorkerHandles) (before after : RxIn) → b.caller ≡ a.caller → b.control ≡ a.control → b.threaded ≡ a.threaded
    → put_list after ≡ put_list before
    → ledger_of b after ≡ ledger_of a before
same_ledger a b before after caller power threaded put = grind (arith, common_steps)

arrives : (w : Whose) (packet : Packet) (a b : WorkerHandles) (before after : RxIn)
    → Arrives w.thread packet a.caller.pass b.caller.pass before after → b.control ≡ a.control → b.threaded ≡ a.threaded
    → capacity_of after ≡ capacity_of before → IsOf w a before
    → Did w (Adds w (act.Arrive packet)) a before b after
arrives w packet a b before after h power threaded places of = ⊎_elim
    (λ (put : (put_list after ≡ put_list before ++ packet ∷ []) × Interrupts w.thread a.caller.pass b.caller.pass).
    let asked = interrupts w.thread a.caller.pass b.caller.pass put.1 in (
      inl (
        asked.0,
        asked.1,
        λ i. record {
          calls = (asked.2.0 ∙ ap (λ n. own_list a.caller.pass ++ events n asked.0) of.caller) i;
          controls = own_list (pass_of (power i));
          put = put.0 i;
          on = is_on (power i);
          threaded = threaded i;
        },
      ),
      record {
        caller = asked.2.1 ∙ of.caller;
        controller = ap (λ p. pass_number (pass_of p)) power ∙ of.controller;
        places = places ∙ of.places;
      },
    ))
    (λ (full : (capacity_of before ≤ length (put_list before)) × (put_list after ≡ put_list before) × (b.caller.pass ≡ a.caller.pass)). (
      inr (
        rw (← of.places) full.0,
        λ i. record {
          calls = own_list (full.2 i);
          controls = own_list (pass_of (power i));
          put = full.1 i;
          on = is_on (power i);
          threaded = threaded i;
        },
      ),
      record {
        caller = ap (λ p. pass_number p) full.2 ∙ of.caller;
        controller = ap (λ p. pass_number (pass_of p)) power ∙ of.controller;
        places = places ∙ of.places;
      },
    ))
    h

still_of : (w : Whose) (a b : WorkerHandles) (before after : RxIn)
    → pass_number b.caller.pass ≡ pass_number a.caller.pass → pass_number (pass_of b.control) ≡ pass_number (pass_of a.control)
    → capacity_of after ≡ capacity_of before → IsOf w a before → IsOf w b after
still_of w a b before after caller controller places of = grind (arith, common_steps)

-- the controller's own events grew, and the instance is now on or off
switched : (w : Whose) (a b : WorkerHandles) (before after : RxIn) (os : List Operation) (on : Bool)
    → own_list (pass_of b.control) ≡ own_list (pass_of a.control) ++ events (pass_number (pass_of a.control)) os → is_on b.control ≡ on
    → b.caller ≡ a.caller → b.threaded ≡ a.threaded → put_list after ≡ put_list before → IsOf w a before
    → ledger_of b after ≡ record (ledger_of a before) { controls = own_list (pass_of a.control) ++ events w.controller os; on = on }
switched w a b before after os on grown now caller threaded put of = grind (arith, common_steps)

turns_on : (w : Whose) (caller : Caller) (set : Bool) (control : ControllerState) (b : WorkerHandles) (before after : RxIn)
    → TurnsOn set control b.control → b.caller ≡ caller → b.threaded ≡ set → put_list after ≡ put_list before
    → capacity_of after ≡ capacity_of before
    → IsOf w (handles_of caller control set) before → Did w (SwitchesOn w (is_on control)) (handles_of caller control set) before b after
turns_on w caller set control b before after h same threaded put places of = search (rules, enables, same_ledger, still_of, switched)

turns_off : (w : Whose) (caller : Caller) (set : Bool) (control : ControllerState) (b : WorkerHandles) (before after : RxIn)
    → TurnsOff control b.control → b.caller ≡ caller → b.threaded ≡ set → put_list after ≡ put_list before
    → capacity_of after ≡ capacity_of before
    → IsOf w (handles_of caller control set) before → Did w (SwitchesOff w (is_on control)) (handles_of caller control set) before b after
turns_off w caller set (On control) b before after h same threaded put places of =
    let grew = disables control.pass (pass_of b.control) h.1 in (
      (grew.0, grew.1, switched w (handles_of caller (On control) set) b before after grew.0 false grew.2.0 h.0 same threaded put of),
      still_of w (handles_of caller (On control) set) b before after (ap (λ (c : Caller). pass_number c.pass) same) grew.2.1 places of,
    )
turns_off w caller set (Off control) b before after h same threaded put places of = search (rules, same_ledger, still_of)

sets : (w : Whose) (set : Bool) (a b : WorkerHandles) (before after : RxIn)
    → Made a.caller.pass (operation.SetThreaded set ∷ []) b.caller.pass → b.control ≡ a.control → b.threaded ≡ set
    → put_list after ≡ put_list before → capacity_of after ≡ capacity_of before
    → IsOf w a before → Did w (Adds w (act.SetThreaded set)) a before b after
sets w set a b before after made power threaded put places of = grind (arith, common_steps, still_of)

-- ---- acts

acts_add : (w : Whose) (x : Act) (a b : WorkerHandles) (before after : RxIn) → Acts w.thread x a b before after
    → capacity_of after ≡ capacity_of before → IsOf w a before → Did w (Adds w x) a before b after
acts_add w (act.Arrive packet) a b before after h places of = arrives w packet a b before after h.0 h.1 h.2 places of
acts_add w act.Disable a b before after h places of = turns_off w a.caller a.threaded a.control b before after h.1 h.0 h.2 h.3 places of
acts_add w act.Enable a b before after h places of = turns_on w a.caller a.threaded a.control b before after h.1 h.0 h.2 h.3 places of
acts_add w (act.SetThreaded set) a b before after h places of = sets w set a b before after h.0 h.1 h.2 h.3 places of
acts_add w act.Nothing a b before after h places of = grind (arith, common_steps, arrives, same_ledger, sets, still_of, turns_off, turns_on)

pub all_add : {D : Type 0} (w : Whose) (answer : D → ℕ → Act) (after : D → ℕ → D) (d : D) (n : ℕ) (a b : WorkerHandles) (first last : RxIn)
    → AllActs w.thread answer after d n a b first last → IsOf w a first → Did w (AllAdd w answer after d n) a first b last
all_add w answer after d zero a b first last h of = grind (arith, common_steps, acts_add, same_ledger, still_of)
all_add w answer after d (suc n) a b first last h of = let before = all_add w answer after d n a h.0 first h.1 h.2 of in
    let one = acts_add w (answer (after_acts after d n) n) h.0 b h.1 last h.4 h.3.1 before.1 in
    ((ledger_of h.0 h.1, before.0, one.0), one.1)

of_itself : (a : WorkerHandles) (rx : RxIn) (thread : Bool) → IsOf (whose a rx thread) a rx
of_itself a rx thread = record { caller = refl; controller = refl; places = refl }

-- an act doesn't change which callers the handles have
pub all_same : {D : Type 0} (thread : Bool) (answer : D → ℕ → Act) (after : D → ℕ → D) (d : D) (n : ℕ) (a b : WorkerHandles)
    (first last : RxIn)
    → AllActs thread answer after d n a b first last → AreSameHandles a b
all_same thread answer after d n a b first last h =
    let all = all_add (whose a first thread) answer after d n a b first last h (of_itself a first thread) in
    (all.1.caller, all.1.controller)

-- ---- a worker's whole run

-- enabling or disabling doesn't change the controller's pass
on_same : (set : Bool) (before after : ControllerState) → TurnsOn set before after
    → pass_number (pass_of after) ≡ pass_number (pass_of before)
on_same set (On control) after h = ap (λ c. pass_number (pass_of c)) h
on_same set (Off control) after h = (enables set control.pass (pass_of after) h.1).2.1

off_same : (before after : ControllerState) → TurnsOff before after → pass_number (pass_of after) ≡ pass_number (pass_of before)
off_same (On control) after h = (disables control.pass (pass_of after) h.1).2.1
off_same (Off control) after h = ap (λ c. pass_number (pass_of c)) h

pub off_is : (before after : ControllerState) → TurnsOff before after → is_on after ≡ false
off_is (On control) after h = h.0
off_is (Off control) after h = ap (λ c. is_on c) h

-- the instance is enabled, acts are made, and it is disabled
module _ (a acted : WorkerHandles) (on off : ControllerState) (turned : TurnsOn a.threaded a.control on)
    (left : TurnsOff acted.control off) where
  pub same_handles : AreSameHandles (record a { control = on }) acted → AreSameHandles a (record acted { control = off })
  same_handles same = (same.0, off_same acted.control off left ∙ same.1 ∙ on_same a.threaded a.control on turned)

  pub works : {D : Type 0} (thread : Bool) (answer : D → ℕ → Act) (after : D → ℕ → D) (d : D) (n : ℕ) (first last : RxIn)
      → AllActs thread answer after d n (record a { control = on }) acted first last
      → WorksBy (whose a first thread) answer after d n (ledger_of a first) (ledger_of (record acted { control = off }) last)
  works thread answer after d n first last all =
      let w = whose a first thread in
      let now : WorkerHandles = record a { control = on } in
      let opened = turns_on w a.caller a.threaded a.control now first first turned refl refl refl refl
      (record { caller = refl; controller = refl; places = refl }) in
      let made = all_add w answer after d n now acted first last all opened.1 in
      let shut = turns_off w acted.caller acted.threaded acted.control (record acted { control = off }) last last left refl refl refl refl
      made.1 in
      (ledger_of now first, ledger_of acted last, opened.0, made.0, shut.0)
