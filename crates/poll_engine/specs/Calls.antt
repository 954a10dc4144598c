-- The effect of acts on a worker's handles on its instance.
use Rattle.std.specs.Prelude.{◌≡◌, ◌⊎◌, ◌≤◌, ℕ, zero, suc, Bool, true, false, List, [], ◌∷◌, ◌++◌, length, if◌then◌else◌}
use Rattle.rx_ring.specs.{declared.ends.RxIn.RxIn, declared.packet.Packet.Packet, Ends.{SameIn, capacity_of, put_list}}
use Rattle.{napi_model.specs.declared.state.Seen.Seen, napi_word.specs.declared.table.Pass.Pass}
use Rattle.napi_calls.specs.{declared.answers.Sched.Sched, Calls.{Disables, Enables, Schedules}, Made.Made}
use Rattle.poll_engine.specs.{declared.acts.Act.Act, declared.acts.Act.TheVariants.{Arrive, Disable, Enable, SetThreaded, Nothing}}
use Rattle.poll_engine.specs.{declared.worker.WorkerHandles.WorkerHandles, declared.worker.ControllerState.ControllerState}
use Rattle.poll_engine.specs.{declared.worker.ControllerState.TheVariants.{On, Off}, Acts.after_acts, Handles.{is_on, pass_of}}
use Rattle.napi_model.specs.declared.state.Kind.TheVariants as kind
use Rattle.napi_model.specs.declared.event.Operation.TheVariants as operation
use Rattle.napi_calls.specs.declared.answers.Sched.TheVariants as sched

-- An instance that was granted is queued: for its own thread if it has one and the state word then shows THREADED, otherwise on
-- the list.
abbrev pub HandsOver : Bool → Pass → Pass → Type 0
HandsOver false p q = Made p (operation.Hand kind.List ∷ []) q
HandsOver true p q =
    (x : Seen) × (r : Pass) × Made p (operation.Look x ∷ []) r
    × Made r (operation.Hand (if x.flags.threaded then kind.Thread else kind.List) ∷ []) q

abbrev pub GoesOn : Bool → Sched → Pass → Type 0
GoesOn thread (sched.Granted granted) q = HandsOver thread granted.pass q
GoesOn thread (sched.Missed caller) q = q ≡ caller.pass
GoesOn thread (sched.Disabled caller) q = q ≡ caller.pass

-- an interrupt: requests a poll, and queues the instance if the request is granted
abbrev pub Interrupts : Bool → Pass → Pass → Type 0
Interrupts thread p q = (s : Sched) × Schedules p s × GoesOn thread s q

-- the packet is the last one that was put
abbrev pub IsPutLast : Packet → RxIn → Type 0
IsPutLast packet rx = (earlier : List Packet) × (put_list rx ≡ earlier ++ packet ∷ [])

-- A packet is put, and its interrupt requests a poll. A full ring drops the packet, and no poll is requested.
abbrev pub Arrives : Bool → Packet → Pass → Pass → RxIn → RxIn → Type 0
Arrives thread packet p q before after =
    ((put_list after ≡ put_list before ++ packet ∷ []) × Interrupts thread p q)
    ⊎ ((capacity_of before ≤ length (put_list before)) × (put_list after ≡ put_list before) × (q ≡ p))

-- the instance is enabled with this threaded setting, unless it is enabled already
abbrev pub TurnsOn : Bool → ControllerState → ControllerState → Type 0
TurnsOn threaded (On control) after = after ≡ On control
TurnsOn threaded (Off control) after = (is_on after ≡ true) × Enables threaded control.pass (pass_of after)

-- the instance is disabled, unless it is disabled already
abbrev pub TurnsOff : ControllerState → ControllerState → Type 0
TurnsOff (On control) after = (is_on after ≡ false) × Disables control.pass (pass_of after)
TurnsOff (Off control) after = after ≡ Off control

-- one act: its effect on the instance's callers and on the threaded setting
abbrev pub Acts : Bool → Act → WorkerHandles → WorkerHandles → RxIn → RxIn → Type 0
Acts thread (Arrive packet) a b before after =
    Arrives thread packet a.caller.pass b.caller.pass before after × (b.control ≡ a.control) × (b.threaded ≡ a.threaded)
Acts thread Disable a b before after =
    (b.caller ≡ a.caller) × TurnsOff a.control b.control × (b.threaded ≡ a.threaded) × (put_list after ≡ put_list before)
Acts thread Enable a b before after =
    (b.caller ≡ a.caller) × TurnsOn a.threaded a.control b.control × (b.threaded ≡ a.threaded) × (put_list after ≡ put_list before)
Acts thread (SetThreaded set) a b before after =
    Made a.caller.pass (operation.SetThreaded set ∷ []) b.caller.pass × (b.control ≡ a.control) × (b.threaded ≡ set)
    × (put_list after ≡ put_list before)
Acts thread Nothing a b before after = (b ≡ a) × (put_list after ≡ put_list before)

-- the effect of the first n acts, each made once and in order
abbrev pub AllActs : {D : Type 0} → Bool → (D → ℕ → Act) → (D → ℕ → D) → D → ℕ → WorkerHandles → WorkerHandles → RxIn → RxIn → Type 0
AllActs thread answer after d zero a b first last = (b ≡ a) × (last ≡ first)
AllActs thread answer after d (suc n) a b first last =
    (m : WorkerHandles) × (rx : RxIn) × AllActs thread answer after d n a m first rx × SameIn rx last
    × Acts thread (answer (after_acts after d n) n) m b rx last
