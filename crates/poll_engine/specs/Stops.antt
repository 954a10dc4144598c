-- Why a thread's work ended early, or a run failed; and when a thread saw that the run goes on.
use Rattle.std.specs.Prelude.{◌≡◌, ℕ, Bool, false}
use Rattle.poll_engine.specs.{WorkFaults.IsWantOfMemory, Refusals.IsRefused, declared.fault.WorkFault.WorkFault}
use Rattle.poll_engine.specs.declared.setup.context.RunContext.{RunContext}
use Rattle.poll_engine.specs.declared.fault.WorkFault.TheVariants.{OutOfMemory, GateShut, SpawnFailed}

-- an allocation failed, or a thread could not be started, or the gate returned false, which implies the given property of the
-- gate
abbrev pub IsStop : Type 0 → WorkFault → Type 0
IsStop may_shut OutOfMemory = IsWantOfMemory
IsStop may_shut GateShut = may_shut
IsStop may_shut SpawnFailed = IsRefused

-- A thread in this state saw that the run isn't stopped: that no thread was refused, and that the gate hasn't returned false. Only the
-- two loads of `RunContext::stop` prove it.
pub WasGoing : {R G A : Type 0} → RunContext R G → A → Type 0
WasGoing context at = Unit {0}

pub was_going : {R G A : Type 0} (context : RunContext R G) (at : A) {refused : Bool} {shut : ℕ} → refused ≡ false → shut ≡ 0
    → WasGoing context at
unfolding WasGoing
was_going context at none unshut = tt
