-- If an error's status is that of a bad trace, the bytes of the trace cause it.
use Rattle.std.proofs.Common.{◌≡◌, ◌≢◌, ◌⊎◌, inl, inr, refl, subst, arith}
use Rattle.device_rows.specs.declared.fault.TraceFault.{TraceFault}
use Rattle.text_io.specs.Outside.{IsOutside}
use Rattle.text_io.specs.declared.fault.ReplayFault.{ReplayFault}
use Rattle.text_io.specs.declared.fault.ReplayFault.TheVariants.{Trace, Pending, RingTooSmall, GateShut, OutputFailed, SpawnFailed}
use Rattle.device_rows.specs.declared.fault.TraceFault.TheVariants.{BadHeader, BadFields, BadNumber, BadEvent, OutOfRange, UnknownDevice}
use Rattle.device_rows.specs.declared.fault.TraceFault.TheVariants.{OpenTwice, WrongState, TooManyRows, ReadFailed, OutOfMemory}
use Rattle.files_c.specs.ReplayFaults.{fault_status, trace_c_status}

never : (fault : ReplayFault) → IsOutside fault → fault_status fault ≡ 120 → ⊥
never (Trace fault) (inl failed) bad =
    let read : 112 ≡ 120 = subst (λ (f : TraceFault). trace_c_status f ≡ 120) failed.0 bad in
    omega (arith, read)
never (Trace fault) (inr failed) bad =
    let memory : 112 ≡ 120 = subst (λ (f : TraceFault). trace_c_status f ≡ 120) failed.0 bad in
    omega (arith, memory)
never (Pending row) outside bad = outside
never (RingTooSmall device needs) outside bad = outside
never GateShut outside bad = outside
never OutputFailed outside bad = let output : 112 ≡ 120 = bad in omega (arith, output)
never SpawnFailed outside bad = outside

pub theirs : (fault : ReplayFault) (Is : Type 0) → IsOutside fault ⊎ Is → fault_status fault ≡ 120 → Is
theirs fault Is (inl outside) bad = absurd (never fault outside bad)
theirs fault Is (inr is) bad = is

trace-memory : (fault : TraceFault) → trace_c_status fault ≢ 120 → trace_c_status fault ≡ 112
trace-memory BadHeader other = absurd (other refl)
trace-memory (BadFields row) other = absurd (other refl)
trace-memory (BadNumber row) other = absurd (other refl)
trace-memory (BadEvent row) other = absurd (other refl)
trace-memory (OutOfRange row) other = absurd (other refl)
trace-memory (UnknownDevice row) other = absurd (other refl)
trace-memory (OpenTwice row) other = absurd (other refl)
trace-memory (WrongState row) other = absurd (other refl)
trace-memory TooManyRows other = absurd (other refl)
trace-memory ReadFailed other = refl
trace-memory OutOfMemory other = refl

-- any other status means that an allocation failed
pub else-memory : (fault : ReplayFault) → fault_status fault ≢ 120 → fault_status fault ≡ 112
else-memory (Trace fault) other = trace-memory fault other
else-memory (Pending row) other = absurd (other refl)
else-memory (RingTooSmall device needs) other = absurd (other refl)
else-memory GateShut other = absurd (other refl)
else-memory OutputFailed other = refl
else-memory SpawnFailed other = absurd (other refl)
