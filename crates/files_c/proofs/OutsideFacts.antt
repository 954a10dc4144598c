-- If an error's status is that of bad arrivals, the bytes of the arrivals cause it.
use Rattle.std.proofs.Common.{◌≡◌, ◌⊎◌, inl, inr, ap, subst, arith}
use Rattle.machine.specs.Fault.{IsMachineOutside, IsMachineOutOfMemory}
use Rattle.machine.specs.declared.fault.MachineFault.{MachineFault}
use Rattle.files_c.specs.MachineFaults.{machine_c_status}

never : (fault : MachineFault) → IsMachineOutside fault → machine_c_status fault ≡ 124 → ⊥
never fault (inl (inl failed)) bad =
    let read : 112 ≡ 124 = subst (λ (f : MachineFault). machine_c_status f ≡ 124) failed.0 bad in
    omega (arith, read)
never fault (inl (inr memory)) bad =
    let memory : 112 ≡ 124 = subst (λ (f : MachineFault). machine_c_status f ≡ 124) memory.0 bad in
    omega (arith, memory)
never fault (inr output) bad =
    let output : 112 ≡ 124 = subst (λ (f : MachineFault). machine_c_status f ≡ 124) output.0 bad in
    omega (arith, output)

pub theirs : (fault : MachineFault) (Is : Type 0) → IsMachineOutside fault ⊎ Is → machine_c_status fault ≡ 124 → Is
theirs fault Is (inl outside) bad = absurd (never fault outside bad)
theirs fault Is (inr is) bad = is

-- an error of an allocation has the status OUT_OF_MEMORY
pub memory-status : (fault : MachineFault) → IsMachineOutOfMemory fault → machine_c_status fault ≡ 112
memory-status fault memory = ap (λ (f : MachineFault). machine_c_status f) memory.0
