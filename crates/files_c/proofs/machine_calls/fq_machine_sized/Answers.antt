use Rattle.std.proofs.Common.{◌≡◌, ◌⊎◌, ◌<◌, inl, inr, ℕ, List, length, sym, ap, subst, arith, ◌∙◌}
use Rattle.machine.specs.Answer.{IsReportOf}
use Rattle.machine.specs.Fault.{IsMachineOutside}
use Rattle.files_c.specs.Machine.{IsMachineFault}
use Rattle.files_c.specs.declared.machine_calls.FqMachineRan.{FqMachineRan}
use Rattle.files_c.proofs.OutsideFacts.{memory-status, theirs}
use Rattle.files_c.proofs.machine_calls.fq_machine_sized.Goals as goal

pub returns-in-Ok-report_of-clause-written : goal.returns-in-Ok-report_of-clause-written
returns-in-Ok-report_of-clause-written c = λ ok.
    let whole = c.put_report.ensures.ok ok ∙ c.as_slice.ensures.value in (
      c.in-Ok.asked,
      c.in-Ok.ensures.settings,
      subst (λ (text : List ℕ). IsReportOf c.in-Ok.asked c.args.arrivals.now text) (sym whole) c.in-Ok-report_of.ensures.report,
    )

pub returns-in-Ok-report_of-clause-no_room : goal.returns-in-Ok-report_of-clause-no_room
returns-in-Ok-report_of-clause-no_room c = λ no.
    let short = c.put_report.ensures.no_room (λ ok. let both : 115 ≡ 0 = sym no ∙ ok in omega (arith, both)) in (
      c.in-Ok-report_of.text.items,
      (c.in-Ok.asked, c.in-Ok.ensures.settings, c.in-Ok-report_of.ensures.report),
      ap (λ (ran : FqMachineRan). ran.length) c.put_report.ensures.length ∙ ap (λ (text : List ℕ). length text) c.as_slice.ensures.value,
      subst (λ (text : List ℕ). length c.args.report.now < length text) c.as_slice.ensures.value short.1,
    )

pub returns-in-Err-report_of-clause-fault : goal.returns-in-Err-report_of-clause-fault
returns-in-Err-report_of-clause-fault c = λ bad.
    let reported = c.report_fault.ensures.reported bad in (
      c.in-Err-report_of.fault,
      (c.in-Ok.asked, c.in-Ok.ensures.settings, theirs c.in-Err-report_of.fault _ c.in-Err-report_of.ensures.fault reported.0),
      reported.1,
    )

pub returns-in-Err-report_of-clause-memory : goal.returns-in-Err-report_of-clause-memory
returns-in-Err-report_of-clause-memory c = λ ok room bad setting size.
    let un = c.report_fault.ensures.unreported bad in
    let fault = c.in-Err-report_of.fault in
    let is = c.in-Err-report_of.ensures.fault in
    let why : IsMachineOutside fault ⊎ IsMachineFault c.args.settings.now c.args.arrivals.now fault = elim is [
      | inl outside ↦ inl outside
      | inr reported ↦ inr (c.in-Ok.asked, c.in-Ok.ensures.settings, reported)
    ] in (
      un.0,
      elim un.2 [
        | inl status ↦ (fault, status, why)
        | inr memory ↦ (memory.0, memory-status memory.0 memory.1, inl (inl (inr memory.1)))
      ],
    )
