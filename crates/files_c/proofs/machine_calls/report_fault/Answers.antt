use Rattle.std.proofs.Common.{rules, ◌≡◌, ◌++◌, ◌<◌, ◌^◌, ℕ, List, codes, length, take, drop, replicate, ap, subst, arith, ◌∙◌}
use Rattle.std.proofs.lemmas.List.{length-replicate}
use Rattle.machine.specs.Fault.{machine_fault_line}
use Rattle.files_c.specs.MachineFaults.{machine_fault_row}
use Rattle.files_c.proofs.MessageFacts.{fits, without-feed, copied}
use Rattle.files_c.proofs.machine_calls.report_fault.Goals as goal

pub returns-in-Ok-clause-reported : goal.returns-in-Ok-clause-reported
returns-in-Ok-clause-reported c = λ _.
    let text = machine_fault_line c.args.fault.now in
    let zeros = c.none.result.message in
    let message = c.put_message.new.message in
    let line : c.as_bytes-line.result.now ≡ text ++ codes "\n" = search rules in
    let whole = without-feed text c.as_bytes-line.result.now line in
    let are : zeros ≡ replicate 64 0 = c.none.ensures.message in
    let small : machine_fault_row c.args.fault.now < 2 ^ 64 = search rules in
    let room : length text < length zeros = omega (arith, fits c.args.fault.now small, ap length are, length-replicate {A = ℕ} 64 0) in
    let front : take (length text) message ≡ text =
    subst (λ (t : List ℕ). length t < length zeros → take (length t) message ≡ t) whole c.put_message.ensures.text room in
    let rest : drop (length text) message ≡ drop (length text) zeros =
    subst (λ (t : List ℕ). drop (length t) message ≡ drop (length t) zeros) whole c.put_message.ensures.rest in
    let holds = copied text message front (rest ∙ ap (λ (l : List ℕ). drop (length text) l) are) in
    (search rules, record { number = search rules; row = search rules; length = search rules; message = holds }, search rules)
