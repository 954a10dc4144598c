use Rattle.std.proofs.{Common.{◌∙◌, ◌-◌, length, sym, ap}, lemmas.Result.{IfErr-weaker, IfOk-weaker}}
use Rattle.csv.specs.Reading.{strip_bom}
use Rattle.machine.proofs.ReadingFacts.{all-in, behind-header}
use Rattle.machine.proofs.arrivals.rows_of.Goals as goal

pub returns-in_default-clause-title : goal.returns-in_default-clause-title
returns-in_default-clause-title g c =
    IfOk-weaker c.titled.result _ _ (λ rows told bytes known.
    let start = c.records.ensures.start bytes (c.in_ok-fill_line.ensures.holds bytes (c.new-block.ensures bytes known)) in
    rw (all-in bytes) (told (strip_bom bytes) start)) c.titled.ensures.title

pub returns-in_default-clause-fault : goal.returns-in_default-clause-fault
returns-in_default-clause-fault g c =
    IfErr-weaker c.titled.result _ _ (λ fault told bytes known.
    let start = c.records.ensures.start bytes (c.in_ok-fill_line.ensures.holds bytes (c.new-block.ensures bytes known)) in
    rw (all-in bytes) (told (strip_bom bytes) start)) c.titled.ensures.fault

pub returns-clause-title : goal.returns-clause-title
returns-clause-title g c bytes known =
    let holds = c.in_ok-fill_line.ensures.holds bytes (c.new-block.ensures bytes known) in
    let size = ap (λ t. length t - length c.in-Some.rest.now) (c.text-2.ensures ∙ sym c.text.ensures) in
    behind-header g.R.Read.remaining c.fill_line.new.self c.advance.new.self c.args.settings.now c.text.result.now c.in-Some.rest.now
    bytes _ c.text.ensures c.in-Some.ensures size c.advance.ensures.unread c.advance.ensures.source holds
