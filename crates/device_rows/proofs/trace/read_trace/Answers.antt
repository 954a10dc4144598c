use Rattle.std.proofs.{Common.{◌∙◌, ◌-◌, length, refl, sym, ap, arith}, lemmas.Result.{IfErr-weaker, IfOk-weaker}}
use Rattle.{csv.specs.Reading.strip_bom, device_rows.proofs.{BlockFacts.titles-used, DecidingFacts.{asked-decide, asked-version}}}
use Rattle.device_rows.proofs.RowsFacts.{first-version, trace-rows}
use Rattle.device_rows.proofs.trace.read_trace.Goals as goal

pub returns-in_default-clause-rows : goal.returns-in_default-clause-rows
returns-in_default-clause-rows g c =
    IfOk-weaker c.record_trace.result _ _ (λ trace told bytes known.
    let start = c.records.ensures.start bytes (c.in_ok-fill_line.ensures.holds bytes (c.new-block.ensures bytes known)) in
    asked-decide 100002 _ bytes (omega arith) c.records.ensures.state ∙ told (strip_bom bytes) start) c.record_trace.ensures.rows

pub returns-in_default-clause-version : goal.returns-in_default-clause-version
returns-in_default-clause-version g c =
    IfOk-weaker c.record_trace.result _ _ (λ trace told bytes known.
    let start = c.records.ensures.start bytes (c.in_ok-fill_line.ensures.holds bytes (c.new-block.ensures bytes known)) in
    told (strip_bom bytes) start ∙ sym (asked-version 100002 _ bytes (omega arith) c.records.ensures.state)) c.record_trace.ensures.version

pub returns-in_default-clause-fault : goal.returns-in_default-clause-fault
returns-in_default-clause-fault g c =
    IfErr-weaker c.record_trace.result _ _ (λ fault told bytes known.
    let start = c.records.ensures.start bytes (c.in_ok-fill_line.ensures.holds bytes (c.new-block.ensures bytes known)) in
    rw (asked-decide 100002 _ bytes (omega arith) c.records.ensures.state) (told (strip_bom bytes) start)) c.record_trace.ensures.fault

pub returns-clause-rows : goal.returns-clause-rows
returns-clause-rows g c =
    IfOk-weaker c.plain_trace.result _ _ (λ trace told bytes known.
    let holds = c.in_ok-fill_line.ensures.holds bytes (c.new-block.ensures bytes known) in
    let size = ap (λ t. length t - length c.in-Some.left.now) (c.text-2.ensures ∙ sym c.text.ensures) in
    let titles = c.in-Some.ensures.titles in
    let (left, stands, one) =
    titles-used g.R.Read.remaining c.fill_line.new.self c.advance.new.self c.text.result.now c.in-Some.left.now bytes _ c.in-Some.version
    c.text.ensures titles size c.advance.ensures.unread c.advance.ensures.source holds in
    asked-decide 100002 _ bytes (omega arith) refl ∙ trace-rows _ _ _ _ one titles.tells ∙ told left stands) c.plain_trace.ensures.rows

pub returns-clause-version : goal.returns-clause-version
returns-clause-version g c =
    IfOk-weaker c.plain_trace.result _ _ (λ trace told bytes known.
    let holds = c.in_ok-fill_line.ensures.holds bytes (c.new-block.ensures bytes known) in
    let size = ap (λ t. length t - length c.in-Some.left.now) (c.text-2.ensures ∙ sym c.text.ensures) in
    let titles = c.in-Some.ensures.titles in
    let (left, stands, one) =
    titles-used g.R.Read.remaining c.fill_line.new.self c.advance.new.self c.text.result.now c.in-Some.left.now bytes _ c.in-Some.version
    c.text.ensures titles size c.advance.ensures.unread c.advance.ensures.source holds in
    told ∙ sym (asked-version 100002 _ bytes (omega arith) refl ∙ first-version _ _ _ _ one titles.tells)) c.plain_trace.ensures.version

pub returns-clause-fault : goal.returns-clause-fault
returns-clause-fault g c =
    IfErr-weaker c.plain_trace.result _ _ (λ fault told bytes known.
    let holds = c.in_ok-fill_line.ensures.holds bytes (c.new-block.ensures bytes known) in
    let size = ap (λ t. length t - length c.in-Some.left.now) (c.text-2.ensures ∙ sym c.text.ensures) in
    let titles = c.in-Some.ensures.titles in
    let (left, stands, one) =
    titles-used g.R.Read.remaining c.fill_line.new.self c.advance.new.self c.text.result.now c.in-Some.left.now bytes _ c.in-Some.version
    c.text.ensures titles size c.advance.ensures.unread c.advance.ensures.source holds in
    rw (asked-decide 100002 _ bytes (omega arith) refl ∙ trace-rows _ _ _ _ one titles.tells) (told left stands))
    c.plain_trace.ensures.fault
