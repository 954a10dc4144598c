use Rattle.std.proofs.{Common.{◌≡◌, ◌∙◌, refl, inr, sym, Some, None, rules}, lemmas.Result.{IfErr-weaker, IfOk-weaker}}
use Rattle.{csv.specs.Records.fields_of, device_rows.specs.{Record.version_of, declared.source.NextRecord.NextRecord}}
use Rattle.device_rows.proofs.RowsFacts.{first-version, records-more, records-none, trace-none, trace-other, trace-rows}
use Rattle.device_rows.proofs.trace.record_trace.Goals as goal

pub returns-in-End-clause-fault : goal.returns-in-End-clause-fault
returns-in-End-clause-fault g c bytes start =
    let ended : c.next_record.result ≡ NextRecord.End = search rules in
    let next = c.next_record.ensures.end ended bytes start in
    inr (trace-none _ (records-none g.R.Read.remaining c.args.reader.now c.next_record.new.reader (fields_of c.next_record.new.fields)
    100002 100001 bytes refl next))

pub returns-in_default-clause-fault : goal.returns-in_default-clause-fault
returns-in_default-clause-fault g c bytes start =
    let found : c.next_record.result ≡ NextRecord.Record = search rules in
    let next = c.next_record.ensures.record found bytes start in
    let (rest, stands, one) =
    records-more g.R.Read.remaining c.args.reader.now c.next_record.new.reader (fields_of c.next_record.new.fields) 100002 100001
    bytes refl next in
    let other : version_of (fields_of c.next_record.new.fields) ≡ None = search rules in
    inr (trace-other _ _ _ one other)

pub returns-clause-rows : goal.returns-clause-rows
returns-clause-rows g c =
    IfOk-weaker c.read_rows.result _ _ (λ trace told bytes start.
    let found : c.next_record.result ≡ NextRecord.Record = search rules in
    let next = c.next_record.ensures.record found bytes start in
    let (rest, stands, one) =
    records-more g.R.Read.remaining c.args.reader.now c.next_record.new.reader (fields_of c.next_record.new.fields) 100002 100001
    bytes refl next in
    let same : version_of (fields_of c.next_record.new.fields) ≡ Some c.in-Some.version = search rules in
    let all = rw c.in_ok-rows.ensures.items at (told rest stands) in
    trace-rows _ _ _ _ one same ∙ all) c.read_rows.ensures.rows

pub returns-clause-version : goal.returns-clause-version
returns-clause-version g c =
    IfOk-weaker c.read_rows.result _ _ (λ trace told bytes start.
    let found : c.next_record.result ≡ NextRecord.Record = search rules in
    let next = c.next_record.ensures.record found bytes start in
    let (rest, stands, one) =
    records-more g.R.Read.remaining c.args.reader.now c.next_record.new.reader (fields_of c.next_record.new.fields) 100002 100001
    bytes refl next in
    let same : version_of (fields_of c.next_record.new.fields) ≡ Some c.in-Some.version = search rules in
    told ∙ sym (first-version _ _ _ _ one same)) c.read_rows.ensures.version

pub returns-clause-fault : goal.returns-clause-fault
returns-clause-fault g c =
    IfErr-weaker c.read_rows.result _ _ (λ fault told bytes start.
    let found : c.next_record.result ≡ NextRecord.Record = search rules in
    let next = c.next_record.ensures.record found bytes start in
    let (rest, stands, one) =
    records-more g.R.Read.remaining c.args.reader.now c.next_record.new.reader (fields_of c.next_record.new.fields) 100002 100001
    bytes refl next in
    let same : version_of (fields_of c.next_record.new.fields) ≡ Some c.in-Some.version = search rules in
    let all = rw c.in_ok-rows.ensures.items at (told rest stands) in
    rw (trace-rows _ _ _ _ one same) all) c.read_rows.ensures.fault
