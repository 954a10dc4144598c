use Rattle.std.proofs.{Common.{◌≡◌, inr, rules, sym}, lemmas.Result.err_from_is_err_and}
use Rattle.csv.specs.Records.{fields_of}
use Rattle.{device_rows.specs.declared.source.NextRecord.NextRecord}
use Rattle.machine.proofs.ReadingFacts.{given-end, given-fault, given-next}
use Rattle.machine.specs.declared.arrivals.ArrivalRows.{ArrivalRows}
use Rattle.machine.proofs.arrivals.Arrivals.record.Goals as goal

pub returns-in-End-clause-arrival : goal.returns-in-End-clause-arrival
returns-in-End-clause-arrival g c earlier all given =
    let ended : c.next_record.result ≡ NextRecord.End = search rules in
    given-end g.R.Read.remaining c.args.self.now earlier all given c.in-Records.reader c.next_record.new.reader
    (fields_of c.next_record.new.fields) c.in-Records.is (c.next_record.ensures.end ended)

pub returns-in_err-arrival-clause-fault : goal.returns-in_err-arrival-clause-fault
returns-in_err-arrival-clause-fault g c =
    let p = err_from_is_err_and c.from_residual.result c.from_residual.ensures.1 in
    let found : c.next_record.result ≡ NextRecord.Record = search rules in
    rw (p.1, p.2)
    (λ earlier all given. inr
    (given-fault g.R.Read.remaining c.args.self.now earlier all given c.in-Records.reader c.next_record.new.reader
    (fields_of c.next_record.new.fields) c.in-Records.is c.args.row c.in_err-arrival.field-0.0 (c.next_record.ensures.record found)
    c.requires.row (sym c.in_err-arrival.ensures.arrival)))

pub returns-clause-arrival : goal.returns-clause-arrival
returns-clause-arrival g c earlier all given =
    let found : c.next_record.result ≡ NextRecord.Record = search rules in
    let is : c.count.new.self.source ≡ ArrivalRows.Records c.next_record.new.reader = search rules in
    let settings : c.count.new.self.settings ≡ c.args.self.now.settings = search rules in
    let rows : c.count.new.self.rows ≡ c.args.row = search rules in
    let last : c.count.new.self.last ≡ c.in_ok-arrival.arrival.moment = search rules in
    given-next g.R.Read.remaining c.args.self.now earlier all given c.in-Records.reader c.next_record.new.reader
    (fields_of c.next_record.new.fields) c.in-Records.is c.count.new.self c.args.row c.in_ok-arrival.arrival
    (c.next_record.ensures.record found) is settings c.requires.row rows last (sym c.in_ok-arrival.ensures.arrival)
