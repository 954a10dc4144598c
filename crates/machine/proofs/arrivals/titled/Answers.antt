use Rattle.std.proofs.Common.{◌≡◌, inr, refl, rules, true, false}
use Rattle.csv.specs.{Records.fields_of, Reading.reader_state}
use Rattle.device_rows.specs.{Block.left_remaining, declared.source.NextRecord.NextRecord}
use Rattle.machine.specs.Arrivals.{arrival_fields, is_arrivals_title}
use Rattle.machine.proofs.ReadingFacts.{behind-title, refused-start, refused-title}
use Rattle.machine.proofs.arrivals.titled.Goals as goal

pub returns-in-End-clause-fault : goal.returns-in-End-clause-fault
returns-in-End-clause-fault g c bytes stands =
    let ended : c.next_record.result ≡ NextRecord.End = search rules in
    inr (refused-start (left_remaining g.R.Read.remaining) c.args.reader c.next_record.new.reader (fields_of c.next_record.new.fields)
    c.args.settings.now bytes c.requires.state (c.next_record.ensures.end ended bytes stands))

pub returns-then-not-is_title-clause-fault : goal.returns-then-not-is_title-clause-fault
returns-then-not-is_title-clause-fault g c bytes stands =
    let found : c.next_record.result ≡ NextRecord.Record = search rules in
    let queues = c.args.settings.now.queues in
    let other : is_arrivals_title queues (arrival_fields queues (fields_of c.next_record.new.fields)) ≡ false = search rules in
    inr (refused-title (left_remaining g.R.Read.remaining) c.args.reader c.next_record.new.reader (fields_of c.next_record.new.fields)
    c.args.settings.now bytes c.requires.state (c.next_record.ensures.record found bytes stands) other)

pub returns-clause-title : goal.returns-clause-title
returns-clause-title g c bytes stands =
    let found : c.next_record.result ≡ NextRecord.Record = search rules in
    let queues = c.args.settings.now.queues in
    let titled : is_arrivals_title queues (arrival_fields queues (fields_of c.next_record.new.fields)) ≡ true = search rules in
    let (rest, left, between, gives) =
    behind-title (left_remaining g.R.Read.remaining) c.args.reader c.next_record.new.reader (fields_of c.next_record.new.fields)
    c.args.settings.now bytes c.requires.state (c.next_record.ensures.record found bytes stands) titled in
    record {
      state = reader_state c.next_record.new.reader;
      left = rest;
      stands = (refl, left);
      between = between;
      gives = gives;
    }
