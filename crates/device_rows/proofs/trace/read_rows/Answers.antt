use Rattle.std.proofs.{Common.{◌≡◌, ◌∙◌, ◌-◌, length, ap, inr, refl, sym, true, false, rules, arith}, lemmas.Bool.{le-ltb, lt-ltb}}
use Rattle.std.{proofs.{Common.vec_items, lemmas.Result.err_from_is_err_and}, specs.Prelude.nat_lt}
use Rattle.csv.specs.{Records.fields_of, Reading.{default_config, reader_state, records_from}}
use Rattle.device_rows.{specs.Trace.rows_after, proofs.RowsFacts.{ends, goes-on, records-zero, rows-bad, rows-end, rows-good, rows-over}}
use Rattle.device_rows.proofs.trace.read_rows.Goals.{else-loop-before-test, then-loop-before-test+in-End}
use Rattle.device_rows.specs.declared.source.NextRecord.TheVariants as came
use Rattle.device_rows.proofs.trace.read_rows.Goals as goal

pub loop-before-init : goal.loop-before-init
loop-before-init g c = record {
  reader = c.requires.reader;
  so_far = c.requires.so_far;
  count = omega (arith, c.len-before.ensures, c.requires.so_far.filled);
  goes_on = λ bytes start. (bytes, start, refl);
}

pub returns-then-before-eq-MOST_ROWS-clause-fault : goal.returns-then-before-eq-MOST_ROWS-clause-fault
returns-then-before-eq-MOST_ROWS-clause-fault g c bytes start =
    let (left, at, so_far) = c.loop-before.invariant.goes_on bytes start in
    let found : c.next_record.result ≡ came.Record = search rules in
    let next = c.next_record.ensures.record found left at in
    let (rest, stands, one) =
    goes-on _ g.R.Read.remaining c.loop-before.reader c.next_record.new.reader
    (fields_of c.next_record.new.fields) (vec_items c.loop-before.rows) _ left c.loop-before.invariant.so_far.few next so_far in
    let full : nat_lt (length (vec_items c.loop-before.rows)) 100000 ≡ false = le-ltb _ _ (search rules) in
    inr (one ∙ rows-over _ _ _ _ full)

pub returns-in_err-add_row-clause-fault : goal.returns-in_err-add_row-clause-fault
returns-in_err-add_row-clause-fault g c =
    let p = err_from_is_err_and c.from_residual-in_err-add_row.result c.from_residual-in_err-add_row.ensures.1 in
    rw (p.1, p.2) (λ bytes start.
    let (left, at, so_far) = c.loop-before.invariant.goes_on bytes start in
    let found : c.next_record.result ≡ came.Record = search rules in
    let next = c.next_record.ensures.record found left at in
    let (rest, stands, one) =
    goes-on _ g.R.Read.remaining c.loop-before.reader c.next_record.new.reader
    (fields_of c.next_record.new.fields) (vec_items c.loop-before.rows) _ left c.loop-before.invariant.so_far.few next so_far in
    let room : nat_lt (length (vec_items c.loop-before.rows)) 100000 ≡ true = lt-ltb _ _ (search rules) in
    inr (one ∙ rows-bad _ _ _ _ _ room c.in_err-add_row.ensures))

pub loop-before-preserved : goal.loop-before-preserved
loop-before-preserved g c =
    let found : c.next_record.result ≡ came.Record = search rules in
    record {
      reader = c.next_record.ensures.opened found;
      so_far = c.in_ok-add_row.ensures.so_far;
      count = omega (arith, c.in_ok-add_row.ensures.count, c.loop-before.invariant.count);
      goes_on = λ bytes start.
          let (left, at, so_far) = c.loop-before.invariant.goes_on bytes start in
          let next = c.next_record.ensures.record found left at in
          let (rs, stands, one) =
          goes-on _ g.R.Read.remaining c.loop-before.reader c.next_record.new.reader
          (fields_of c.next_record.new.fields) (vec_items c.loop-before.rows) _ left c.loop-before.invariant.so_far.few next so_far in
          let room : nat_lt (length (vec_items c.loop-before.rows)) 100000 ≡ true = lt-ltb _ _ (search rules) in (
            rs,
            stands,
            one ∙ rows-good _ _ _ _ _ room c.in_ok-add_row.ensures.rows
                ∙ ap (λ n. rows_after c.args.version (vec_items c.add_row.new.rows)
                (records_from default_config (100001 - n) (reader_state c.next_record.new.reader) rs)) (sym c.in_ok-add_row.ensures.count),
          );
    }

pub returns-clause-rows : goal.returns-clause-rows
returns-clause-rows g c bytes start =
    let (left, at, so_far) = c.loop-before.invariant.goes_on bytes start in
    elim c.loop-before-test.branch [
      | else-loop-before-test w ↦ so_far ∙ ap (rows_after c.args.version (vec_items c.loop-before.rows))
          (records-zero (100001 - length (vec_items c.loop-before.rows)) (reader_state c.loop-before.reader) left (search rules))
          ∙ rows-end _ _
      | then-loop-before-test+in-End w ↦
          let ended : w.next_record.result ≡ came.End = search rules in
          let next = w.next_record.ensures.end ended left at in
          ends _ g.R.Read.remaining c.loop-before.reader w.next_record.new.reader
          (fields_of w.next_record.new.fields) (vec_items c.loop-before.rows) _ left c.loop-before.invariant.so_far.few next so_far
    ]
