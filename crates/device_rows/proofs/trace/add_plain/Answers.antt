use Rattle.std.proofs.Common.{◌≡◌, ◌∙◌, ◌+◌, ◌<◌, [], ◌∷◌, ◌++◌, Ok, length, vec_items, refl, sym, ap, arith, append_assoc}
use Rattle.csv.specs.declared.parser.State.TheVariants as state
use Rattle.device_rows.specs.{Adding.rows_with, Trace.{with_row}}
use Rattle.device_rows.proofs.{Accepted.so_far-push, RowsFacts.{with-next, with_row-good}}
use Rattle.device_rows.proofs.trace.add_plain.Goals as goal

pub loop-before-init : goal.loop-before-init
loop-before-init c = record {
  so_far = c.requires;
  count = omega (arith, c.len-before.ensures, c.requires.filled);
  behind = ([], refl);
  same = λ more. refl;
}

pub push_reserved-requires : goal.push_reserved-requires
push_reserved-requires c =
    omega (
      arith,
      c.loop-before-test.true,
      c.loop-before.invariant.count,
      c.loop-before.invariant.so_far.filled,
      c.loop-before.invariant.so_far.room,
    )

pub loop-before-preserved : goal.loop-before-preserved
loop-before-preserved c =
    let so_far = c.loop-before.invariant.so_far in
    let below : length (vec_items c.loop-before.rows) < 100000 = omega (arith, c.loop-before-test.true, c.loop-before.invariant.count) in
    let number : c.loop-before.before + 1 ≡ length (vec_items c.loop-before.rows) + 1 = omega (arith, c.loop-before.invariant.count) in
    let next = c.accept.ensures.accepted c.if-not-accept.false (vec_items c.loop-before.rows) so_far.tracks number in
    let tracks = c.accept.ensures.tracks c.if-not-accept.false (vec_items c.loop-before.rows) so_far.tracks in
    let starts = c.in-Some.ensures in
    let told = starts.tells next.device next.value (length (vec_items c.loop-before.rows) + 1) in
    let one : with_row c.args.version (vec_items c.loop-before.rows) starts.fields
    ≡ Ok (vec_items c.loop-before.rows ++ c.in-Some.row ∷ []) =
    with_row-good c.args.version (vec_items c.loop-before.rows) starts.fields c.in-Some.row (sym told) next.in_turn in
    let pushed =
    so_far-push c.loop-before.switches.of c.accept.new.self.of c.loop-before.rows c.push_reserved.new.self c.in-Some.row so_far below
    c.push_reserved.ensures.items c.push_reserved.ensures.len c.push_reserved.ensures.capacity tracks next in
    let (used, splits) = c.loop-before.invariant.behind in
    record {
      so_far = pushed;
      count = omega (arith, c.push_reserved.ensures.len, pushed.filled, so_far.filled, c.loop-before.invariant.count);
      behind = (
        used ++ starts.starts.used,
        splits ∙ ap (λ t. used ++ t) starts.starts.splits ∙ sym (append_assoc used starts.starts.used c.in-Some.behind.now),
      );
      same = λ more. c.loop-before.invariant.same more
          ∙ with-next c.args.version (vec_items c.loop-before.rows) c.in-Some.row starts.fields state.StartRecord state.StartRecord
          (c.loop-before.left.now ++ more) (c.in-Some.behind.now ++ more) below (starts.starts.reads more) one
          ∙ ap (λ r. rows_with c.args.version r state.StartRecord (c.in-Some.behind.now ++ more)) (sym c.push_reserved.ensures.items);
    }

pub returns-then-not-accept-clause-so_far : goal.returns-then-not-accept-clause-so_far
returns-then-not-accept-clause-so_far c = rw (c.accept.ensures.kept c.if-not-accept.true) c.loop-before.invariant.so_far
