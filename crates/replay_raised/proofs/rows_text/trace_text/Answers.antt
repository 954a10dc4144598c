use Rattle.std.proofs.Common.{◌≡◌, ◌+◌, ◌-◌, drop, refl, arith, append-nil, append_assoc, take_all, length-drop}
use Rattle.std.proofs.Math.Seq.{take-add}
use Rattle.std.proofs.lemmas.List.{drop_all, Concat.flat_map-append}
use Rattle.replay_raised.proofs.rows_text.trace_text.Goals as goal

pub loop-done-preserved : goal.loop-done-preserved
loop-done-preserved c =
    let l = c.loop-done in
    let w = c.write_rows-at in
    let rows = c.args.rows.now in
    let count : l.done + c.min.result - l.done ≡ c.min.result = omega arith in
    let all = take_all (1664 - w.result) (drop w.result w.new.buf) (omega (arith, length-drop w.result w.new.buf)) in (
      omega arith,
      rw (take-add l.done c.min.result rows, flat_map-append _ _ _, c.in_ok-extend_from_slice-2.ensures.items, all, w.ensures.written)
          (rw (drop_all 1664 l.lines (omega arith), append-nil, l.invariant.1, append_assoc, count) refl),
    )
