use Rattle.std.proofs.{Common.{◌≡◌, ◌∙◌, [], ap, length, vec_items, rules, arith}, lemmas.Grind.common_steps, lemmas.List.nil_from_length}
use Rattle.std.proofs.lemmas.Slice.Zip.{AllZip-long}
use Rattle.poll_engine.proofs.{ListFacts.zip_same, RunFacts.{all_finished, all_polled, none_polled}}
use Rattle.poll_engine.proofs.run.run_all.Goals as goal

pub returns-then-count-eq0-clause-polled : goal.returns-then-count-eq0-clause-polled
returns-then-count-eq0-clause-polled g c =
    let none : vec_items c.args.stations ≡ [] = nil_from_length _ (grind (arith, common_steps)) in
    let empty : vec_items c.new.result ≡ [] = search rules in
    rw (none, empty) (none_polled _ _ _ _ _ _ _)

pub end_all-requires-clause-parts : goal.end_all-requires-clause-parts
end_all-requires-clause-parts g c = zip_same _ _ _ _ (λ l p h. h.part) c.in-Err.ensures.sides

pub run_threads-ran-requires-clause-parts : goal.run_threads-ran-requires-clause-parts
run_threads-ran-requires-clause-parts g c κs within =
    rw c.as_slice-here.ensures.value (zip_same _ _ _ _ (λ l p h. h.part) c.in_default.ensures.sides)

pub end_all-finished-requires-clause-room : goal.end_all-finished-requires-clause-room
end_all-finished-requires-clause-room g c =
    let opened = AllZip-long _ _ _ c.in_default.ensures.sides in
    let parts = AllZip-long _ _ _ c.run_threads-ran.ensures.parts in
    let same = ap (λ l. length l) c.as_slice-here.ensures.value in (
      c.in_ok-finished.ensures.len,
      grind (arith, common_steps, opened, parts, same, c.in_default.ensures.few, c.len-count.ensures, c.in_ok-finished.ensures.exact),
    )

pub returns-in-Ok-clause-finished : goal.returns-in-Ok-clause-finished
returns-in-Ok-clause-finished g c =
    all_finished _ _ _ _ _ _ _ _ _ c.in_default.ensures.loose c.in-Ok.ensures.ran _ c.end_all-finished.ensures

pub returns-in-Ok-clause-polled : goal.returns-in-Ok-clause-polled
returns-in-Ok-clause-polled g c =
    let same : length c.as_slice.result.now ≡ c.args.pollers = ap (λ l. length l) c.as_slice.ensures.value ∙ c.in_ok-wakers.ensures.len in
    rw same at (all_polled _ _ _ _ _ _ _ _ _ c.in_default.ensures.loose c.in-Ok.ensures.ran _ c.end_all-finished.ensures)
