use Rattle.std.proofs.Common.{◌≡◌, ◌∙◌, ◌++◌, ◌-◌, ℕ, List, length, take, drop, sym, ap, append_assoc, take-append-drop, rules, arith}
use Rattle.std.proofs.lemmas.List.{take_rest}
use Rattle.text_io.specs.Stops.{stopped_at_last, stopped_at_none, stopped_by}
use Rattle.text_io.proofs.OutFacts.{cut_behind, none_more, then_kept, then_more}
use Rattle.text_io.proofs.lines.write_out.Goals.{in-Err, in-Ok+else-count-eq0}
use Rattle.text_io.proofs.lines.write_out.Goals as goal

moves_front : (all done rest : List ℕ) (n : ℕ) → all ≡ done ++ rest → all ≡ (done ++ take n rest) ++ take (length rest - n) (drop n rest)
moves_front all done rest n e =
    e ∙ ap (λ l. done ++ l) (sym (take-append-drop n rest)) ∙ sym (append_assoc done (take n rest) (drop n rest))
    ∙ ap (λ l. (done ++ take n rest) ++ l) (sym (take_rest rest n))

pub returns-then-count-eq0-clause-cut : goal.returns-then-count-eq0-clause-cut
returns-then-count-eq0-clause-cut g c =
    let (done, split, appended) = c.loop.invariant in
    λ e. cut_behind _ _ _ done c.loop.rest.now split (search rules)
    (none_more _ _ _ done c.loop.rest.now c.in-Ok.count (omega arith) appended c.in-Ok.ensures.bytes)

pub returns-in-Err-2-clause-cut : goal.returns-in-Err-2-clause-cut
returns-in-Err-2-clause-cut g c =
    let (done, split, appended) = c.loop.invariant in
    λ e. cut_behind _ _ _ done c.loop.rest.now split (search rules) (then_kept _ _ _ done appended c.in-Err-2.ensures.bytes)

pub loop-preserved : goal.loop-preserved
loop-preserved g c =
    let (done, split, appended) = c.loop.invariant in
    let rest = c.loop.rest.now in
    elim c.match-write.branch [
      | in-Ok+else-count-eq0 w ↦
          let n = w.in-Ok.count in
          rw w.rest-is (done ++ take n rest, moves_front _ done rest n split, then_more _ _ _ _ _ appended w.in-Ok.ensures.bytes)
      | in-Err w ↦ rw w.rest-is (done, split, then_kept _ _ _ done appended w.in-Err.ensures.bytes)
    ]

pub returns-clause-cut : goal.returns-clause-cut
returns-clause-cut g c =
    let (done, split, appended) = c.loop.invariant in
    λ e. cut_behind _ _ _ done c.loop.rest.now split (search rules) appended

pub returns-then-count-eq0-clause-stopped : goal.returns-then-count-eq0-clause-stopped
returns-then-count-eq0-clause-stopped g c = λ _. stopped_at_none c.in-Ok.count (omega arith)

pub returns-in-Err-2-clause-stopped : goal.returns-in-Err-2-clause-stopped
returns-in-Err-2-clause-stopped g c = λ _. stopped_by c.in-Err.error (search rules)

pub returns-clause-stopped : goal.returns-clause-stopped
returns-clause-stopped g c = λ _. stopped_at_last c.loop.counter (omega arith)
