use Rattle.std.proofs.lemmas.{Grind.common_steps, List.get_or_append_left}
use Rattle.std.proofs.lemmas.Option.{get_or_from_slice_get, slice_get-get_or, slice_get_within}
use Rattle.std.specs.List.{slice_get}
use Rattle.std.proofs.Common.{◌≡◌, ◌≢◌, ◌<◌, ◌++◌, ◌∙◌, ap, ℕ, List, Some, length, arith, rules, get_or-set_other, get_or-set_same}
use Rattle.std.proofs.Common.{below_more}
use Rattle.napi_c.proofs.shared.give_callers.Goals.{in-Some+then-give_caller, in-Some+else-give_caller, in-None}
use Rattle.napi_c.proofs.shared.give_callers.Goals as goal

in_front : {A : Type 0} (P : A → Type 0) (xs ys : List A) → ((k : ℕ) (x : A) → slice_get (xs ++ ys) k ≡ Some x → P x)
    → (k : ℕ) (x : A) → slice_get xs k ≡ Some x → P x
in_front P xs ys all k x at =
    let below = slice_get_within xs k x at in
    let within : k < length (xs ++ ys) = grind (arith, common_steps) in
    all k x
    (slice_get-get_or (xs ++ ys) k x within ∙ ap Some (get_or_append_left xs ys x k below ∙ get_or_from_slice_get xs k x x at))

pub loop-handle-preserved : goal.loop-handle-preserved
loop-handle-preserved c =
    record {
      callers = in_front _ _ _ (rw c.pop.ensures.items at c.loop-handle.invariant.callers);
      new = in_front _ _ _ (rw c.pop.ensures.items at c.loop-handle.invariant.new);
      given = elim c.match-pop.branch [
        | in-Some+then-give_caller w ↦
            λ all. rw w.handles-is
            (below_more _ _
            (λ k h d. let ne : k ≢ c.loop-handle.handle-index = omega arith in
            rw get_or-set_other (c.loop-handle.invariant.given (search rules) k h d))
            (λ d. let lt : c.loop-handle.handle-index < length c.loop-handle.handles = omega arith in
            rw get_or-set_same (w.give_caller.ensures (search rules))))
        | in-Some+else-give_caller w ↦ λ all. absurd (search rules)
        | in-None w ↦ λ all. absurd (search rules)
      ];
    }
