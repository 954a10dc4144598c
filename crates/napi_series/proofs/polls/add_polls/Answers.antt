use Rattle.std.proofs.Common.{◌≡◌, ◌∙◌, ◌+◌, ◌<◌, ◌++◌, ◌∷◌, [], List, None, ℕ, ap, append-nil, arith, get_or}
use Rattle.std.proofs.Common.{length, refl, string_bytes, subst}
use Rattle.std.proofs.{Common.{sym, take}, lemmas.List.{length-take, take_more}}
use Rattle.napi_series.specs.{RunList.IsListAfter, Series.{once_end, poll_lines}}
use Rattle.napi_series.proofs.RunListFacts.{fields-at, five-parts, line-next}
use Rattle.poll_runs.specs.declared.bench.{Next.TheVariants.Absent, Once.Once}
use Rattle.replay_rows.specs.{After.is_used_after, RunLog.{list_before, polls_of_row}, declared.run_log.RunPoll.RunPoll}
use Rattle.napi_series.proofs.polls.add_polls.Goals as goal

-- the poll that is returned for an index out of range
abbrev none : RunPoll
none = record { device = 0; once = record { work = 0; next = Absent }; counts = None }

pub loop-k-init : goal.loop-k-init
unfolding poll_lines
loop-k-init c = λ s rows after. (rw (sym (c.list_before.ensures s rows c.args.number after)) c.in_ok-list.ensures, sym (simp append-nil))

pub loop-k-preserved : goal.loop-k-preserved
loop-k-preserved c = λ s rows after.
    let n = c.args.number in
    let k = c.loop-k.k in
    let used = is_used_after rows n in
    let list = list_before s rows n in
    let polls = polls_of_row s rows n in
    let given = c.polls-poll-items.result.now in
    let same : given ≡ polls = c.polls-poll-items.ensures.polls s rows n after in
    let in_given : k < length given = omega arith in
    let below : k < length polls = subst (λ (l : List RunPoll). k < length l) same in_given in
    let so_far = c.loop-k.invariant s rows after in
    let here : get_or given k none ≡ get_or polls k none = ap (λ (l : List RunPoll). get_or l k none) same in
    let more : take (k + 1) polls ≡ take k polls ++ get_or polls k none ∷ [] = take_more polls k none below in
    let follows : IsListAfter list (take (k + 1) polls) c.hand_on.new.self =
    rw more
    (subst (λ (p : RunPoll). IsListAfter list (take k polls ++ p ∷ []) c.hand_on.new.self) here
    (c.in_ok-hand_on.ensures list (take k polls) so_far.0)) in
    let count : k + 1 ≡ length (take (k + 1) polls) = omega (arith, length-take (k + 1) polls) in (
      follows,
      rw (line-next n c.args.row.now used list polls k none below)
          (five-parts _ _ _ _ _ _ _ _ _ _ _ so_far.1
          (fields-at _ _ n (k + 1) c.args.row.now used _ _ _ here (c.uses_transmit.ensures s rows n after) c.in_ok-add_once.ensures)
          c.in_ok-push_str.ensures.bytes (c.in_ok-add.ensures list (take (k + 1) polls) follows count)
          (subst (λ (p : RunPoll). string_bytes c.add_once_end.new.text ≡ string_bytes c.add.new.text ++ once_end p) here
          c.in_ok-add_once_end.ensures)),
    )
