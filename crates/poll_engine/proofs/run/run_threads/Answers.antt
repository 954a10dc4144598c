use Rattle.std.proofs.{Common.{◌≡◌, ◌≤◌, ◌∙◌, ℕ, ap, map, subst, sym, vec_items, vec_len, arith}, lemmas.Grind.common_steps}
use Rattle.std.proofs.{lemmas.List.Elements.All-from_recursion, lemmas.Result.on_ok_weaker, lemmas.Slice.Zip.AllZip-long}
use Rattle.{poll_engine.specs.{Tasks.EachAt, Outcomes.AreSeatsAt}, poll_engine.proofs.ListFacts.zip_each}
use Rattle.poll_engine.proofs.RunFacts.{all_back_at, all_have_polled, all_parts, all_seats_at, all_threads_with, all_turned, all_worked}
use Rattle.poll_engine.proofs.RunFacts.{ends_of_lists}
use Rattle.poll_engine.proofs.run.run_threads.Goals as goal

pub spread-tasks-requires-clause-sides : goal.spread-tasks-requires-clause-sides
spread-tasks-requires-clause-sides g c = rw c.replace-parts.ensures.value c.requires.sides

pub spread-tasks-requires-clause-ends : goal.spread-tasks-requires-clause-ends
spread-tasks-requires-clause-ends g c =
    rw (c.replace-parts.ensures.value, ← c.len-count.ensures) (
      c.in_ok-pollers.ensures.enough,
      AllZip-long _ _ _ c.in_ok-pollers.ensures.own ∙ c.in_ok-pollers.ensures.pollers.as_many,
    )

pub spread-tasks-requires-clause-pollers : goal.spread-tasks-requires-clause-pollers
spread-tasks-requires-clause-pollers g c =
    rw (c.replace-parts.ensures.value, ← c.len-count.ensures, c.in_ok-tasks.ensures.pollers) c.in_ok-pollers.ensures.pollers

pub spread-tasks-requires-clause-room : goal.spread-tasks-requires-clause-room
spread-tasks-requires-clause-room g c =
    rw (c.replace-parts.ensures.value, ← c.len-count.ensures) (c.in_ok-tasks.ensures.workers.0, c.in_ok-tasks.ensures.threads.0)

-- room for some pollers is room for as many others
room_for : (others pollers wakers room : ℕ) → others ≡ wakers → pollers ≡ wakers → pollers ≤ room → others ≤ room
room_for others pollers wakers room e f within = omega (arith, e, f, within)

pub drive-tasks-requires-clause-pollers : goal.drive-tasks-requires-clause-pollers
drive-tasks-requires-clause-pollers g c κs within =
    let room = c.in_ok-tasks.ensures.polling in
    rw c.spread-tasks.ensures.rest.0 (
      room.0,
      room_for _ _ _ _ (c.spread-tasks.result.pollers.ok.0 ∙ c.spread-tasks.ensures.seats.3.as_many)
          (c.in_ok-pollers.pollers.ok.0 ∙ c.in_ok-pollers.ensures.pollers.as_many) room.1,
    )

pub drive-tasks-requires-clause-workers : goal.drive-tasks-requires-clause-workers
drive-tasks-requires-clause-workers g c κs within =
    let jobs = AllZip-long _ _ _ c.spread-tasks.ensures.jobs in
    let parts = ap (λ v. vec_len v) c.replace-parts.ensures.value in
    let room = c.in_ok-tasks.ensures.workers.1 in
    rw c.spread-tasks.ensures.rest.1 (room.0, grind (arith, common_steps, jobs, parts, c.len-count.ensures, room.1))

pub drive-tasks-requires-clause-threads : goal.drive-tasks-requires-clause-threads
drive-tasks-requires-clause-threads g c κs within =
    let sides = AllZip-long _ _ _ c.spread-tasks.ensures.threads in
    let parts = ap (λ v. vec_len v) c.replace-parts.ensures.value in
    let room = c.in_ok-tasks.ensures.threads.1 in
    rw c.spread-tasks.ensures.rest.2 (room.0, grind (arith, common_steps, sides, parts, c.len-count.ensures, room.1))

pub stop_of_run-ended-requires-clause-workers : goal.stop_of_run-ended-requires-clause-workers
stop_of_run-ended-requires-clause-workers g c =
    All-from_recursion _ _ (zip_each _ _ _ _ (λ j d h. h.why) c.drive-tasks.ensures.workers)

pub stop_of_run-ended-requires-clause-pollers : goal.stop_of_run-ended-requires-clause-pollers
stop_of_run-ended-requires-clause-pollers g c =
    All-from_recursion _ _ (zip_each _ _ _ _ (λ p q h. h.why) c.drive-tasks.ensures.pollers)

pub stop_of_run-ended-requires-clause-threads : goal.stop_of_run-ended-requires-clause-threads
stop_of_run-ended-requires-clause-threads g c =
    All-from_recursion _ _ (zip_each _ _ _ _ (λ p q h. h.why) c.drive-tasks.ensures.threads)

pub gather-requires-clause-some : goal.gather-requires-clause-some
gather-requires-clause-some g c =
    let same = AllZip-long _ _ _ c.drive-tasks.ensures.pollers ∙ c.spread-tasks.ensures.seats.3.as_many in
    grind (arith, common_steps, same, c.requires.pollers.0)

pub gather-requires-clause-seats : goal.gather-requires-clause-seats
gather-requires-clause-seats g c =
    let s = c.spread-tasks.ensures in
    let polled = vec_items c.drive-tasks.result.0.pollers in
    let workers = vec_items c.drive-tasks.result.0.workers in
    let same = AllZip-long _ _ _ c.drive-tasks.ensures.pollers ∙ s.seats.3.as_many in
    let sides = rw (← c.replace-parts.ensures.value) at c.requires.sides in
    let back = all_back_at _ _ _ _ _ _ _ _ _ _ sides s.jobs s.job_places c.drive-tasks.ensures.workers in
    subst (λ n. EachAt (AreSeatsAt n workers) polled) (sym same)
    (all_seats_at _ _ _ _ _ s.seats.0 _ _ back s.seats.1 s.seats.2 s.seats.3 c.drive-tasks.ensures.pollers s.lists)

pub gather-requires-clause-threads : goal.gather-requires-clause-threads
gather-requires-clause-threads g c =
    let s = c.spread-tasks.ensures in
    let sides = rw (← c.replace-parts.ensures.value) at c.requires.sides in
    let back = all_back_at _ _ _ _ _ _ _ _ _ _ sides s.jobs s.job_places c.drive-tasks.ensures.workers in
    all_threads_with _ _ _ _ _ _ back s.thread_places c.drive-tasks.ensures.threads

pub gather-requires-clause-room : goal.gather-requires-clause-room
gather-requires-clause-room g c =
    let a = AllZip-long _ _ _ c.spread-tasks.ensures.jobs in
    let b = AllZip-long _ _ _ c.drive-tasks.ensures.workers in
    let parts = ap (λ v. vec_len v) c.replace-parts.ensures.value in
    rw c.replace-parts.ensures.after
    (c.in_ok-room.ensures.len, grind (arith, common_steps, a, b, parts, c.len-count.ensures, c.in_ok-room.ensures.exact))

pub returns-clause-parts : goal.returns-clause-parts
returns-clause-parts g c =
    let s = c.spread-tasks.ensures in
    let sides = rw (← c.replace-parts.ensures.value) at c.requires.sides in
    let back = all_back_at _ _ _ _ _ _ _ _ _ _ sides s.jobs s.job_places c.drive-tasks.ensures.workers in
    all_parts _ _ _ _ _ back c.gather.ensures

pub returns-clause-ran : goal.returns-clause-ran
returns-clause-ran g c =
    let s = c.spread-tasks.ensures in
    let sides = rw (← c.replace-parts.ensures.value) at c.requires.sides in
    let back = all_back_at _ _ _ _ _ _ _ _ _ _ sides s.jobs s.job_places c.drive-tasks.ensures.workers in
    let lists = s.lists ∙ ap (λ v. map (λ p. p.served.list) (vec_items v)) c.in_ok-tasks.ensures.pollers in
    let ends = ends_of_lists _ _ c.in_ok-pollers.ensures.own in
    on_ok_weaker c.stop_of_run-ended.result (λ whole. rw (← c.replace-parts.ensures.value) (record {
      lists = map (λ p. p.served.list) (vec_items c.in_ok-pollers.pollers);
      workers = vec_items c.drive-tasks.result.0.workers;
      polled = vec_items c.drive-tasks.result.0.pollers;
      threads = vec_items c.drive-tasks.result.0.threads;
      same = AllZip-long _ _ _ c.drive-tasks.ensures.pollers ∙ s.seats.3.as_many;
      made = all_worked _ _ _ _ _ _ _ _ _ _ _ s.jobs (s.wired_jobs _ ends) c.drive-tasks.ensures.workers;
      ran = all_have_polled _ _ _ _ _ s.seats.0 _ _ back s.seats.1 s.seats.2 s.seats.3 c.drive-tasks.ensures.pollers lists;
      turned = all_turned _ _ _ _ _ _ _ _ s.threads (s.wired_threads _ ends) c.drive-tasks.ensures.threads;
      left_by = c.gather.ensures;
      whole = whole.0;
      whole_polls = whole.1;
      whole_turns = whole.2;
    })) c.stop_of_run-ended.ensures.whole
