use Rattle.std.proofs.Common.{◌≡◌, ◌<◌, ◌+◌, ◌∷◌, ◌++◌, ◌∙◌, [], length, length-append, sym, true, vec_items, subst, rules, arith, refl}
use Rattle.std.proofs.{lemmas.Grind.common_steps, lemmas.List.nil_from_length, lemmas.Slice.Zip.all_zipped_more}
use Rattle.{std.specs.Vec.Iter.{into_iter_items, into_iter_len}, poll_engine.specs.{Tasks.IsAt, Deals.is_own}}
use Rattle.poll_engine.proofs.{ListFacts.{before_more, none_left, zip_empty}, EndFacts.each_push}
use Rattle.poll_engine.proofs.PollerFacts.{by_station, count_of, ends_of, has_room, one_more, same_count, same_lists, wired_waker}
use Rattle.poll_engine.proofs.PollerFacts.{wired_end}
use Rattle.poll_engine.proofs.setup.spreading.spread.Goals as goal

pub loop-rest-init : goal.loop-rest-init
loop-rest-init g c =
    let no_jobs : vec_items c.args.tasks.workers ≡ [] = nil_from_length _ (grind (arith, common_steps, c.requires.room.0.0)) in
    let no_sides : vec_items c.args.tasks.threads ≡ [] = nil_from_length _ (grind (arith, common_steps, c.requires.room.1.0)) in (
      [],
      [],
      [],
      record {
        whole = c.into_iter-rests.ensures.rest;
        all_places = refl;
        sides = rw c.into_iter-rests.ensures.rest c.requires.sides;
        made = rw no_jobs tt;
        job_places = rw no_jobs tt;
        wired_jobs = λ lists are. rw no_jobs tt;
        wired_threads = λ lists are. rw no_sides tt;
        are_ends = λ lists are. are;
        seat_places = tt;
        sitting = tt;
        thread_places = rw no_sides tt;
        threads = rw no_sides tt;
        pollers = c.requires.pollers;
        poller_lists = refl;
        list_count = c.requires.ends.1;
        ends = rw c.into_iter-rests.ensures.len c.requires.ends.0;
        count = grind (arith, common_steps);
        seat_count = grind (arith, common_steps);
        side_count = grind (arith, common_steps);
        room = c.requires.room.0.1;
        side_room = c.requires.room.1.1;
        rest = (refl, refl, refl);
      },
    )

pub two_ends-both-requires-clause-some : goal.two_ends-both-requires-clause-some
two_ends-both-requires-clause-some g c k d low =
    let left = c.loop-rest.invariant.3.ends k d low in
    grind (arith, common_steps, left, c.in-Some.ensures.len)

pub add-requires : goal.add-requires
add-requires g c =
    let now = c.loop-rest.invariant.3 in
    let within : c.poller_of-poller.result < length (vec_items c.loop-rest.tasks.pollers) =
    grind (arith, common_steps, now.pollers.as_many, c.poller_of-poller.ensures.within) in
    let long = has_room _ _ _ _ _ _ c.index_mut.result.now now.pollers within (sym c.index_mut.ensures.value)
    (grind (arith, common_steps, now.seat_count, now.count, c.in-Some.ensures.len)) in
    grind (arith, common_steps, long)

pub loop-rest-preserved : goal.loop-rest-preserved
loop-rest-preserved g c =
    let fewer : into_iter_len c.next.new.self + 1 ≡ into_iter_len c.loop-rest.rests = grind (arith, common_steps, c.in-Some.ensures.len) in
    let i = c.loop-rest.invariant in
    let now = i.3 in
    let cut : c.loop-rest.places.now ≡ c.in-Some-split_first.place.now ∷ c.in-Some-split_first.more.now = search rules in
    let more = before_more _ _ _ _ _ now.whole c.in-Some.ensures.items in
    let further = before_more _ _ _ _ _ now.all_places cut in
    let side = rw (c.in-Some.ensures.items, cut) at now.sides in
    let made = rw c.open.ensures at c.split-job.ensures.job.0 in
    let seat = rw c.open.ensures at c.split-job.ensures.seat.1 in
    let thread = rw c.open.ensures at c.split-job.ensures.thread.1 in
    let by_job = by_station _ _ _ _ c.poller_of-poller.ensures.own (made.same_number ∙ sym side.0.part.number) in
    let by_side = by_station _ _ _ _ c.poller_of-poller.ensures.own (thread.seat.number ∙ sym side.0.part.number) in
    let waker : IsAt c.args.wakers.now c.poller_of-poller.result c.index-wakers-poller.result =
    (c.poller_of-poller.ensures.within, search rules) in
    let within : c.poller_of-poller.result < length (vec_items c.loop-rest.tasks.pollers) =
    grind (arith, common_steps, now.pollers.as_many, c.poller_of-poller.ensures.within) in (
      i.0 ++ c.in-Some.rest ∷ [],
      i.1 ++ c.in-Some-split_first.place.now ∷ [],
      i.2 ++ c.split-job.result.1 ∷ [],
      record {
        whole = more.2;
        all_places = further.2;
        sides = side.1;
        made = rw c.push_reserved.ensures.items (all_zipped_more _ _ _ _ _ now.made made);
        job_places = rw c.push_reserved.ensures.items (all_zipped_more _ _ _ _ _ now.job_places c.split-job.ensures.job.1);
        wired_jobs = λ lists are. rw c.push_reserved.ensures.items
            (each_push _ _ _ (now.wired_jobs lists are) (record {
              list = wired_end _ _ _ _ _ (c.two_ends-both.ensures.own lists (now.are_ends lists are)).0 c.split-job.ensures.lists.0 by_job;
              waker = wired_waker _ _ _ _ _ waker c.split-job.ensures.wakers.0 by_job;
            }));
        wired_threads = λ lists are. rw c.push_reserved-in-Some.ensures.items
            (each_push _ _ _ (now.wired_threads lists are) (record {
              list = wired_end _ _ _ _ _ (c.two_ends-both.ensures.own lists (now.are_ends lists are)).1 c.split-job.ensures.lists.1 by_side;
              waker = wired_waker _ _ _ _ _ waker c.split-job.ensures.wakers.1 by_side;
            }));
        are_ends = λ lists are. (c.two_ends-both.ensures.own lists (now.are_ends lists are)).2;
        seat_places = all_zipped_more _ _ _ _ _ now.seat_places c.split-job.ensures.seat.0;
        sitting = all_zipped_more _ _ _ _ _ now.sitting seat;
        thread_places = rw c.push_reserved-in-Some.ensures.items
            (all_zipped_more _ _ _ _ _ now.thread_places c.split-job.ensures.thread.0);
        threads = rw c.push_reserved-in-Some.ensures.items (all_zipped_more _ _ _ _ _ now.threads thread);
        pollers =
            (let own = subst (λ n. is_own c.poller_of-poller.result (length c.args.wakers.now) n ≡ true)
            (sym c.split-job.ensures.seat.0.number) c.poller_of-poller.ensures.own in
            one_more _ _ _ _ _ _ c.index_mut.result.now now.pollers within (sym c.index_mut.ensures.value) _ c.add.new.self own
            c.add.ensures);
        poller_lists = same_lists _ _ _ _ _ _ c.index_mut.result.now now.pollers within (sym c.index_mut.ensures.value) _ c.add.new.self
            c.add.ensures ∙ now.poller_lists;
        list_count = c.two_ends-both.ensures.len ∙ now.list_count;
        ends = c.two_ends-both.ensures.left _ (λ k d low. ends_of _ _ _ fewer (now.ends k d low));
        count = count_of _ _ _ _ _ now.count fewer c.push_reserved.ensures.len;
        seat_count = same_count _ _ _ _ now.seat_count (length-append i.2 (c.split-job.result.1 ∷ [])) c.push_reserved.ensures.len;
        side_count = same_count _ _ _ _ now.side_count c.push_reserved-in-Some.ensures.len c.push_reserved.ensures.len;
        room = grind (arith, now.room, c.push_reserved.ensures.capacity);
        side_room = grind (arith, now.side_room, c.push_reserved-in-Some.ensures.capacity);
        rest = now.rest;
      },
    )

pub returns : goal.returns
returns g c =
    let now = c.loop-rest.invariant.3 in
    let empty : into_iter_items c.loop-rest.rests ≡ [] =
    nil_from_length _ (grind (arith, common_steps, c.loop-rest.rests.rest.ok, c.in_default.ensures.len)) in
    let whole = none_left _ _ _ now.whole empty in
    let places = none_left _ _ _ now.all_places (zip_empty _ _ _ now.sides empty) in
    record {
      jobs = rw (← whole) now.made;
      job_places = rw (← places) now.job_places;
      thread_places = rw (← places) now.thread_places;
      threads = rw (← whole) now.threads;
      wired_jobs = now.wired_jobs;
      wired_threads = now.wired_threads;
      seats = (c.loop-rest.invariant.2, rw (← places) now.seat_places, rw (← whole) now.sitting, now.pollers);
      lists = now.poller_lists;
      rest = now.rest;
    }
