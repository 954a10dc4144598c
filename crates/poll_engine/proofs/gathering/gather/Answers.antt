use Rattle.std.proofs.Common.{◌≡◌, ℕ, ◌<◌, ◌∷◌, ◌++◌, ◌∙◌, [], true, ap, sym, subst, refl, length, vec_items, arith}
use Rattle.std.proofs.{lemmas.Grind.common_steps, lemmas.List.{length-set, map-append, nil_from_length}}
use Rattle.{std.specs.Vec.Iter.into_iter_items, poll_engine.proofs.ListFacts.{before_more, none_left, zip_empty}}
use Rattle.poll_engine.proofs.EndFacts.{all_given, each_push, given_at, given_more, next_at, none_given, some_left}
use Rattle.{poll_engine.specs.{Outcomes.{IsThreadWith, Outcome}, Deals.is_own}, napi_calls.specs.Instance.IsSeatOf}
use Rattle.poll_engine.proofs.gathering.gather.Goals as goal

pub loop-worker-init : goal.loop-worker-init
loop-worker-init g c =
    let none : vec_items c.args.loose.now ≡ [] = nil_from_length _ (grind (arith, common_steps)) in (
      [],
      record {
        whole = c.into_iter-all.ensures.rest;
        sides_whole = c.into_iter-sides.ensures.rest;
        left = sym none;
        each = tt;
        threads = rw (c.into_iter-all.ensures.rest, c.into_iter-sides.ensures.rest) c.requires.threads;
        seats = none_given _ _ _ (rw c.into_iter-all.ensures.rest c.requires.seats);
        pollers = refl;
        as_many = grind (arith, common_steps);
        some = grind (arith, common_steps, c.requires.some);
        count = grind (arith, common_steps);
        room = c.requires.room.1;
      },
    )

-- whether the current instance belongs to the current poller
own_of : (pollers n k number : ℕ) → pollers ≡ n → is_own k pollers number ≡ true → is_own k n number ≡ true
own_of pollers n k number e own = subst (λ m. is_own k m number ≡ true) e own

pub take-caller-requires : goal.take-caller-requires
take-caller-requires g c =
    let now = c.loop-worker.invariant.1 in
    let own = own_of _ _ _ _ now.as_many c.poller_of-poller.ensures.own in
    let each = given_at _ _ _ _ _ (vec_items c.loop-worker.pollers) c.in-Some.ensures.items now.seats in
    let within : c.poller_of-poller.result < length (vec_items c.loop-worker.pollers) =
    grind (arith, common_steps, c.poller_of-poller.ensures.within, now.as_many, now.pollers) in
    let long = some_left _ _ _ _ _ _ _ c.index_mut.result.now own within each (sym c.index_mut.ensures.value) in record {
      some = grind (arith, common_steps, long);
      caller = λ seat rest first.
          (next_at _ _ _ _ _ _ _ c.index_mut.result.now own within each (sym c.index_mut.ensures.value) seat rest first).caller;
    }

pub leave-requires-clause-poller : goal.leave-requires-clause-poller
leave-requires-clause-poller g c =
    let now = c.loop-worker.invariant.1 in
    let own = own_of _ _ _ _ now.as_many c.poller_of-poller.ensures.own in
    let each = given_at _ _ _ _ _ (vec_items c.loop-worker.pollers) c.in-Some.ensures.items now.seats in
    let within : c.poller_of-poller.result < length (vec_items c.loop-worker.pollers) =
    grind (arith, common_steps, c.poller_of-poller.ensures.within, now.as_many, now.pollers) in
    let taken = c.take-caller.ensures in
    let at = next_at _ _ _ _ _ _ _ c.index_mut.result.now own within each (sym c.index_mut.ensures.value) _ _ taken.first in
    subst (λ n. IsSeatOf n c.take-caller.result.pass) at.napi taken.of

pub leave-requires-clause-thread : goal.leave-requires-clause-thread
leave-requires-clause-thread g c =
    let side = rw (c.in-Some.ensures.items, c.in-Some-next.ensures.items) at c.loop-worker.invariant.1.threads in
    side.0

pub loop-worker-preserved : goal.loop-worker-preserved
loop-worker-preserved g c =
    let did = c.loop-worker.invariant.0 in
    let now = c.loop-worker.invariant.1 in
    let side = rw (c.in-Some.ensures.items, c.in-Some-next.ensures.items) at now.threads in
    let own = own_of _ _ _ _ now.as_many c.poller_of-poller.ensures.own in
    let each = given_at _ _ _ _ _ (vec_items c.loop-worker.pollers) c.in-Some.ensures.items now.seats in
    let within : c.poller_of-poller.result < length (vec_items c.loop-worker.pollers) =
    grind (arith, common_steps, c.poller_of-poller.ensures.within, now.as_many, now.pollers) in
    let taken = c.take-caller.ensures in
    let o : Outcome g.row.R.Denot g.row.D.Denot g.row.G.Denot = record {
      worker = c.in-Some.worker;
      poller = taken.seat;
      thread = c.in-Some-next.side;
      loose = c.new.result;
    } in
    let more = before_more _ _ _ _ _ now.whole c.in-Some.ensures.items in
    let turns_more = before_more _ _ _ _ _ now.sides_whole c.in-Some-next.ensures.items in (
      did ++ o ∷ [],
      record {
        whole = ap (λ l. l ++ into_iter_items c.next.new.self) (map-append (λ o. o.worker) did (o ∷ [])) ∙ more.2;
        sides_whole = ap (λ l. l ++ into_iter_items c.next-in-Some.new.self) (map-append (λ o. o.thread) did (o ∷ [])) ∙ turns_more.2;
        left = map-append (λ o. o.loose) did (o ∷ []) ∙ ap (λ l. l ++ c.new.result ∷ []) now.left ∙ sym c.push_reserved.ensures.items;
        each = each_push _ did o now.each (rw c.new.ensures (c.leave.ensures taken.seat taken.caller_is));
        threads = side.1;
        seats = given_more _ _ did _ _ _ _ c.index_mut.result.now own within each (sym c.index_mut.ensures.value) o c.take-caller.new.self
            refl taken.first;
        pollers = length-set (vec_items c.loop-worker.pollers) c.poller_of-poller.result _ ∙ now.pollers;
        as_many = now.as_many;
        some = now.some;
        count = grind (arith, common_steps, now.count, c.in-Some.ensures.len, c.push_reserved.ensures.len);
        room = grind (arith, now.room, c.push_reserved.ensures.capacity);
      },
    )

pub returns : goal.returns
returns g c =
    let did = c.loop-worker.invariant.0 in
    let now = c.loop-worker.invariant.1 in
    let empty : into_iter_items c.loop-worker.all ≡ [] =
    nil_from_length _ (grind (arith, common_steps, c.loop-worker.all.rest.ok, c.in_default.ensures.len)) in
    let no_sides : into_iter_items c.loop-worker.sides ≡ [] = zip_empty IsThreadWith _ _ now.threads empty in
    record {
      all = did;
      workers_are = none_left _ _ _ now.whole empty;
      threads_are = none_left _ _ _ now.sides_whole no_sides;
      loose_are = now.left;
      each = now.each;
      callers = all_given _ _ did _ now.pollers (given_at _ _ _ _ _ _ empty now.seats);
    }
