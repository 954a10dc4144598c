use Rattle.std.proofs.Common.{◌≡◌, ◌+◌, ◌≤◌, ◌∷◌, ◌++◌, ◌∙◌, [], ap, subst, sym, refl, length, length-append, rules, arith}
use Rattle.std.proofs.{lemmas.Grind.common_steps, lemmas.List.length_push, lemmas.List.Elements.All-push}
use Rattle.std.proofs.lemmas.Slice.Zip.{all_zipped_more, AllZip-long}
use Rattle.std.specs.{Prelude.{vec_capacity, vec_items, vec_len}, Vec.Iter.into_iter_len}
use Rattle.{poll_engine.specs.{Tasks.IsAt, Spreads.IsPoller}, poll_engine.proofs.ListFacts.{before_more, each_more}}
use Rattle.poll_engine.proofs.setup.pollers.pollers_of.Goals as goal

pub loop-wait-init : goal.loop-wait-init
loop-wait-init g c =
    let none = ap (λ l. length l) c.new-pollers.ensures.items in
    let no_ends = ap (λ l. length l) c.new-ends.ensures.items in (
      [],
      record {
        wakers = refl;
        waker_count = sym none;
        rest_count = sym (c.into_iter-waits.ensures.len ∙ c.args.waits.ok.0 ∙ AllZip-long _ _ _ c.requires.wakes);
        wakes = rw c.into_iter-waits.ensures.rest c.requires.wakes;
        lawful = c.requires.limits;
        few = c.requires.few;
        pollers = λ k d low. absurd (omega (arith, low, none));
        own = rw (c.new-pollers.ensures.items, c.new-ends.ensures.items) tt;
        enough = λ k d low. absurd (omega (arith, low, no_ends));
      },
    )

pub loop-wait-preserved : goal.loop-wait-preserved
loop-wait-preserved g c =
    let fewer : into_iter_len c.next.new.self + 1 ≡ into_iter_len c.loop-wait.waits = grind (arith, common_steps, c.in-Some.ensures.len) in
    let here : c.len.result ≡ length (vec_items c.loop-wait.pollers) = grind (arith, common_steps) in
    let now = c.loop-wait.invariant.1 in
    let cut : c.loop-wait.rest.now ≡ c.in-Some-split_first.waker.now ∷ c.in-Some-split_first.more.now = search rules in
    let rung = before_more _ _ _ _ _ now.wakers cut in
    let wakes = rw (cut, c.in-Some.ensures.items) at now.wakes in
    let longer = ap (λ l. length l) c.in_ok-push.ensures.items ∙ length_push (vec_items c.loop-wait.pollers) _ in (
      c.loop-wait.invariant.0 ++ c.in-Some-split_first.waker.now ∷ [],
      record {
        wakers = rung.2;
        waker_count = length_push c.loop-wait.invariant.0 c.in-Some-split_first.waker.now ∙ ap (λ n. n + 1) now.waker_count ∙ sym longer;
        rest_count = (let a = now.rest_count in let b = ap (λ l. length l) cut in omega (arith, a, b, fewer));
        wakes = wakes.1;
        lawful = now.lawful;
        few = now.few;
        pollers = rw c.in_ok-push.ensures.items
            (each_more (λ k poller. IsPoller c.args.context.now c.args.wakers.now c.args.count [] k poller)
            (vec_items c.loop-wait.pollers) _ now.pollers (record {
              has = refl;
              paced = c.new.ensures.limits;
              named = grind (arith, common_steps, here);
              waker = subst (λ k. IsAt c.args.wakers.now k c.in-Some-split_first.waker.now) now.waker_count (rung.0, rung.1);
              wakes = wakes.0;
              new = rw c.new.ensures.list c.in_ok-list.ensures.new;
              seats_are = ap (λ v. vec_items v) c.new.ensures.seats ∙ c.in_ok-seats.ensures.items;
              room = (let same = ap (λ v. vec_capacity v) c.new.ensures.seats in
                  grind (arith, common_steps, same, c.in_ok-seats.ensures.exact));
            }));
        own = rw (c.in_ok-push.ensures.items, c.in_ok-push-2.ensures.items)
            (all_zipped_more _ _ _ _ _ now.own (rw c.new.ensures.list c.in_ok-list.ensures.own));
        enough = rw c.in_ok-push-2.ensures.items
            (All-push (λ e. c.args.count + c.args.count ≤ vec_len e) (vec_items c.loop-wait.ends) c.in_ok-list.own_ends now.enough
            c.in_ok-list.ensures.ends);
      },
    )

pub returns-clause-pollers : goal.returns-clause-pollers
returns-clause-pollers g c =
    let now = c.loop-wait.invariant.1 in
    let all = ap (λ l. length l) now.wakers in
    let both = length-append c.loop-wait.invariant.0 c.loop-wait.rest.now in record {
      each = now.pollers;
      as_many = grind (arith, common_steps, all, both, now.waker_count, now.rest_count, c.in_default.ensures.len);
    }
