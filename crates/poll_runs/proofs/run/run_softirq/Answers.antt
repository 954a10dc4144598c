use Rattle.std.proofs.Common.{◌≡◌, ◌≢◌, ◌∙◌, ◌⊎◌, ◌∷◌, ◌+◌, ℕ, false, true, List, [], length, ap, refl, sym, subst, arith, rules}
use Rattle.poll_runs.specs.{Driven.{Going, and_poll}, Polls.{At, repolled}, Run.{IsBatch, is_spent}, Turn.TakesBatch}
use Rattle.poll_runs.proofs.{PollFacts.chain-push, RunFacts.{filled-room, going-ends, going-filled, going-poll, going-start, handed-room}}
use Rattle.poll_runs.proofs.run.run_softirq.Goals.{else-loop-own-test, then-loop-own-test+in_default}
use Rattle.poll_runs.proofs.run.run_softirq.Goals as goal

pub loop-own-init : goal.loop-own-init
loop-own-init g c =
    let l = g.L.PollList in
    let given = c.splice.ensures.given in
    let none : length c.new-repoll.result ≡ 0 = ap (λ (xs : List ℕ). length xs) c.new-repoll.ensures in
    let takes : TakesBatch l.entries l.moves l.is_all c.args.list.now c.splice.new.to c.splice.new.self =
    record { came = given.0; moved = given.1; gives = given.2; nothing_kept = c.splice.ensures.nothing_kept; all = c.splice.ensures.all } in
    let same : length c.splice.new.to ≡ length c.splice.new.to + length c.new-repoll.result = omega (arith, none) in
    record {
      room = subst (λ (n : ℕ). l.has_room c.splice.new.self n) same c.splice.ensures.room;
      few = omega (arith, none, c.splice.ensures.count, c.splice.ensures.most);
      bounds = (omega arith, omega (arith, c.requires.budget.0));
      goes = (
        [],
        refl,
        rw c.new-repoll.ensures
            (going-start l.entries l.moves l.is_all c.args.budget c.args.window c.args.list.now c.splice.new.self c.splice.new.to
            (omega (arith, c.requires.budget.0)) (omega (arith, c.requires.window.0)) takes),
      );
    }

pub hand_on-requires-clause-list : goal.hand_on-requires-clause-list
hand_on-requires-clause-list g c =
    let l = g.L.PollList in
    let before = c.loop-own.invariant in
    let popped : c.refill.new.own ≡ c.in-Some.id ∷ c.pop_front.new.self = rw c.in-Some.is at c.pop_front.ensures in
    let filled =
    filled-room l.entries l.moves l.is_all l.has_room c.loop-own.list c.refill.new.list c.loop-own.own c.loop-own.repoll c.refill.new.own
    c.refill.ensures before.room before.few in
    let same : length c.refill.new.own + length c.loop-own.repoll ≡ (length c.pop_front.new.self + length c.loop-own.repoll) + 1 =
    omega (arith, ap (λ (xs : List ℕ). length xs) popped) in
    g.met.L.PollList.room_to_push c.refill.new.list (length c.pop_front.new.self + length c.loop-own.repoll)
    (subst (λ (n : ℕ). l.has_room c.refill.new.list n) same filled.0)

pub loop-own-preserved : goal.loop-own-preserved
loop-own-preserved g c =
    let l = g.L.PollList in
    let before = c.loop-own.invariant in
    let polls = before.goes.0 in
    let once = c.poll_once-once.result in
    let id = c.in-Some.id in
    let left = c.is_spent.ensures.left (search rules) in
    let popped : c.refill.new.own ≡ id ∷ c.pop_front.new.self = rw c.in-Some.is at c.pop_front.ensures in
    let filled =
    filled-room l.entries l.moves l.is_all l.has_room c.loop-own.list c.refill.new.list c.loop-own.own c.loop-own.repoll c.refill.new.own
    c.refill.ensures before.room before.few in
    let same : length c.refill.new.own + length c.loop-own.repoll ≡ (length c.pop_front.new.self + length c.loop-own.repoll) + 1 =
    omega (arith, ap (λ (xs : List ℕ). length xs) popped) in
    let handed =
    handed-room l.entries l.moves l.has_room c.refill.new.list c.hand_on.new.list once.next id
    (length c.pop_front.new.self) c.loop-own.repoll g.met.L.PollList.room_for_less
    c.hand_on.ensures.list (subst (λ (n : ℕ). l.has_room c.refill.new.list n) same filled.0) (omega (arith, same, filled.1)) in
    let going =
    going-filled l.entries l.moves l.is_all l.has_room c.args.budget c.args.window c.args.list.now polls c.loop-own.list c.refill.new.list
    c.loop-own.own c.loop-own.repoll c.refill.new.own c.loop-own.polls c.loop-own.work g.met.L.PollList.joins left.0 left.1 c.refill.ensures
    before.goes.2 in
    record {
      room = rw c.hand_on.ensures.repoll handed.0;
      few = rw c.hand_on.ensures.repoll handed.1;
      bounds = (omega (arith, left.1), omega (arith, left.0, c.poll_once-once.ensures.bound));
      goes = (
        and_poll polls id once,
        chain-push (At g.B.Bench.polls c.args.weight) c.args.bench.now polls c.loop-own.bench c.poll_once-once.new.self
            (record { id = id; once = once }) before.goes.1
            c.poll_once-once.ensures.leads,
        rw c.hand_on.ensures.repoll
            (going-poll l.entries l.moves l.is_all l.has_room c.args.budget c.args.window c.args.list.now polls c.refill.new.list
            c.hand_on.new.list
            c.pop_front.new.self c.loop-own.repoll c.loop-own.polls c.loop-own.work
            (record { id = id; once = once }) g.met.L.PollList.stays g.met.L.PollList.joins left.0 left.1
            c.hand_on.ensures.list (rw popped at going.going)),
      );
    }

pub returns-clause-run : goal.returns-clause-run
returns-clause-run g c =
    let l = g.L.PollList in
    let before = c.loop-own.invariant in
    let polls = before.goes.0 in
    let start = c.args.list.now in
    let over : Going l.entries l.moves l.is_all c.args.budget c.args.window start polls c.loop-own-test.list c.loop-own-test.own
    c.loop-own.repoll c.loop-own.polls c.loop-own.work
    × (is_spent c.args.budget c.args.window polls ≡ false → (c.loop-own-test.own ≡ [])
    × ((repolled polls ≢ []) ⊎ IsBatch l.entries l.moves l.is_all c.args.budget c.args.window start polls []))
    = elim c.loop-own-test.branch [
      | else-loop-own-test w ↦ (
        rw (w.list-is, w.own-is) before.goes.2,
        λ unspent.
            let spent : is_spent c.args.budget c.args.window polls ≡ true =
            rw (← before.goes.2.summed, ← before.goes.2.counted) (sym c.is_spent.ensures.spent ∙ (search rules)) in
            let bad : true ≡ false = sym spent ∙ unspent in
            cc bad,
      )
      | then-loop-own-test+in_default w ↦
          let left = c.is_spent.ensures.left (search rules) in
          let filled =
          going-filled l.entries l.moves l.is_all l.has_room c.args.budget c.args.window start polls c.loop-own.list w.refill.new.list
          c.loop-own.own c.loop-own.repoll w.refill.new.own c.loop-own.polls c.loop-own.work g.met.L.PollList.joins left.0 left.1
          w.refill.ensures before.goes.2 in
          let none : (w.refill.new.own ≡ []) × (w.pop_front.new.self ≡ []) = rw w.in_default.is at w.pop_front.ensures in (
            rw (w.list-is, w.own-is, none.1) (rw none.0 at filled.going),
            λ unspent. (w.own-is ∙ none.1, rw (← filled.going.again) (filled.none none.0)),
          )
    ] in (
      polls,
      before.goes.1,
      going-ends l.entries l.moves l.is_all c.args.budget c.args.window start polls c.loop-own-test.list c.put_back.new.self
          c.loop-own-test.own c.loop-own.repoll c.loop-own.polls c.loop-own.work
          _ g.met.L.PollList.joins c.put_back.ensures.back c.put_back.ensures.all refl refl c.is_spent-2.ensures.spent over.0 over.1,
    )
