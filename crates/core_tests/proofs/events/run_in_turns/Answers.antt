use Rattle.std.proofs.Common.{ℕ, [], ◌∷◌, ap, refl, subst, length, arith}
use Rattle.napi_calls.{specs.{Closed.IsHistoryOf, Turns.{by_first, by_second, by_controller}}, proofs.InTurns.{own_of, three_lists}}
use Rattle.core_tests.proofs.events.run_in_turns.Goals as goal

pub returns : goal.returns
returns g c =
    let bed = c.make_bed-napi in
    let turns = c.take_turns-first in
    let closed = c.closed.ensures in
    let h = closed.history in
    let seats = turns.result.0.pass ∷ turns.result.1.pass ∷ turns.result.2.pass ∷ [] in
    let is = subst (λ (k : ℕ). IsHistoryOf k seats h) bed.result.two closed.is in
    let f = turns.ensures.first in
    let s = turns.ensures.second in
    let k = turns.ensures.control in
    let first =
    own_of bed.result.napi 0 bed.result.first.pass turns.result.0.pass (by_first f.0 f.1 f.2 f.3) h bed.ensures.first f.4
    (is.exact 0 turns.result.0.pass refl) in
    let second =
    own_of bed.result.napi 1 bed.result.second.pass turns.result.1.pass (by_second s.0 s.1) h bed.ensures.second s.2
    (is.exact 1 turns.result.1.pass refl) in
    let controller =
    own_of bed.result.napi 2 bed.result.control.pass turns.result.2.pass (by_controller k.0 k.1) h bed.ensures.control k.2
    (is.exact 2 turns.result.2.pass refl) in
    let all = three_lists h is.only in
    let ten = ap length first in
    let five = ap length second in
    let six = ap length controller in (
      h,
      record {
        legal = is.legal;
        ends = is.ends;
        first = (f.0, f.1, f.2, f.3, first);
        second = (s.0, s.1, second);
        controller = (k.0, k.1, controller);
        all = omega (arith, all, ten, five, six);
      },
    )
