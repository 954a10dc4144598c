use Rattle.std.proofs.Common.{rules, ◌≡◌, ◌+◌, List, [], ◌∷◌, ◌++◌, length, sym, ap, ◌∙◌, append_assoc, length-append, arith}
use Rattle.{std.specs.Vec.Iter.into_iter_items, napi_word.specs.declared.table.Pass.Pass, napi_calls.specs.Closed.seats_of}
use Rattle.napi_calls.proofs.Ending.{next_seat, seats_more}
use Rattle.napi_calls.proofs.instance.seat_callers.Goals as goal

pub caller_of-requires : goal.caller_of-requires
caller_of-requires c =
    let new = c.requires.new in
    let seated = c.loop-pass.callers.items in
    let parts = c.loop-pass.invariant.0 ∙ ap (λ (l : List Pass). seats_of seated ++ l) c.in-Some.ensures.items in
    let next =
    next_seat seated c.args.passes.items
    (into_iter_items c.next.new.self) c.in-Some.pass c.loop-pass.number parts c.loop-pass.invariant.1 in
    let few = new.3 in
    let left = next.0 in
    (new.0, new.1, new.2, omega (arith, few, left), new.5 c.loop-pass.number c.in-Some.pass next.1)

pub push_reserved-requires : goal.push_reserved-requires
push_reserved-requires c =
    let seated = c.loop-pass.callers.items in
    let parts = c.loop-pass.invariant.0 ∙ ap (λ (l : List Pass). seats_of seated ++ l) c.in-Some.ensures.items in
    let left =
    (next_seat seated c.args.passes.items
    (into_iter_items c.next.new.self) c.in-Some.pass c.loop-pass.number parts c.loop-pass.invariant.1).0 in
    let number = c.loop-pass.invariant.1 in
    let len = c.loop-pass.invariant.2 in
    let room = c.loop-pass.invariant.3 in
    omega (arith, left, number, len, room)

pub overflow_add-number : goal.overflow_add-number
overflow_add-number c =
    let new = c.requires.new in
    let seated = c.loop-pass.callers.items in
    let parts = c.loop-pass.invariant.0 ∙ ap (λ (l : List Pass). seats_of seated ++ l) c.in-Some.ensures.items in
    let left =
    (next_seat seated c.args.passes.items
    (into_iter_items c.next.new.self) c.in-Some.pass c.loop-pass.number parts c.loop-pass.invariant.1).0 in
    let few = new.3 in
    let least = new.4 in
    search (rules, arith, left, few, least)

pub loop-pass-preserved : goal.loop-pass-preserved
loop-pass-preserved c =
    let seated = c.loop-pass.callers.items in
    let rest = into_iter_items c.next.new.self in
    let one = c.caller_of.result in
    let pushed = c.push_reserved.ensures in
    let parts = c.loop-pass.invariant.0 ∙ ap (λ (l : List Pass). seats_of seated ++ l) c.in-Some.ensures.items in
    let here : seats_of seated ++ c.in-Some.pass ∷ rest ≡ (seats_of seated ++ one.pass ∷ []) ++ rest =
    sym (append_assoc (seats_of seated) (c.in-Some.pass ∷ []) rest)
    ∙ ap (λ (p : Pass). (seats_of seated ++ p ∷ []) ++ rest) (sym c.caller_of.ensures) in
    let longer : length (seated ++ one ∷ []) ≡ length seated + 1 = length-append seated (one ∷ []) in
    let items = ap length pushed.items in
    let number = c.loop-pass.invariant.1 in
    let len = c.loop-pass.invariant.2 in
    let room = c.loop-pass.invariant.3 in
    let plen = pushed.len in
    let cap = pushed.capacity in (
      parts ∙ here ∙ ap (λ (l : List Pass). l ++ rest) (sym (ap seats_of pushed.items ∙ seats_more seated one)),
      omega (arith, items, longer, number),
      omega (arith, items, longer, len, plen),
      omega (arith, room, cap),
    )
