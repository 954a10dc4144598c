use Rattle.std.proofs.Common.{◌≡◌, ◌-◌, ℕ, List, [], ◌∷◌, ◌++◌, length, take, sym, ap, ◌∙◌, subst, append_assoc, arith, rules}
use Rattle.{napi_word.specs.Ends.Gathered, napi_calls.specs.{declared.types.Caller.Caller, Closed.seats_of}}
use Rattle.napi_calls.proofs.{Fresh.here, Ending.{all_count, closed}}
use Rattle.napi_calls.proofs.instance.close.Goals as goal

pub join-requires-clause-pass : goal.join-requires-clause-pass
join-requires-clause-pass c =
    let i = c.loop-caller.invariant in
    let rest = c.pop.new.self.items in
    let one = c.in-Some.caller in
    let items : c.args.callers.items ≡ rest ++ one ∷ i.1.0 =
    i.1.1 ∙ ap (λ (l : List Caller). l ++ i.1.0) c.in-Some.ensures.items ∙ append_assoc rest (one ∷ []) i.1.0 in
    c.requires.callers (length rest) one (here rest i.1.0 c.args.callers.items one items)

-- the passes of all callers were joined, from the last caller to the first
pub returns-clause-closed : goal.returns-clause-closed
returns-clause-closed c =
    let i = c.loop-caller.invariant in
    let none = c.in_default.ensures in
    let rest : c.pop.new.self.items ≡ [] = none.rest ∙ ap (λ (n : ℕ). take (n - 1) c.loop-caller.callers.items) none.cases.0 in
    let empty : c.loop-caller.callers.items ≡ [] = none.items ∙ ap (λ (l : List Caller). l ++ []) rest in
    let whole : c.args.callers.items ≡ i.1.0 = i.1.1 ∙ ap (λ (l : List Caller). l ++ i.1.0) empty in
    let g =
    subst (λ (l : List Caller). Gathered
    (seats_of l ++ c.args.control.pass ∷ []) c.loop-caller.gathering.seat.me.0 c.loop-caller.gathering.found) (sym whole) i.1.2 in
    let seats = all_count c.args.callers.items c.args.control.pass in
    let ok = c.args.callers.ok.0 in
    let len = c.len.ensures in
    let enough = c.if-len-napi.false in
    let made = c.args.napi.count in
    closed c.args.napi c.args.callers.items c.args.control.pass c.finish-left.result.ctx c.args.control.controls
    (c.finish-left.ensures (seats_of c.args.callers.items ++ c.args.control.pass ∷ []) g
    (search (rules, arith, seats, ok, len, enough, made))) c.args.control.state.ctx c.args.control.has c.args.control.exact

pub loop-caller-preserved : goal.loop-caller-preserved
loop-caller-preserved c =
    let i = c.loop-caller.invariant in
    let rest = c.pop.new.self.items in
    let one = c.in-Some.caller in
    let items : c.args.callers.items ≡ rest ++ one ∷ i.1.0 =
    i.1.1 ∙ ap (λ (l : List Caller). l ++ i.1.0) c.in-Some.ensures.items ∙ append_assoc rest (one ∷ []) i.1.0 in
    (c.join.ensures.table, (one ∷ i.1.0, items, c.join.ensures.has (seats_of i.1.0 ++ c.args.control.pass ∷ []) i.1.2))
