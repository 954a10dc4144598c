use Rattle.std.proofs.Common.{◌≡◌, ℕ, ◌+◌, List, [], ◌∷◌, ◌++◌, Some, slice_get, length, sym, ap, ◌∙◌, subst, length-append, arith}
use Rattle.napi_calls.specs.{declared.types.{Caller.Caller, Napi.Napi}, Instance.IsNewSeat}
use Rattle.napi_calls.proofs.Fresh.{here, front_of}
use Rattle.core_tests.proofs.bed.seat_two.Goals as goal

abbrev Seated : Napi → List Caller → Type 0
Seated n callers = (k : ℕ) (c : Caller) → slice_get callers k ≡ Some c → IsNewSeat n k c.pass

-- of two callers, caller 1 is popped first
two_popped : (n : Napi) (callers rest none : List Caller) (first second : Caller) → Seated n callers → length callers ≡ 2
    → callers ≡ rest ++ second ∷ [] → rest ≡ none ++ first ∷ []
    → IsNewSeat n 0 first.pass × IsNewSeat n 1 second.pass
two_popped n callers rest none first second seated count items left =
    let two : length rest + 1 ≡ 2 = sym (length-append rest (second ∷ [])) ∙ ap length (sym items) ∙ count in
    let one : length none + 1 ≡ length rest = sym (length-append none (first ∷ [])) ∙ ap length (sym left) in
    let at = ap (λ (l : List Caller). slice_get l (length none)) items
    ∙ front_of rest (second ∷ []) (length none) first (here none [] rest first left) in (
      subst (λ (k : ℕ). IsNewSeat n k first.pass) (omega (arith, one, two)) (seated (length none) first at),
      subst (λ (k : ℕ). IsNewSeat n k second.pass) (omega (arith, two)) (seated (length rest) second (here rest [] callers second items)),
    )

pub invariant_of-result : goal.invariant_of-result
invariant_of-result g c =
    let e = c.requires in
    let both =
    two_popped c.args.napi c.args.callers.items c.pop-popped.new.self.items c.pop-popped-2.new.self.items c.in-Some-popped.first
    c.in-Some.second e.callers e.two.1 c.in-Some.ensures.items c.in-Some-popped.ensures.items in
    record { two = e.two.0; first_of = both.0.instance; second_of = both.1.instance; control_of = e.control.instance }

pub returns-clause-first : goal.returns-clause-first
returns-clause-first g c =
    let e = c.requires in
    (two_popped c.args.napi c.args.callers.items c.pop-popped.new.self.items c.pop-popped-2.new.self.items c.in-Some-popped.first
    c.in-Some.second e.callers e.two.1 c.in-Some.ensures.items c.in-Some-popped.ensures.items).0

pub returns-clause-second : goal.returns-clause-second
returns-clause-second g c =
    let e = c.requires in
    (two_popped c.args.napi c.args.callers.items c.pop-popped.new.self.items c.pop-popped-2.new.self.items c.in-Some-popped.first
    c.in-Some.second e.callers e.two.1 c.in-Some.ensures.items c.in-Some-popped.ensures.items).1
