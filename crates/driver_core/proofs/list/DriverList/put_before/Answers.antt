use Rattle.std.proofs.Common.{◌≡◌, ◌∷◌, length, ap, length-append, List, ℕ, arith}
use Rattle.driver_core.proofs.list.DriverList.put_before.Goals as goal

pub invariant_of-self : goal.invariant_of-self
invariant_of-self c =
    let whole : c.put_before.new.self ≡ c.in-Some.id ∷ c.pop_front.new.self = c.in-Some.ensures in
    let given = c.splice.ensures.given in (
      λ none. cc,
      omega (
        arith,
        ap (λ (xs : List ℕ). length xs) whole,
        ap (λ (xs : List ℕ). length xs) c.put_before.ensures,
        length-append c.args.rest.now c.splice.new.to,
        ap (λ (xs : List ℕ). length xs) given.2,
        length-append c.args.self.now given.0,
        ap (λ (xs : List ℕ). length xs) given.1,
      ),
    )
