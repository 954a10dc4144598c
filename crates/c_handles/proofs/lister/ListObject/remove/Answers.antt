use Rattle.std.specs.Prelude.{◌==◌}
use Rattle.std.proofs.Common.{◌≡◌, ◌≤◌, ℕ, Bool, not, filter, length, count_by, arith}
use Rattle.std.proofs.lemmas.List.Sums.{count_by-le-length, length-filter}
use Rattle.c_handles.proofs.lister.ListObject.remove.Goals as goal

pub invariant_of-self-clause-few : goal.invariant_of-self-clause-few
invariant_of-self-clause-few c =
    let self = c.args.self.now in
    let others : ℕ → Bool = λ other. not (other == c.args.id) in
    let count = length-filter others self.list in
    let fewer = count_by-le-length others self.list in
    rw c.without-self.ensures (omega (arith, count, fewer, self.few))
