-- The place of the next packet, and what is left of the known packets.
use Rattle.std.proofs.Common.{◌≡◌, ℕ, ◌+◌, ◌%◌, ◌≤◌, List, ◌++◌, length, ap, ◌∙◌, sym, arith, length-append}
use Rattle.std.proofs.Math.Nat.{mod-add-mod}
use mathlib.Core.List.{IsPrefix}

-- k packets after packet n, whose place is `first`, is packet m; c, d and e are the capacity
pub next_place : (c d e n m first k next : ℕ) → first ≡ n % c → next ≡ (first + k) % e → e ≡ d → d ≡ c → m ≡ n + k → next ≡ m % d
next_place c d e n m first k next is f ed dc sum =
    f ∙ ap (λ (x : ℕ). (first + k) % x) (ed ∙ dc) ∙ ap (λ (x : ℕ). (x + k) % c) is ∙ mod-add-mod n c k ∙ ap (λ (x : ℕ). x % c) (sym sum)
    ∙ ap (λ (x : ℕ). m % x) (sym dc)

-- as many packets were given as are known no more
pub known_left : {A : Type 0} → (before given after : List A) (count : ℕ) → IsPrefix before (given ++ after) → length given ≡ count →
    length before ≤ length after + count
known_left before given after count p n =
    let e = sym (length-append before p.0) ∙ ap length p.1 ∙ length-append given after in omega (arith, e, n)
