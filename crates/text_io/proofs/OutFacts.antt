-- How much of a text was written, part by part.
use Rattle.std.proofs.Common.{◌≡◌, ◌∙◌, ◌<◌, ◌+◌, ℕ, List, [], ◌++◌, Option, None, Some, refl, sym, ap, subst, arith, length, take}
use Rattle.std.proofs.Common.{append_assoc, append-nil, length-append, take_at}
use Rattle.std.specs.Io.KnownBytes.{Appends, Keeps}
use Rattle.text_io.specs.Written.{AppendsPart}

nothing : (known : Option (List ℕ)) → Appends known known []
nothing None = tt
nothing (Some xs) = sym (append-nil xs)

pub then_more : (a b c : Option (List ℕ)) (bs cs : List ℕ) → Appends a b bs → Appends b c cs → Appends a c (bs ++ cs)
then_more None b c bs cs p q = tt
then_more (Some x) None c bs cs p q = absurd p
then_more (Some x) (Some y) None bs cs p q = absurd q
then_more (Some x) (Some y) (Some z) bs cs p q = q ∙ ap (λ l. l ++ cs) p ∙ append_assoc x bs cs

pub then_kept : (a b c : Option (List ℕ)) (bs : List ℕ) → Appends a b bs → Keeps b c → Appends a c bs
then_kept None b c bs p q = tt
then_kept (Some x) None c bs p q = absurd p
then_kept (Some x) (Some y) None bs p q = absurd q
then_kept (Some x) (Some y) (Some z) bs p q = q ∙ p

-- nothing more was written
pub none_more : (a b c : Option (List ℕ)) (done rest : List ℕ) (n : ℕ) → n ≡ 0 → Appends a b done → Appends b c (take n rest)
    → Appends a c done
none_more a b c done rest n e p q =
    subst (Appends a c) (ap (λ (m : ℕ). done ++ take m rest) e ∙ append-nil done) (then_more a b c done (take n rest) p q)

-- only a prefix was written, and something is left
pub cut_behind : (a b : Option (List ℕ)) (all done rest : List ℕ) → all ≡ done ++ rest → 0 < length rest → Appends a b done
    → AppendsPart a b all
cut_behind a b all done rest split some p = (
  length done,
  let whole : length all ≡ length done + length rest = ap length split ∙ length-append done rest in omega (arith, whole, some),
  subst (Appends a b) (sym (ap (take (length done)) split ∙ take_at done rest (length done) refl)) p,
)

-- if no byte of a text that isn't empty was written, only a part was
pub none_out : (a : Option (List ℕ)) (all : List ℕ) → 0 < length all → AppendsPart a a all
none_out a all some = cut_behind a a all [] all refl some (nothing a)
