-- The state word determines the `Seen` that it encodes: sums of bits.
use Rattle.std.proofs.Common.{◌≡◌, ◌≢◌, ◌⊎◌, ℕ, ◌+◌, ◌*◌, ◌^◌, ◌<◌, min, ◌&&◌, not, ◌==◌, eqb, eq-eqb, ne_eqb, zero, suc, ⊎_elim, Bool}
use Rattle.std.proofs.{Common.{true, false, refl, sym, ap, ◌∙◌, subst, inl, inr, arith, bit_and, bit_or, true≢false}, lemmas.Bool.and_parts}
use Rattle.std.proofs.lemmas.{Bool.{eqb-true, Decides.eqb_tells}, Nat.{or_disjoint, and-not, and_comm, pow_pos, Bits.bit_at_and}}
use Rattle.std.{proofs.lemmas.Nat.Bits.{bit_at_or, same_from_bits, bit_at-zero, and_pow, bit_at-lt}, specs.Int.bit_at}
use Rattle.napi_model.specs.{declared.state.Seen.Seen, Word.{bit_if, word_of, mark_word, both_marks, named_bits, other_bits, IsMalformed}}
use Rattle.napi_model.{specs.Word.{seen_in, mark_in}, proofs.SeenCases.{seen_holds, seen_is, same_seen}}

-- ---- bits of sums

and_or : (n a b : ℕ) → bit_and n (bit_or a b) ≡ bit_or (bit_and n a) (bit_and n b)
and_or n a b = same_from_bits _ _ (λ i. simp (bit_at_and, bit_at_or) (omega arith))

and_apart : (n a b : ℕ) → bit_and a b ≡ 0 → bit_and (bit_and n a) (bit_and n b) ≡ 0
and_apart n a b e =
    same_from_bits _ _ (λ i.
    let none : min (bit_at a i) (bit_at b i) ≡ 0 = sym (bit_at_and a b i) ∙ ap (λ m. bit_at m i) e ∙ bit_at-zero i in
    simp (bit_at_and, bit_at-zero) (omega (arith, none)))

-- a sum of disjoint bit masks can be read one mask at a time
and_sum : (n a b : ℕ) → bit_and a b ≡ 0 → bit_and n (a + b) ≡ bit_and n a + bit_and n b
and_sum n a b e =
    ap (λ m. bit_and n m) (sym (or_disjoint a b e))
    ∙ and_or n a b
    ∙ or_disjoint (bit_and n a) (bit_and n b) (and_apart n a b e)

read_sum : (w : ℕ) → bit_and w named_bits
    ≡ bit_and w 1 + bit_and w 2 + bit_and w 4 + bit_and w 8 + bit_and w 64 + bit_and w 256 + bit_and w 512 + bit_and w 4294967296
    + bit_and w 8589934592
read_sum w =
    let e8 = and_sum w 4294968143 8589934592 refl in
    let e7 = and_sum w 847 4294967296 refl in
    let e6 = and_sum w 335 512 refl in
    let e5 = and_sum w 79 256 refl in
    let e4 = and_sum w 15 64 refl in
    let e3 = and_sum w 7 8 refl in
    let e2 = and_sum w 3 4 refl in
    let e1 = and_sum w 1 2 refl in
    rw (e8, e7, e6, e5, e4, e3, e2, e1)

none_or_all : (v bit b : ℕ) → v ≡ b * bit → b < 2 → 0 < bit → (v ≡ 0) ⊎ ((v ≡ bit) × (v ≢ 0))
none_or_all v bit zero e small positive = inl (omega (arith, e))
none_or_all v bit (suc zero) e small positive = inr ((omega (arith, e)), (omega (arith, e)))
none_or_all v bit (suc (suc b)) e small positive = absurd (omega arith)

-- one bit of a word is that bit or 0
bit_is : (w k : ℕ) → bit_and w (2 ^ k) ≡ bit_if (not (bit_and w (2 ^ k) == 0)) (2 ^ k)
bit_is w k =
    let bit = 2 ^ k in
    let v = bit_and w bit in
    ⊎_elim
    (λ (none : v ≡ 0). subst (λ n. n ≡ bit_if (not (n == 0)) bit) (sym none) refl)
    (λ (all : (v ≡ bit) × (v ≢ 0)). rw (ne_eqb v 0 all.1) all.0)
    (none_or_all v bit (bit_at w k) (and_pow w k) (bit_at-lt w k) (pow_pos k))

-- ---- the word of what was seen

pub seen_in-word : (s : Seen) → seen_in (word_of s) ≡ s
unfolding word_of seen_in
seen_in-word s = seen_is (seen_in (word_of s)) s (seen_holds (λ x. same_seen (seen_in (word_of x)) x) refl s)

pub word_of-injective : (x y : Seen) → word_of x ≡ word_of y → x ≡ y
word_of-injective x y e = sym (seen_in-word x) ∙ ap seen_in e ∙ seen_in-word y

-- the disjunction of the bits is their sum
pub joined_bits : (s : Seen) →
    bit_or (bit_or
    (bit_or
    (bit_or
    (bit_or (bit_or (bit_or (bit_if s.flags.sched 1) (bit_if s.flags.missed 2)) (bit_if s.flags.disable 4)) (bit_if s.flags.npsvc 8))
    (bit_if s.flags.in_busy_poll 64)) (bit_if s.flags.threaded 256)) (bit_if s.flags.sched_threaded 512)) (mark_word s.handed)
    ≡ word_of s
unfolding word_of
joined_bits s =
    eqb-true _ _
    (seen_holds
    (λ x. eqb
    (bit_or
    (bit_or
    (bit_or
    (bit_or
    (bit_or (bit_or (bit_or (bit_if x.flags.sched 1) (bit_if x.flags.missed 2)) (bit_if x.flags.disable 4)) (bit_if x.flags.npsvc 8))
    (bit_if x.flags.in_busy_poll 64)) (bit_if x.flags.threaded 256)) (bit_if x.flags.sched_threaded 512)) (mark_word x.handed))
    (word_of x)) refl s)

-- the word of a `Seen` has no unnamed bit, and at most one mark
well_formed : (s : Seen) → (eqb (bit_and (word_of s) other_bits) 0 && not (eqb (bit_and (word_of s) both_marks) both_marks)) ≡ true
unfolding word_of
well_formed s = seen_holds (λ x. eqb (bit_and (word_of x) other_bits) 0 && not (eqb (bit_and (word_of x) both_marks) both_marks)) refl s

pub not_malformed : (s : Seen) → ¬ IsMalformed (word_of s)
not_malformed s m =
    let t = well_formed s in
    ⊎_elim
    (λ (other : bit_and (word_of s) other_bits ≢ 0). other (eqb-true _ _ (and_parts _ _ t).0))
    (λ (both : bit_and (word_of s) both_marks ≡ both_marks). true≢false (sym (and_parts _ _ t).1 ∙ ap not (eq-eqb _ _ both)))
    m

-- a word with no unnamed bit is the sum of its named bits
named_only : (w : ℕ) → w < 18446744073709551616 → bit_and w other_bits ≡ 0 → bit_and w named_bits ≡ w
named_only w small e =
    let parts = and-not 64 named_bits w (omega arith) small in
    let swapped = and_comm w other_bits in
    let named = and_comm w named_bits in
    omega (arith, parts, swapped, named, e)

mark_cases : (p q : Bool) → ¬ ((p ≡ true) × (q ≡ true)) → bit_if p 4294967296 + bit_if q 8589934592 ≡ mark_word (mark_in p q)
mark_cases true true h = absurd (h (refl, refl))
mark_cases true false h = refl
mark_cases false true h = refl
mark_cases false false h = refl

-- at most one of the marks is set
marks_sum : (w : ℕ) → ¬ (bit_and w both_marks ≡ both_marks)
    → bit_and w 4294967296 + bit_and w 8589934592 ≡ mark_word (mark_in (not (bit_and w 4294967296 == 0)) (not (bit_and w 8589934592 == 0)))
marks_sum w one =
    let queued = bit_is w 32 in
    let to_thread = bit_is w 33 in
    let p = not (bit_and w 4294967296 == 0) in
    let q = not (bit_and w 8589934592 == 0) in
    let sum = and_sum w 4294967296 8589934592 refl in
    let both = λ (t : (p ≡ true) × (q ≡ true)).
    one (omega (arith, sum, queued ∙ ap (λ b. bit_if b 4294967296) t.0, to_thread ∙ ap (λ b. bit_if b 8589934592) t.1)) in
    omega (arith, queued, to_thread, mark_cases p q both)

-- a well-formed word is the encoding of the `Seen` that its bits decode to
pub word_of-seen_in : (w : ℕ) → w < 18446744073709551616 → ¬ IsMalformed w → word_of (seen_in w) ≡ w
unfolding word_of seen_in
word_of-seen_in w small ok =
    let none : bit_and w other_bits ≡ 0 =
    ⊎_elim (λ (t : (eqb (bit_and w other_bits) 0 ≡ true) × (bit_and w other_bits ≡ 0)). t.1)
    (λ (f : (eqb (bit_and w other_bits) 0 ≡ false) × (bit_and w other_bits ≢ 0)). absurd (ok (inl f.1)))
    (eqb_tells (bit_and w other_bits) 0) in
    let parts = read_sum w in
    let whole = named_only w small none in
    let marks = marks_sum w (λ b. ok (inr b)) in
    omega (arith, parts, whole, marks, bit_is w 0, bit_is w 1, bit_is w 2, bit_is w 3, bit_is w 6, bit_is w 8, bit_is w 9)
