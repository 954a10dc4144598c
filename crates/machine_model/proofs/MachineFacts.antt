-- One processor of the machine changes.
use Rattle.std.proofs.{Common.{◌≡◌, ◌∙◌, ℕ, zero, suc, ◌+◌, ◌-◌, ◌*◌, ◌/◌, ◌%◌, ◌<◌, ◌≤◌, Some, List, [], ◌∷◌, length, length-set, get_or}}
use Rattle.std.{proofs.{Common.{slice_set, ◌⊎◌, inl, inr, refl, sym, arith}, Math.Nat.{eq-or-lt_of_le, mod-lt}}, specs.Prelude.slice_get}
use Rattle.circular_buffer.proofs.Places.{slice_get-set_other, slice_get-set_same}
use Rattle.machine_model.specs.{Machine.{PacketArrives, ArrivesAt, Finishes, FinishesAt, Machine}, Processor.ProcessorView}

pub get-some : {A : Type 0} → (xs : List A) (i : ℕ) (x : A) → i < length xs → get_or xs i x ≡ x → slice_get xs i ≡ Some x
get-some [] i x below is = absurd (omega (arith, below))
get-some (y ∷ ys) zero x below is = rw is refl
get-some (y ∷ ys) (suc i) x below is = get-some ys i x (omega (arith, below)) is

pub arrive-exact : (moment device count : ℕ) (before : Machine) (old new : ProcessorView) → count ≡ length before → 1 ≤ device
    → device ≤ 64 * length before
    → get_or before ((device - 1) % count) old ≡ old → ArrivesAt moment ((device - 1) / count) old new
    → PacketArrives moment device before (slice_set before ((device - 1) % count) new)
arrive-exact moment device count before old new is least most value arrives =
    let some : 0 < length before = omega (arith, least, most) in
    rw is (record {
      old = old;
      new = new;
      own = get-some before ((device - 1) % length before) old (mod-lt (device - 1) some) (rw is at value);
      arrives = rw is at arrives;
      others = refl;
    })

-- the first processors have finished: nothing is left on them; the others haven't yet
pub record Finished (before now : Machine) (count : ℕ) : Type 0 where
  pub size : length now ≡ length before
  pub done : (n : ℕ) (p : ProcessorView) → n < count → slice_get before n ≡ Some p
      → (q : ProcessorView) × (slice_get now n ≡ Some q) × FinishesAt p q
  pub rest : (n : ℕ) → count ≤ n → slice_get now n ≡ slice_get before n

pub finished-none : (before : Machine) → Finished before before 0
finished-none before = record { size = refl; done = λ n p below is. absurd (omega (arith, below)); rest = λ n above. refl }

pub same-some : (p q : ProcessorView) → Some p ≡ Some q → p ≡ q
same-some p q e = cc e

pub finished-more : (before now : Machine) (count : ℕ) (old new : ProcessorView) → Finished before now count → count < length now
    → get_or now count old ≡ old
    → FinishesAt old new → Finished before (slice_set now count new) (count + 1)
finished-more before now count old new f below value runs = record {
  size = length-set now count new ∙ f.size;
  done = λ n p less is. by n p is (eq-or-lt_of_le {n = n} {m = count} (omega (arith, less)));
  rest = λ n above. slice_get-set_other now count n new (omega (arith, above)) ∙ f.rest n (omega (arith, above));
}
  where
    by : (n : ℕ) (p : ProcessorView) → slice_get before n ≡ Some p → (n ≡ count) ⊎ (n < count)
        → (q : ProcessorView) × (slice_get (slice_set now count new) n ≡ Some q) × FinishesAt p q
    by n p is (inl same) =
        let own : slice_get now count ≡ Some old = get-some now count old below value in
        let first : slice_get before count ≡ Some p = rw same at is in
        let equal : p ≡ old = same-some p old (sym first ∙ (sym (f.rest count (omega arith)) ∙ own)) in
        (new, rw same (slice_get-set_same now count new below), rw equal runs)
    by n p is (inr less) =
        let q = f.done n p less is in
        (q.0, slice_get-set_other now count n new (omega (arith, less)) ∙ q.1, q.2)

pub finished-all : (before now : Machine) (count : ℕ) → Finished before now count → length before ≤ count → Finishes before now
finished-all before now count f all = record { count = f.size; each = λ n p is. f.done n p (omega (arith, all, inside before n p is)) is }
  where
    inside : (xs : Machine) (n : ℕ) (p : ProcessorView) → slice_get xs n ≡ Some p → n < length xs
    inside [] n p is = cc is
    inside (x ∷ xs) zero p is = omega arith
    inside (x ∷ xs) (suc n) p is = omega (arith, inside xs n p is)
