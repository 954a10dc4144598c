-- The effect of one more act.
use Rattle.std.proofs.lemmas.Grind.{common_steps}
use Rattle.std.proofs.Common.{◌≡◌, ℕ, ◌+◌, ◌≤◌, length, List, [], ◌∷◌, ◌++◌, sym, arith, add-one, ap, subst, Bool}
use Rattle.rx_ring.specs.{declared.packet.Packet.Packet, declared.ends.RxIn.RxIn, Ends.SameIn}
use Rattle.poll_engine.specs.{declared.acts.Act.Act, declared.worker.WorkerHandles.WorkerHandles, Acts.{after_acts, arrivals, brings}}
use Rattle.poll_engine.specs.{Calls.{Acts, AllActs}, Questions.all_questions}

pub after_acts-more : {D : Type 0} (after : D → ℕ → D) (d : D) (n : ℕ) → after_acts after d (n + 1) ≡ after (after_acts after d n) n
after_acts-more after d n = ap (λ m. after_acts after d m) (add-one n)

pub arrivals-more : {D : Type 0} (answer : D → ℕ → Act) (after : D → ℕ → D) (d : D) (n : ℕ)
    → arrivals answer after d (n + 1) ≡ arrivals answer after d n ++ brings (answer (after_acts after d n) n)
arrivals-more answer after d n = ap (λ m. arrivals answer after d m) (add-one n)

pub acts-more : {D : Type 0} (thread : Bool) (answer : D → ℕ → Act) (after : D → ℕ → D) (d : D) (n : ℕ) (a m b : WorkerHandles)
    (first rx last : RxIn)
    → AllActs thread answer after d n a m first rx → SameIn rx last → Acts thread (answer (after_acts after d n) n) m b rx last
    → AllActs thread answer after d (n + 1) a b first last
acts-more thread answer after d n a m b first rx last before same one =
    subst (λ k. AllActs thread answer after d k a b first last) (sym (add-one n)) (m, rx, before, same, one)

-- one more question
pub asked_more : {D : Type 0} (after : D → ℕ → D) (number n : ℕ) (d now : D) (old before mid last : List (ℕ × ℕ × D))
    → before ≡ old ++ all_questions after number d n → now ≡ after_acts after d n → mid ≡ before ++ (number, n, now) ∷ [] → last ≡ mid
    → last ≡ old ++ all_questions after number d (n + 1)
asked_more after number n d now old before mid last so_far made one same =
    let more = ap (λ m. all_questions after number d m) (add-one n) in
    grind (arith, common_steps, so_far, made, one, same, more)

pub ruleset steps = (after_acts-more, arrivals-more)

-- the packets of one more act are put, if there is room for all
pub put_more : (old arrived brought all now after : List Packet) (places : ℕ)
    → all ≡ arrived ++ brought
    → (length old + length arrived ≤ places → now ≡ old ++ arrived)
    → (length now + length brought ≤ places → after ≡ now ++ brought)
    → length old + length all ≤ places → after ≡ old ++ all
put_more old arrived brought all now after places more before then room = grind (arith, common_steps)
