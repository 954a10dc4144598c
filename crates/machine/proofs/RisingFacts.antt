-- The times of arrivals are below 2^62 and don't decrease.
use Rattle.std.proofs.{Common.{◌≡◌, ◌∙◌, ℕ, ◌+◌, ◌<◌, ◌≤◌, ◌^◌, List, [], ◌∷◌, ◌++◌, append_assoc, length, refl, sym, arith, Option}}
use Rattle.std.{proofs.lemmas.{Grind.common_steps, List.append-nil}, specs.Prelude.{Result, Ok, Err}}
use Rattle.machine.{proofs.ReadingFacts.last-push, specs.{Arrivals.{◌>>=◌, ArrivalFields, arrival_of, arrivals_after, arrivals_of}}}
use Rattle.machine.specs.{Arrivals.{arrival_fields, last_moment, arrival_of_fields, arrival_in_range}, declared.arrival.Arrival.Arrival}
use Rattle.machine.specs.declared.{arrival.Numbers.Numbers, fault.MachineFault.MachineFault}
use Rattle.machine_model.specs.declared.settings.MachineSettings.{MachineSettings}

-- the times of these arrivals are below 2^62, and don't decrease from this one on
abbrev pub Rises : ℕ → List Arrival → Type 0
Rises last [] = Unit {0}
Rises last (arrival ∷ arrivals) = (last ≤ arrival.moment) × (arrival.moment < 2 ^ 62) × Rises arrival.moment arrivals

pub same-ok : {A : Type 0} (x y : A) → (r : Result A MachineFault) → r ≡ Ok x → r ≡ Ok y → x ≡ y
same-ok x y r first second = cc (first, second)

rises-ranged : (s : MachineSettings) (n last : ℕ) (row : Numbers) (a : Arrival) → arrival_in_range s n last row ≡ Ok a
    → (last ≤ a.moment) × (a.moment < 2 ^ 62)
unfolding arrival_in_range
rises-ranged s n last row a is = grind (arith, common_steps, same-ok)

rises-four : (s : MachineSettings) (n last : ℕ) (four : Option ArrivalFields) (a : Arrival) → arrival_of_fields s n last four ≡ Ok a
    → (last ≤ a.moment) × (a.moment < 2 ^ 62)
unfolding arrival_of_fields
rises-four s n last four a is = grind (arith, common_steps, rises-ranged)

rises-after : (s : MachineSettings) (earlier : List Arrival) (records : List (List (List ℕ))) (all : List Arrival)
    → arrivals_after s earlier records ≡ Ok all
    → (more : List Arrival) × (all ≡ earlier ++ more) × Rises (last_moment earlier) more
unfolding arrivals_after
rises-after s earlier [] all is = ([], sym (same-ok earlier all _ refl is) ∙ sym (append-nil earlier), tt)
rises-after s earlier (fields ∷ records) all is =
    by (arrival_of s earlier fields) refl is (λ a e. rises-after s (earlier ++ a ∷ []) records all e)
  where
    by : (r : Result Arrival MachineFault) → arrival_of s earlier fields ≡ r
        → (r >>= (λ arrival. arrivals_after s (earlier ++ arrival ∷ []) records)) ≡ Ok all
        → ((a : Arrival) → arrivals_after s (earlier ++ a ∷ []) records ≡ Ok all
        → (more : List Arrival) × (all ≡ (earlier ++ a ∷ []) ++ more) × Rises (last_moment (earlier ++ a ∷ [])) more)
        → (more : List Arrival) × (all ≡ earlier ++ more) × Rises (last_moment earlier) more
    by (Err fault) one is next = cc is
    by (Ok a) one is next =
        let (more, whole, rises) = next a is in
        let first = rises-four s (length earlier + 1) (last_moment earlier) (arrival_fields s.queues fields) a one in
        (a ∷ more, whole ∙ append_assoc earlier (a ∷ []) more, (first.0, first.1, rw last-push at rises))

pub rises-of : (s : MachineSettings) (records : List (List (List ℕ))) (all : List Arrival) → arrivals_of s records ≡ Ok all → Rises 0 all
unfolding arrivals_of
rises-of s records all is = grind (arith, common_steps, rises-after)
