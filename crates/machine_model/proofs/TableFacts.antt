-- The entry at a number of a table, after one entry changed.
use Rattle.std.proofs.{Common.{◌≡◌, ℕ, Bool, true, false, Option, Some, None, refl, subst, arith}, lemmas.Bool.eqb-true}
use Rattle.std.{proofs.lemmas.Grind.common_steps, specs.{Prelude.{◌==◌}}}
use Rattle.device_places.specs.Places.{DeviceTable, at, changed, changed_from}

unfoldable pub map_at : {A : Type 0} → (A → A) → Option A → Option A
map_at f None = None
map_at f (Some d) = Some (f d)

at-here-from : {A : Type 0} (f : A → A) (n : ℕ) (ds : DeviceTable A) (o : Option A) → at n ds ≡ o
    → at n (changed_from f n o ds) ≡ map_at f o
unfolding map_at
at-here-from f n ds o h1 = grind (arith, common_steps)

pub at-changed : {A : Type 0} (f : A → A) (n : ℕ) (ds : DeviceTable A) → at n (changed f n ds) ≡ map_at f (at n ds)
at-changed f n ds = at-here-from f n ds (at n ds) refl

pub at-same : {A : Type 0} (P : Option A → Type 0) (m n : ℕ) (ds : DeviceTable A) → (m == n) ≡ true → P (at m ds) → P (at n ds)
at-same P m n ds same held = subst (λ (k : ℕ). P (at k ds)) (eqb-true m n same) held

-- what has to be shown about the entry that changes, and about each other entry, which is unchanged
pub at-either : {A : Type 0} (Q : Bool → Option A → Type 0) (f : A → A) (m n : ℕ) (ds : DeviceTable A)
    → ((m == n) ≡ true → Q true (map_at f (at n ds))) → ((m == n) ≡ false → Q false (at n ds)) → Q (m == n) (at n (changed f m ds))
at-either Q f m n ds h1 h2 = grind (arith, common_steps, at-changed)

-- a property of an entry that the change keeps
pub at-keeps : {A : Type 0} (K : Option A → Type 0) (f : A → A) (m n : ℕ) (ds : DeviceTable A)
    → ((m == n) ≡ true → K (at n ds) → K (map_at f (at n ds))) → K (at n ds) → K (at n (changed f m ds))
at-keeps K f m n ds keeps held = at-either (λ b o. K o) f m n ds (λ here. keeps here held) (λ other. held)

pub map-kept : {A B : Type 0} → (g : Option A → B) (f : A → A) (o : Option A) → ((d : A) → g (Some (f d)) ≡ g (Some d))
    → g (map_at f o) ≡ g o
unfolding map_at
map-kept g f o h1 = grind (arith, common_steps)

-- if a change keeps a part of the entry that it changes, it keeps that part of every entry
pub at-kept : {A B : Type 0} → (g : Option A → B) (f : A → A) (m n : ℕ) (ds : DeviceTable A) → ((d : A) → g (Some (f d)) ≡ g (Some d))
    → g (at n (changed f m ds)) ≡ g (at n ds)
at-kept g f m n ds h1 = grind (arith, common_steps)
