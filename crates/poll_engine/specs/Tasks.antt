-- A task that was started.
use Rattle.std.specs.{Prelude.{◌≡◌, ℕ, ◌<◌, ◌≤◌, List, length, slice_index_or, vec_len, vec_capacity}, Global.Vec}
use Rattle.poll_engine.specs.{declared.tasks.Spawned.Spawned, declared.tasks.Spawned.TheVariants.{Running, Ended}}

-- a task's thread was started, or the task was run without one
abbrev pub IsSpawned : {J : Type 0} → (J → J → Type 0) → J → Spawned J → Type 0
IsSpawned gives task (Running handle) = handle.promise.0.value ≡ task
IsSpawned gives task (Ended after) = gives task after

-- the vector is empty, with room for this many items
abbrev pub HasRoom : {A : Type 0} → ℕ → Vec A → Type 0
HasRoom count room = (vec_len room ≡ 0) × (count ≤ vec_capacity room)

-- the list has this item at this index
abbrev pub IsAt : {A : Type 0} → List A → ℕ → A → Type 0
IsAt xs k x = (k < length xs) × (slice_index_or xs k x ≡ x)

-- this property holds for each item and its index
abbrev pub EachAt : {A : Type 0} → (ℕ → A → Type 0) → List A → Type 0
EachAt {A} P xs = (k : ℕ) (d : A) → k < length xs → P k (slice_index_or xs k d)
