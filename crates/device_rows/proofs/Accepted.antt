-- The rows of a trace are accepted, each after those before it.
use Rattle.std.proofs.Common.{◌≡◌, ℕ, zero, suc, ◌<◌, List, [], ◌∷◌, ◌++◌, length, get_or, refl, sym, append_assoc, arith, Some}
use Rattle.std.{proofs.lemmas.List.append-nil, specs.Prelude.slice_get}
use Rattle.std.proofs.Common.{◌∙◌, ◌+◌, Vec, ap, subst, length-append, vec_capacity, vec_items, vec_len}
use Rattle.device_rows.specs.{Adding.IsSoFar, Switch.Tracks, Trace.{AcceptedAfter, IsAccepted}}
use Rattle.device_rows.specs.declared.{row.Row.{Row}, switch.Switch.{Switch}}

-- one more row
pub accepted-push : (earlier rows : List Row) (row : Row) → AcceptedAfter earlier rows → IsAccepted (earlier ++ rows) row
    → AcceptedAfter earlier (rows ++ row ∷ [])
accepted-push earlier [] row h next =
    let same = rw (append-nil earlier) at next in
    (same, tt)
accepted-push earlier (r ∷ rs) row h next =
    let same = rw (sym (append_assoc earlier (r ∷ []) rs)) at next in
    (h.0, accepted-push (earlier ++ r ∷ []) rs row h.1 same)

-- a row of a trace
pub accepted-at : (earlier rows : List Row) (i : ℕ) (d : Row) → i < length rows → AcceptedAfter earlier rows
    → (before : List Row) × IsAccepted before (get_or rows i d)
accepted-at earlier [] i d below h = absurd (omega (arith, below))
accepted-at earlier (row ∷ rows) zero d below h = (earlier, h.0)
accepted-at earlier (row ∷ rows) (suc i) d below h = accepted-at (earlier ++ row ∷ []) rows i d (omega (arith, below)) h.1

-- the row at an index
pub get-at : (rows : List Row) (i : ℕ) (d : Row) → i < length rows → slice_get rows i ≡ Some (get_or rows i d)
get-at [] i d below = absurd (omega (arith, below))
get-at (row ∷ rows) zero d below = refl
get-at (row ∷ rows) (suc i) d below = get-at rows i d (omega (arith, below))

-- the rows so far, and one more that they accept
pub so_far-push : {A : Type 0} (old new : List Switch) (before after : Vec Row A) (row : Row) → IsSoFar old before
    → length (vec_items before) < 100000 → vec_items after ≡ vec_items before ++ row ∷ [] → vec_len after ≡ vec_len before + 1
    → vec_capacity after ≡ vec_capacity before → Tracks new (vec_items before ++ row ∷ []) → IsAccepted (vec_items before) row
    → IsSoFar new after
so_far-push old new before after row so_far below items len capacity tracks accepted =
    let size : length (vec_items after) ≡ length (vec_items before) + 1 =
    ap (λ rows. length rows) items ∙ length-append (vec_items before) (row ∷ []) in
    record {
      room = omega (arith, capacity, so_far.room);
      filled = omega (arith, len, size, so_far.filled);
      few = omega (arith, size, below);
      tracks = subst (Tracks new) (sym items) tracks;
      accepted = subst (AcceptedAfter []) (sym items) (accepted-push [] (vec_items before) row so_far.accepted accepted);
    }
