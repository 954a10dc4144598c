-- What a context knows of the ring after its ends meet.
use Rattle.std.proofs.Common.{◌≡◌, List, [], ◌∷◌, ◌++◌, length, drop, refl, sym, ap, ◌∙◌}

front_dropped : {A : Type 0} → (xs ys : List A) → drop (length xs) (xs ++ ys) ≡ ys
front_dropped [] ys = refl
front_dropped (x ∷ xs) ys = front_dropped xs ys

-- if the packets received and the packets known are all that were put, the known ones are what the ring holds
pub known_all : {A : Type 0} → (received known put : List A) → received ++ known ≡ put → known ≡ drop (length received) put
known_all received known put e = sym (front_dropped received known) ∙ ap (drop (length received)) e
