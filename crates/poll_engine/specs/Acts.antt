-- The effect of a device's acts.
use Rattle.std.specs.Prelude.{ℕ, zero, suc, List, [], ◌∷◌, ◌++◌}
use Rattle.{rx_ring.specs.declared.packet.Packet.Packet, poll_engine.specs.{declared.acts.Act.Act, declared.acts.Act.TheVariants.Arrive}}

-- the device after it was asked for its first n acts, each once and in order
abbrev pub after_acts : {D : Type 0} → (D → ℕ → D) → D → ℕ → D
after_acts after d zero = d
after_acts after d (suc n) = after (after_acts after d n) n

abbrev pub brings : Act → List Packet
brings (Arrive p) = p ∷ []
brings _ = []

-- the packets that arrive by its first n acts
abbrev pub arrivals : {D : Type 0} → (D → ℕ → Act) → (D → ℕ → D) → D → ℕ → List Packet
arrivals answer after d zero = []
arrivals answer after d (suc n) = arrivals answer after d n ++ brings (answer (after_acts after d n) n)
