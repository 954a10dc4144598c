-- The machine takes one more arrival.
use Rattle.std.proofs.{Common.{rules, List, [], ◌∷◌, ◌++◌, refl}}
use Rattle.machine_model.specs.Machine.{PacketArrives, Machine}
use Rattle.machine.specs.{Answer.TakesArrivals, declared.arrival.Arrival.Arrival}

pub takes-push : (earlier : List Arrival) (arrival : Arrival) (before middle after : Machine) → TakesArrivals earlier before middle
    → PacketArrives arrival.moment arrival.device middle after → TakesArrivals (earlier ++ arrival ∷ []) before after
takes-push [] arrival before middle after taken one = (after, rw taken at one, refl)
takes-push (a ∷ earlier) arrival before middle after taken one = search (rules, takes-push earlier arrival taken.0 middle after taken.2 one)
