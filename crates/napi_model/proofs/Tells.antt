-- The state word before an operation determines the word after it.
use Rattle.std.proofs.Common.{◌≡◌, ℕ, Option, true, refl, sym, ap}
use Rattle.napi_model.specs.Step.{IsLegalBy, after_by, seen_of, seen_after}
use Rattle.napi_model.specs.{Step.{handed_at, handed_after, flags_after, place_after}, declared.state.{State.State, Seen.Seen, Flags.Flags}}
use Rattle.napi_model.specs.declared.{state.Kind.Kind, event.Operation.{Operation, TheVariants.{Schedule, Hand, Take, Complete, BusyTake}}}
use Rattle.napi_model.specs.declared.event.{Operation.TheVariants.{TakeDisable, Enable}, Prep.Prep, Done.TheVariants.{Released, Again}}
use Rattle.napi_model.specs.Laws.{IsSound}

handed_next : (c : ℕ) (o : Operation) (s : State) → IsLegalBy c o s → IsSound s
    → handed_at (place_after c o s.place) ≡ handed_after o (handed_at s.place)
handed_next c (Schedule Prep.Granted) s l sound = sym (ap handed_at (sound l.1))
handed_next c (Hand Kind.List) s l sound = refl
handed_next c (Take k true) s l sound = refl
handed_next c (Complete Again) s l sound = sym (ap handed_at l.0)
handed_next c (Complete Released) s l sound = sym (ap handed_at l.0)
handed_next c BusyTake s l sound = sym (ap handed_at (sound l.1))
handed_next c (TakeDisable true) s l sound = sym (ap handed_at (sound l.1))
handed_next c (Enable b) s l sound = sym (ap handed_at l.0)
handed_next c o s l sound = refl

abbrev seen_with : Flags → Option Kind → Seen
seen_with f m = record { flags = f; handed = m }

pub tells_next : (c : ℕ) (o : Operation) (s : State) → IsLegalBy c o s → IsSound s → seen_of (after_by c o s) ≡ seen_after o (seen_of s)
tells_next c o s l sound = ap (seen_with (flags_after o s.flags)) (handed_next c o s l sound)
