-- The calls of a list that an object accepts.
use Rattle.std.specs.Prelude.{List, [], ◌∷◌, Option, is_some, fold, if◌then◌else◌}

-- `fault s e` is the error of the call e in the state s, if it fails; `after s e` is the state after a call that succeeds
module _ {S E F : Type 0} (fault : S → E → Option F) (after : S → E → S) where
  -- the calls that succeed, in order, from the state s on; a call that fails doesn't change the state
  abbrev pub accepted : S → List E → List E
  accepted s [] = []
  accepted s (e ∷ es) = if is_some (fault s e) then accepted s es else e ∷ accepted (after s e) es

  -- the state after all calls of the list: the fold over those that succeed
  abbrev pub after_all : S → List E → S
  after_all s es = fold after s (accepted s es)

  -- the state after one call, whether or not it succeeds
  abbrev pub after_call : S → E → S
  after_call s e = if is_some (fault s e) then s else after s e
