use Rattle.std.proofs.Common.{[], ◌∷◌, subst, true, false}
use Rattle.napi_model.specs.declared.event.Operation.TheVariants.{Look, Schedule, Hand, Take, Complete}
use Rattle.{napi_word.specs.declared.table.Pass.Pass, napi_calls.specs.Made.Made, napi_calls.proofs.Making.more}
use Rattle.napi_model.specs.declared.state.Kind.TheVariants as kind
use Rattle.napi_model.specs.declared.event.Prep.TheVariants as prep
use Rattle.napi_model.specs.declared.event.Done.TheVariants as done
use Rattle.core_tests.proofs.events.take_turns.Goals as goal

-- one step for each call; a poll isn't an event
pub returns-clause-first : goal.returns-clause-first
returns-clause-first g c =
    let meets = c.meet.ensures.first in
    let asks = c.granted-owner.ensures.made in
    let misses = c.missed-first.ensures.made in
    let ends = c.released-first.ensures.made in
    let polled =
    subst (λ (p : Pass). Made p (Look ends.0 ∷ Complete done.Released ∷ []) c.released-first.result.pass) c.poll.ensures.pass ends.1 in
    let granted = more (Look asks.0) (Schedule prep.Granted ∷ []) meets.1 asks.1 in
    let handed = more (Hand kind.List) [] granted c.handed-first.ensures.made in
    let not_there = more (Take kind.List false) [] handed c.not_there-first.ensures.made in
    let missed = more (Look misses.0) (Schedule prep.Missed ∷ []) not_there misses.1 in
    let taken = more (Take kind.List true) [] missed c.taken-poller-2.ensures.made in
    (meets.0, asks.0, misses.0, ends.0, more (Look ends.0) (Complete done.Released ∷ []) taken polled)

pub returns-clause-second : goal.returns-clause-second
returns-clause-second g c =
    let meets = c.meet.ensures.second in
    let again = c.again-owner.ensures.made in
    let taken = more (Take kind.List true) [] meets.1 c.taken-poller.ensures.made in
    let granted = more (Look again.0) (Complete done.Again ∷ []) taken again.1 in
    (meets.0, again.0, more (Hand kind.List) [] granted c.handed-second.ensures.made)
