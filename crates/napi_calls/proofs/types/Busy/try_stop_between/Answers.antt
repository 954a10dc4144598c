use Rattle.std.proofs.Common.{◌∙◌, ap, refl}
use Rattle.napi_model.specs.declared.{state.Flags.Flags, event.Call.Call}
use Rattle.napi_calls.proofs.Standing.{looked, looked_flags, kept, busy_looked, busy_made, is_polling, stays_has}
use Rattle.napi_word.specs.declared.history.Holds.TheVariants.{Out}
use Rattle.napi_calls.proofs.{Packets.{owns, held_step, held_more}, Making.{nothing, step, lost}}
use Rattle.napi_calls.proofs.types.Busy.try_stop_between.Goals as goal

pub stop_swap-requires-clause-owner : goal.stop_swap-requires-clause-owner
stop_swap-requires-clause-owner g c = (
  is_polling (looked c.look-seen.new.pass c.args.self.stands c.look-seen.ensures.step.event),
  busy_looked c.look-seen.new.pass c.args.self.stands c.args.self.busy c.look-seen.ensures.step.event,
)

pub invariant_of-result : goal.invariant_of-result
invariant_of-result g c =
    let st = looked c.look-seen.new.pass c.args.self.stands c.look-seen.ensures.step.event in
    let one = c.look-seen.ensures.step in
    let two = c.in-Ok.ensures.step in record {
      stands = kept c.stop_swap.new.pass st two.event (λ s. refl);
      busy = busy_made c.stop_swap.new.pass st two.event (λ n s. refl);
      has = stays_has c.look-seen.new.pass c.stop_swap.new.pass _
          (stays_has c.args.self.pass c.look-seen.new.pass _ c.args.self.has one.holds one.event.ring one.packets) two.holds two.event.ring
          two.packets;
    }

pub invariant_of-result-in-Err : goal.invariant_of-result-in-Err
invariant_of-result-in-Err g c =
    let st = looked c.look-seen.new.pass c.args.self.stands c.look-seen.ensures.step.event in
    let busy = busy_looked c.look-seen.new.pass c.args.self.stands c.args.self.busy c.look-seen.ensures.step.event in
    let one = c.look-seen.ensures.step in
    let two = c.in-Err.ensures.step in record {
      stands = looked c.stop_swap.new.pass st two.event;
      busy = busy_looked c.stop_swap.new.pass st busy two.event;
      has = stays_has c.look-seen.new.pass c.stop_swap.new.pass _
          (stays_has c.args.self.pass c.look-seen.new.pass _ c.args.self.has one.holds one.event.ring one.packets) two.holds two.event.ring
          two.packets;
    }

pub returns-in-Ok-clause-events : goal.returns-in-Ok-clause-events
returns-in-Ok-clause-events g c =
    let one = step (nothing c.args.self.stands) c.look-seen.ensures.step in
    (_, step one c.in-Ok.ensures.step)

pub returns-in-Err-clause-events : goal.returns-in-Err-clause-events
returns-in-Err-clause-events g c =
    let one = step (nothing c.args.self.stands) c.look-seen.ensures.step in
    let busy = busy_looked c.look-seen.new.pass c.args.self.stands c.args.self.busy c.look-seen.ensures.step.event in
    let on =
    ap (λ (f : Flags). f.in_busy_poll) (looked_flags c.args.self.pass c.look-seen.new.pass c.look-seen.ensures.step.event) ∙ busy in
    lost Call.BusyStop _ _ on c.in-Err.ensures.other
    (step one c.in-Err.ensures.step)

pub returns-in-Ok-clause-packets : goal.returns-in-Ok-clause-packets
returns-in-Ok-clause-packets g c =
    let p = c.args.self.pass in
    let q = c.look-seen.new.pass in
    let one = c.look-seen.ensures.step in (
      held_more (held_step p q (owns p Out c.args.self.has.holds refl) one.packets)
          (held_step q c.stop_swap.new.pass (owns q Out (one.holds ∙ c.args.self.has.holds) refl) c.in-Ok.ensures.step.packets),
      refl,
    )

pub returns-in-Err-clause-packets : goal.returns-in-Err-clause-packets
returns-in-Err-clause-packets g c =
    let p = c.args.self.pass in
    let q = c.look-seen.new.pass in
    let one = c.look-seen.ensures.step in (
      held_more (held_step p q (owns p Out c.args.self.has.holds refl) one.packets)
          (held_step q c.stop_swap.new.pass (owns q Out (one.holds ∙ c.args.self.has.holds) refl) c.in-Err.ensures.step.packets),
      refl,
    )
