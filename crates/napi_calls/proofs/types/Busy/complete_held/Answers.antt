use Rattle.{std.proofs.Common.refl, napi_calls.proofs.{Standing.{kept, busy_kept, is_polling, stays_has}, Packets.{owns, held_step}}}
use Rattle.{napi_calls.proofs.Making.{nothing, step}, napi_word.specs.declared.history.Holds.TheVariants.Out}
use Rattle.napi_calls.proofs.types.Busy.complete_held.Goals as goal

pub complete_load-requires-clause-owner : goal.complete_load-requires-clause-owner
complete_load-requires-clause-owner c = (is_polling c.args.self.now.stands, c.args.self.now.busy)

pub invariant_of-self : goal.invariant_of-self
invariant_of-self c = record {
  stands = kept c.complete_load.new.pass c.args.self.now.stands c.complete_load.ensures.event (λ s. refl);
  busy = busy_kept c.complete_load.new.pass c.args.self.now.stands c.args.self.now.busy c.complete_load.ensures.event (λ n s. refl);
  has = stays_has c.args.self.now.pass c.complete_load.new.pass _ c.args.self.now.has c.complete_load.ensures.holds
      c.complete_load.ensures.event.ring c.complete_load.ensures.packets;
}

pub returns-clause-event : goal.returns-clause-event
returns-clause-event c =
    step (nothing c.args.self.now.stands) c.complete_load.ensures

pub returns-clause-packets : goal.returns-clause-packets
returns-clause-packets c =
    held_step c.args.self.now.pass c.complete_load.new.pass
    (owns c.args.self.now.pass Out c.args.self.now.has.holds refl) c.complete_load.ensures.packets
