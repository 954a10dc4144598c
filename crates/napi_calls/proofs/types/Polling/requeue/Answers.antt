use Rattle.{std.proofs.Common.{refl, ap}, napi_word.specs.{declared.history.Holds.TheVariants.Within, Knowledge.view_number}}
use Rattle.napi_calls.{specs.Knows.Free, proofs.{Standing.{made, moved}, Packets.{owns, held_self, held_still, gives_back}}}
use Rattle.napi_calls.proofs.Making.{nothing, step, still}
use Rattle.napi_calls.proofs.types.Polling.requeue.Goals as goal

pub invariant_of-result : goal.invariant_of-result
invariant_of-result c =
    record {
      stands =
          made Free c.hand.new.pass (moved c.slot_in.new.pass c.args.self.stands c.slot_in.ensures.keeps.view) c.hand.ensures.step.event
          (λ s. refl);
    }

pub returns-clause-event : goal.returns-clause-event
returns-clause-event c =
    let s = c.slot_in.ensures in
    step (still (nothing c.args.self.stands) s.keeps) c.hand.ensures.step

pub returns-clause-packets : goal.returns-clause-packets
returns-clause-packets c =
    let p = c.args.self.pass in
    let q = c.slot_in.new.pass in
    let s = c.slot_in.ensures in
    gives_back p q c.hand.new.pass c.args.self.ctx (held_still q (held_self p) s.keeps.view) (ap view_number s.keeps.view) s.stored
    (owns q Within s.holds refl) c.hand.ensures.step.packets
