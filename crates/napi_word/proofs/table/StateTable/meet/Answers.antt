use Rattle.std.proofs.Common.{sym, ap, ◌∙◌, subst}
use Rattle.napi_model.specs.declared.event.Operation.TheVariants.{Look}
use Rattle.{atomic_table.specs.Table.Me}
use Rattle.{napi_word.specs.{Slot.{Content, stays, SlotDelivers}, Knowledge.{Knowledge, view_shown}, Rule.joined, Events.Steps}}
use Rattle.napi_word.proofs.{Said.one_there, Splitting.{copies, joins}, Meets.{steps_joined, delivers_joined, meets}}
use mathlib.Core.List.{IsPrefix}
use Rattle.napi_word.proofs.table.StateTable.meet.Goals as goal

pub split_seat-copy-requires : goal.split_seat-copy-requires
split_seat-copy-requires c =
    (c.look-found.ensures.step.table ∙ c.requires.first, one_there c.args.self.now, copies _ _ _ c.look-found.new.pass.is_pass)

pub join_seat-requires : goal.join_seat-requires
join_seat-requires c =
    let n = c.split_seat-copy.ensures in (
      c.requires.second,
      n.3 ∙ c.look-found.ensures.step.table
          ∙ c.requires.first,
      ap (λ m. m.1) n.4,
      one_there c.args.self.now,
      joins _ _ _ _ _ c.args.second.now.is_pass,
    )

pub returns-clause-second : goal.returns-clause-second
returns-clause-second c =
    let v : Knowledge = c.args.second.now.seat.me.0 in
    let j = c.join_seat.ensures in
    let l = c.look.ensures.step in
    let e = subst (λ (u : Knowledge). Steps u (Look c.look.result) c.look.new.pass.seat.me.0) (ap (λ m. m.0) j.2) l.event in
    record {
      table = l.table ∙ j.0;
      holds = l.holds;
      event = steps_joined v c.split_seat-copy.result.me.0 (Look c.look.result) c.look.new.pass.seat.me.0 c.args.second.now.is_pass e;
      packets =
          delivers_joined v c.split_seat-copy.result.me.0 c.args.second.now.seat.me.1 c.look.new.pass.seat.me c.args.second.now.is_pass
          (subst (λ (m : Me Content Knowledge). SlotDelivers stays m c.look.new.pass.seat.me) j.2 l.packets);
    }

pub returns-clause-met : goal.returns-clause-met
returns-clause-met c =
    let v : Knowledge = c.args.second.now.seat.me.0 in
    let a : Knowledge = c.look-found.new.pass.seat.me.0 in
    let n = c.split_seat-copy.ensures in
    let j = c.join_seat.ensures in
    let is = ap (λ m. m.0) j.2 ∙ ap (λ (w : Knowledge). joined v w) (ap (λ m. m.0) n.4) in
    let e = subst (λ (u : Knowledge). Steps u (Look c.look.result) c.look.new.pass.seat.me.0) is c.look.ensures.step.event in
    subst (λ (u : Knowledge). IsPrefix (view_shown u) (view_shown c.look.new.pass.seat.me.0)) (sym (ap (λ m. m.0) n.2))
    (meets v a (Look c.look.result) c.look.new.pass.seat.me.0 c.look-found.new.pass.is_pass e)
