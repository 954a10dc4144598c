use Rattle.{std.proofs.Common.ap, atomic_table.specs.Table.Me, napi_word.specs.{Knowledge.Knowledge, Slot.{Content, ctx_in}}}
use Rattle.napi_word.proofs.table.StateTable.slot_in.Goals as goal

pub returns-clause-stored : goal.returns-clause-stored
returns-clause-stored c = record {
  stored = c.apart.new.self;
  within = ap (λ (m : Me Content Knowledge). ctx_in m.1) c.exchange-old.ensures.3;
  ring = c.apart.ensures.ring;
  received = c.apart.ensures.received;
  known = c.apart.ensures.known;
  polls = c.apart.ensures.polls;
  unmarked = c.apart.ensures.unmarked;
}
