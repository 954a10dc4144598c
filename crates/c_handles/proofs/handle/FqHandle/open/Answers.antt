use Rattle.std.proofs.Common.{◌∙◌}
use Rattle.c_handles.proofs.There.{there}
use Rattle.c_handles.proofs.handle.FqHandle.open.Goals as goal

-- src/handle.rt:52:18
pub into_parts-requires : goal.into_parts-requires
into_parts-requires c = there c.args.self.held.body (c.args.self.is_set ∙ c.if-set.true)
