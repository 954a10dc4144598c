use Rattle.std.proofs.Common.{◌∙◌, sym}
use Rattle.device_bench.proofs.SideFacts.{sides-attached}
use Rattle.device_bench.proofs.bench.DeviceBench.attached.Goals as goal

pub returns-clause-transmits : goal.returns-clause-transmits
returns-clause-transmits g c all shown =
    c.taken_places.ensures ∙ sides-attached _ all (shown.sides.places ∙ sym c.args.self.now.places) shown.each
