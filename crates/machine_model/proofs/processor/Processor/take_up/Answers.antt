use Rattle.std.proofs.{Common.{◌∙◌, None, sym}, lemmas.List.Quantifiers.position-Some}
use Rattle.machine_model.specs.Devices.{asks_at}
use Rattle.machine_model.proofs.processor.Processor.take_up.Goals as goal

pub interrupt-requires-clause-asks : goal.interrupt-requires-clause-asks
interrupt-requires-clause-asks c =
    rw (← c.self.view_is)
    (position-Some asks_at c.self.inside.devices c.in-Some.number None (sym c.lowest_asking.ensures.lowest ∙ c.in-Some.is)).1
