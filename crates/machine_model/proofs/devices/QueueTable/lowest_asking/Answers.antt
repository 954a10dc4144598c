use Rattle.machine_model.proofs.devices.QueueTable.lowest_asking.Goals as goal

pub returns-clause-lowest : goal.returns-clause-lowest
returns-clause-lowest c =
    rw (← c.self.view_is) (c.lowest_in.ensures.lowest c.self.inside.places.items c.self.invariant.0 c.self.invariant.1.asking)
