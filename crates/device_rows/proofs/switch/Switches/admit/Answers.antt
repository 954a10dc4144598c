use Rattle.std.proofs.Common.{◌≡◌, ◌≢◌, ◌∙◌, sym, rules, length, ap}
use Rattle.device_rows.specs.Switch.{set_by}
use Rattle.device_rows.{specs.declared.event.RowEvent.TheVariants.Softirq, proofs.SwitchFacts.{device_range, tracks-same, tracks-set}}
use Rattle.device_rows.proofs.switch.Switches.admit.Goals as goal

pub returns-then-eq-clause-tracks : goal.returns-then-eq-clause-tracks
returns-then-eq-clause-tracks c earlier t =
    let same : c.args.row.event ≡ Softirq = search rules in
    tracks-same c.args.self.now.of earlier c.args.row (ap set_by same) t

pub returns-in-Some-set_by-clause-tracks : goal.returns-in-Some-set_by-clause-tracks
returns-in-Some-set_by-clause-tracks c earlier t =
    let other : c.args.row.event ≢ Softirq = search rules in
    let range = device_range c.args.row.event c.args.row.device other c.requires in
    let size : length c.args.self.now.of ≡ 16 = search rules in
    tracks-set c.args.self.now.of earlier c.args.row c.in-Some-set_by.switch
    (sym c.set_by.ensures ∙ c.in-Some-set_by.is) range.0 range.1 size t

pub returns-in_default-set_by-clause-tracks : goal.returns-in_default-set_by-clause-tracks
returns-in_default-set_by-clause-tracks c earlier t =
    tracks-same c.args.self.now.of earlier c.args.row (sym c.set_by.ensures ∙ c.in_default-set_by.is) t
