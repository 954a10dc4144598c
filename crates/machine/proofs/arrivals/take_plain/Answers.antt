use Rattle.std.proofs.Common.{◌∙◌, ◌-◌, length, sym, ap}
use Rattle.machine.proofs.ReadingFacts.{plain-taken}
use Rattle.machine.proofs.arrivals.take_plain.Goals as goal

pub returns-clause-row : goal.returns-clause-row
returns-clause-row g c bytes holds =
    let size = ap (λ t. length t - length c.in_ok-arrival.rest.now) (c.text-2.ensures ∙ sym c.text.ensures) in
    plain-taken g.R.Read.remaining c.args.block.now c.advance.new.self c.args.settings.now c.args.row c.args.last c.text.result.now
    c.in_ok-arrival.rest.now bytes c.in_ok-arrival.arrival _ c.text.ensures c.in_ok-arrival.ensures.row size c.advance.ensures.unread
    c.advance.ensures.source holds
