use Rattle.std.proofs.Common.{◌≡◌, ◌∙◌, ◌+◌, sym, take}
use Rattle.std.proofs.lemmas.List.{take_rest}
use Rattle.device_rows.proofs.PlainFacts.{splits-at}
use Rattle.device_rows.proofs.plain.plain_event.Goals as goal

pub returns : goal.returns
returns c =
    rw (take_rest c.args.text.now (c.in_ok-end.end + 1))
    (record {
      name = take c.in_ok-end.end c.args.text.now;
      splits = splits-at c.args.text.now c.in_ok-end.end 44 c.in_ok-end.ensures.below c.in_ok-end.ensures.comma;
      plain = c.in_ok-event.ensures.plain;
      is_its_name = sym c.event_of.ensures.event ∙ c.in_ok-event.was;
    })
