use Rattle.std.proofs.Common.{◌<◌, ◌^◌, rules}
use Rattle.device_rows.proofs.PlainFacts.{row-starts}
use Rattle.device_rows.proofs.plain.plain_row.Goals as goal

pub returns : goal.returns
returns c =
    let small : c.in_ok-moment.moment < 2 ^ 64 = search rules in
    row-starts c.args.version c.args.text.now c.in_ok-moment.text.now c.in_ok-device.text.now c.in_ok-event.text.now
    c.in_ok-value.text.now c.in_ok-moment.moment c.in_ok-device.device c.in_ok-value.value c.in_ok-event.event c.in_ok-moment.ensures
    c.in_ok-device.ensures c.in_ok-event.ensures c.in_ok-value.ensures small
