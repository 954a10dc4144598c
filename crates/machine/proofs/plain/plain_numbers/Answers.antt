use Rattle.std.proofs.Common.{◌≡◌, true, false, rules}
use Rattle.std.specs.Prelude.{◌==◌}
use Rattle.machine.proofs.PlainFacts.{four-numbers, three-numbers}
use Rattle.machine.proofs.plain.plain_numbers.Goals as goal

pub returns-then-queues-eq1 : goal.returns-then-queues-eq1
returns-then-queues-eq1 c =
    let one : (c.args.queues == 1) ≡ true = search rules in
    rw (c.from.ensures, c.from-then-queues-eq1.ensures, c.from-then-queues-eq1-2.ensures)
    (three-numbers c.args.queues c.args.text.now c.in_ok-moment.text.now c.in_ok-device.text.now c.in_ok-device.text.now
    c.in_ok-bytes.text.now c.in_ok-moment.moment c.in_ok-device.device c.in_ok-bytes.bytes 0 c.in_ok-moment.ensures c.in_ok-device.ensures
    one c.in_ok-bytes.ensures)

pub returns : goal.returns
returns c =
    let several : (c.args.queues == 1) ≡ false = search rules in
    rw (c.from-2.ensures, c.from-3.ensures, c.from-4.ensures, c.from-5.ensures)
    (four-numbers c.args.queues c.args.text.now c.in_ok-moment.text.now c.in_ok-device.text.now c.in_ok-bytes-2.text.now
    c.in_ok-flow.text.now c.in_ok-moment.moment c.in_ok-device.device c.in_ok-bytes-2.bytes c.in_ok-flow.flow c.in_ok-moment.ensures
    c.in_ok-device.ensures several c.in_ok-bytes-2.ensures c.in_ok-flow.ensures)
