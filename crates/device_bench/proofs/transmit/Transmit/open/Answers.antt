use Rattle.{std.proofs.Common.refl, dql_core.specs.Bounds.DQL_MAX_LIMIT, device_bench.specs.Transmit.hold_time}
use Rattle.device_bench.proofs.transmit.Transmit.open.Goals as goal

pub returns-in-Ok-new : goal.returns-in-Ok-new
returns-in-Ok-new c = record {
  queue = c.in-Ok-new.ensures.ok 0 DQL_MAX_LIMIT hold_time c.args.moment c.in-Ok.ensures.ok;
  sent = refl;
  held = refl;
  done = refl;
  denied = refl;
  used = refl;
}
