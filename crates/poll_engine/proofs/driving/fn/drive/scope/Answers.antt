use Rattle.std.proofs.Common.{refl}
use Rattle.poll_engine.proofs.driving.fn.drive.scope.Goals as goal

pub returns : goal.returns
returns g c = record {
  pollers = c.join_all-2.ensures _ c.spawn_all-2.ensures.each;
  workers = c.join_all.ensures _ c.spawn_all-3.ensures.each;
  threads = c.join_all-3.ensures _ c.spawn_all.ensures.each;
  closes = record {
    at = _;
    workers = refl;
    pollers = c.spawn_all-2.ensures.room.0;
    threads = c.spawn_all.ensures.room.0;
    closed = c.close_all.ensures;
  };
}
