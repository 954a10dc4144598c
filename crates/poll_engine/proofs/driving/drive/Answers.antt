use Rattle.std.proofs.Common.{rules}
use Rattle.poll_engine.proofs.driving.drive.Goals as goal

pub scoped-requires : goal.scoped-requires
scoped-requires g c =
    let r = c.requires in
    let b = c.type_bounds in
    record {
      at = λ s. (
        r.pollers,
        (r.workers, (r.threads, (search rules, search rules, search rules, search rules))),
      );
    }
