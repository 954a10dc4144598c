use Rattle.std.proofs.{Common.{is_some, refl, arith}, lemmas.Grind.common_steps}
use Rattle.poll_engine.proofs.LedgerSteps.{off_is, same_handles, works}
use Rattle.poll_engine.proofs.worker.InterruptWorkerTask.run.Goals.{in-Some, in_default}
use Rattle.poll_engine.proofs.worker.InterruptWorkerTask.run.Goals as goal

pub returns : goal.returns
returns g c =
    let acted = c.make_acts-handles in
    let all = acted.ensures in
    let on = c.turn_on.ensures.turns in
    let off = c.turn_off.ensures.turns in
    record {
      why = all.why;
      same_handler = refl;
      is = record {
        handles = rw c.new.ensures ((all.of.0, c.turn_off.ensures.of), off_is _ _ off);
        same = rw (← c.open-handles.ensures, c.new.ensures) (same_handles c.open-handles.result acted.result.0 _ _ on off all.same);
        run = λ whole. rw (← c.open-handles.ensures, c.new.ensures)
            (works c.open-handles.result acted.result.0 _ _ on off (is_some c.args.self.handler.thread) g.D.Device.answer
            g.D.Device.after c.args.self.device (g.D.Device.acts c.args.self.device) c.args.self.rx acted.new.rx (all.made whole));
        lists = rw (← c.open-handles.ensures, c.new.ensures) all.lists;
        wakes = rw (← c.open-handles.ensures, c.new.ensures) all.wakes;
        closes = elim c.match-handler.branch [
          | in-Some w ↦ rw (w.in-Some.is, w.closes-is, c.new.ensures) (grind (arith, common_steps, w.close.ensures))
          | in_default w ↦ rw (w.in_default.is, w.closes-is) refl
        ];
        let_go = all.let_go;
        asked = all.asked;
        made = all.device;
        ring = all.ring;
        few = all.few;
        put = all.put;
      };
    }
