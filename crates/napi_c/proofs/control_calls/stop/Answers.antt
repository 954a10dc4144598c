use Rattle.std.proofs.Common.{Bool, rules, sym, subst, ◌∙◌}
use Rattle.c_handles.specs.Status.{OK}
use Rattle.napi_c.specs.Rules.{ControlDisables, ControlStopsBy}
use Rattle.napi_c.proofs.control_calls.stop.Goals as goal

pub returns-in-19-clause-makes : goal.returns-in-19-clause-makes
returns-in-19-clause-makes c =
    let disables : ControlDisables c.args.control.now OK c.repeat.new.it = record {
      said = c.mark.result;
      marked = c.mark.new.self;
      marks = c.mark.ensures;
      last = c.repeat.result;
      takes = c.repeat.ensures;
      status = search rules;
    } in
    let stops = λ (off : Bool). ControlStopsBy off c.args.control.now OK c.repeat.new.it in
    subst stops (sym c.if-is_off.false ∙ c.is_off.ensures) disables

pub returns-in_default-clause-makes : goal.returns-in_default-clause-makes
returns-in_default-clause-makes c =
    let disables : ControlDisables c.args.control.now c.repeat.result c.repeat.new.it = record {
      said = c.mark.result;
      marked = c.mark.new.self;
      marks = c.mark.ensures;
      last = c.repeat.result;
      takes = c.repeat.ensures;
      status = search rules;
    } in
    let stops = λ (off : Bool). ControlStopsBy off c.args.control.now c.repeat.result c.repeat.new.it in
    subst stops (sym c.if-is_off.false ∙ c.is_off.ensures) disables
