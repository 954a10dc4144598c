use mathlib.Core.Path.{subst}
use Rattle.c_handles.specs.{Runs.IsEnd, declared.lister.ListObject.ListObject}
use Rattle.napi_c.proofs.list.fq_run_end_sized.Goals as goal

pub returns-in-List-clause-makes : goal.returns-in-List-clause-makes
returns-in-List-clause-makes c size =
    let said = c.end.ensures in
    let made : IsEnd c.args.report.now c.end.new.report c.deref_mut.result.now c.end.result c.end.new.self = record {
      run = said.run;
      early = said.early;
      size = said.size;
      squeezed = said.squeezed;
      back = said.back;
      bounds = said.bounds;
      over = said.over;
      refused = said.refused;
      kept = said.kept;
    } in
    rw (c.as_mut.ensures.value, c.in-List.is)
    (subst (λ (l : ListObject). IsEnd c.args.report.now c.end.new.report l c.end.result c.end.new.self) c.deref_mut.ensures.value made)
