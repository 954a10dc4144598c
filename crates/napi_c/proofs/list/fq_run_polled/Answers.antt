use mathlib.Core.Path.{subst}
use Rattle.c_handles.specs.{Runs.IsPolledCall, declared.lister.ListObject.ListObject}
use Rattle.napi_c.proofs.list.fq_run_polled.Goals as goal

pub returns-in-List : goal.returns-in-List
returns-in-List c =
    let said = c.polled.ensures in
    let made : IsPolledCall c.args.work c.args.next c.deref_mut.result.now c.polled.result c.polled.new.self = record {
      status = said.status;
      going = said.going;
      rests = said.rests;
      settings = said.settings;
      kept = said.kept;
    } in
    rw (c.as_mut.ensures.value, c.in-List.is)
    (subst (λ (l : ListObject). IsPolledCall c.args.work c.args.next l c.polled.result c.polled.new.self) c.deref_mut.ensures.value made)
