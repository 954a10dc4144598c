use mathlib.Core.Path.{subst}
use Rattle.c_handles.specs.{Runs.IsNext, declared.lister.ListObject.ListObject}
use Rattle.napi_c.proofs.list.fq_run_next.Goals as goal

pub returns-in-List-clause-makes : goal.returns-in-List-clause-makes
returns-in-List-clause-makes c =
    let said = c.next.ensures in
    let made : IsNext c.args.id.now c.next.new.id c.deref_mut.result.now c.next.result c.next.new.self = record {
      going = said.going;
      over = said.over;
      asks = said.asks;
      none = said.none;
      settings = said.settings;
      refused = said.refused;
      kept = said.kept;
    } in
    rw (c.as_mut.ensures.value, c.in-List.is)
    (subst (λ (l : ListObject). IsNext c.args.id.now c.next.new.id l c.next.result c.next.new.self) c.deref_mut.ensures.value made)
