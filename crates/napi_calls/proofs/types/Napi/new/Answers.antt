use Rattle.std.proofs.Common.{◌≡◌, ◌+◌, List, [], ◌∷◌, slice_get, length, refl, sym, ap, ◌∙◌, length-append, arith}
use Rattle.{napi_word.{specs.declared.table.Pass.Pass, proofs.Start.new_as}, napi_calls.proofs.Fresh.{here, front_of, new_seat}}
use Rattle.napi_calls.proofs.Ending.{seats_length, seat_at}
use Rattle.napi_calls.proofs.types.Napi.new.Goals as goal

pub control_of-control-requires : goal.control_of-control-requires
control_of-control-requires c =
    let e = c.in-Ok-new.ensures in
    let rest = c.pop-popped.new.self.items in
    let items = c.in-Some.ensures.items in
    let last = c.in-Some.last in
    let many : length rest + 1 ≡ c.args.callers + 1 = sym (length-append rest (last ∷ [])) ∙ ap length (sym items) ∙ e.count.1 in (
      c.args.ctx,
      new_as _ c.args.callers c.args.ctx c.args.ctx _ c.args.callers last last (omega arith) refl (omega (arith, many)) refl
          (e.new (length rest) last (here rest [] c.in-Ok-new.both.1.items last items)),
    )

pub seat_callers-seated-requires-clause-new : goal.seat_callers-seated-requires-clause-new
seat_callers-seated-requires-clause-new c =
    let e = c.in-Ok-new.ensures in
    let rest = c.pop-popped.new.self.items in
    let items = c.in-Some.ensures.items in
    let last = c.in-Some.last in
    let many : length rest + 1 ≡ c.args.callers + 1 = sym (length-append rest (last ∷ [])) ∙ ap length (sym items) ∙ e.count.1 in
    let most = (c.if-is_bad.ensures.good refl).1 in (
      c.in-Ok-new.both.0,
      c.args.callers,
      c.args.ctx,
      omega (arith, many),
      most,
      λ k p at. new_as _ c.args.callers c.args.ctx c.args.ctx k k p p (omega arith) refl refl refl
          (e.new k p (ap (λ (l : List Pass). slice_get l k) items ∙ front_of rest (last ∷ []) k p at)),
    )

pub returns-clause-count : goal.returns-clause-count
returns-clause-count c =
    let rest = c.pop-popped.new.self.items in
    let items = c.in-Some.ensures.items in
    let last = c.in-Some.last in
    let many : length rest + 1 ≡ c.args.callers + 1 =
    sym (length-append rest (last ∷ [])) ∙ ap length (sym items) ∙ c.in-Ok-new.ensures.count.1 in
    let seats = sym (seats_length c.seat_callers-seated.result.items) ∙ ap length c.seat_callers-seated.ensures in
    (sym c.is_bad.ensures.is ∙ c.if-is_bad.false, refl, omega (arith, many, seats))

pub returns-clause-callers : goal.returns-clause-callers
returns-clause-callers c k one at =
    let e = c.in-Ok-new.ensures in
    let rest = c.pop-popped.new.self.items in
    let items = c.in-Some.ensures.items in
    let last = c.in-Some.last in
    let seat =
    ap (λ (l : List Pass). slice_get l k) (sym c.seat_callers-seated.ensures) ∙ seat_at c.seat_callers-seated.result.items k one at in
    let new = e.new k one.pass (ap (λ (l : List Pass). slice_get l k) items ∙ front_of rest (last ∷ []) k one.pass seat) in
    new_seat _ one.pass new.table new.view (omega arith) e.ring

pub returns-clause-control : goal.returns-clause-control
returns-clause-control c =
    let e = c.in-Ok-new.ensures in
    let rest = c.pop-popped.new.self.items in
    let items = c.in-Some.ensures.items in
    let last = c.in-Some.last in
    let many : length rest + 1 ≡ c.args.callers + 1 = sym (length-append rest (last ∷ [])) ∙ ap length (sym items) ∙ e.count.1 in
    let new =
    new_as _ c.args.callers c.args.ctx c.args.ctx _ c.args.callers last last (omega arith) refl (omega (arith, many)) refl
    (e.new (length rest) last (here rest [] c.in-Ok-new.both.1.items last items)) in
    new_seat _ c.control_of-control.result.pass c.control_of-control.ensures.table
    (c.control_of-control.ensures.view ∙ new.view) refl e.ring
