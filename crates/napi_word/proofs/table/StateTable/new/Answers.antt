use Rattle.std.proofs.Common.{rules, ◌≡◌, ◌+◌, ◌-◌, [], ◌∷◌, Option, List, slice_get, length, refl, sym, ap, ◌∙◌, subst, ⊎_elim, arith}
use Rattle.{std.proofs.Common.length-append, atomic_table.specs.Table.opening, rx_ring.specs.declared.ends.RxCtx.RxCtx}
use Rattle.napi_word.specs.{declared.history.Key.Key, Rule.{Holding, first_view, maker_at}}
use Rattle.napi_word.proofs.Start.{opens, at_push, new_as, new_last, still_stored}
use Rattle.napi_word.proofs.table.StateTable.new.Goals as goal

pub new-requires : goal.new-requires
new-requires c = let key : Key = record { controller = c.args.seats - 1; ring = c.of.result } in
    subst (λ (xs : List (Option RxCtx)). Holding key (opening (9 ∷ []) xs (first_view key))) (sym c.in-Ok-one_slot.ensures.ok)
    (opens key c.args.ctx (sym c.of.ensures))

pub back-requires : goal.back-requires
back-requires c = (c.args.ctx, c.in-Err-new.ensures.err ∙ c.in-Ok-one_slot.ensures.ok)

pub loop-number-preserved : goal.loop-number-preserved
loop-number-preserved c =
    let i = c.loop-number.invariant in
    let n = c.next_pass-pass.ensures in
    let push = c.in-Ok-pushed.ensures in (
      ap length push.items ∙ length-append c.loop-number.passes.items (c.next_pass-pass.result ∷ []) ∙ ap (λ k. k + 1) i.0,
      search rules,
      n.table ∙ i.2,
      i.3,
      i.4,
      n.view ∙ (λ d. maker_at (i.3 d) (i.4 d) (c.loop-number.number + 1)),
      n.holds ∙ i.6,
      λ k p e. ⊎_elim (λ old. i.7 k p old)
          (λ (t : (k ≡ length c.loop-number.passes.items) × (c.next_pass-pass.result ≡ p)).
          new_as _ _ _ _ _ _ _ _ i.3 i.4 (sym (t.0 ∙ i.0)) t.1 n.made)
          (at_push c.loop-number.passes.items c.next_pass-pass.result p k (ap (λ l. slice_get l k) (sym push.items) ∙ e)),
      push.len ∙ ap (λ k. k + 1) i.8,
      still_stored c.loop-number.maker c.next_pass-pass.new.maker n.slot i.9,
    )

pub returns-clause-new : goal.returns-clause-new
returns-clause-new c =
    let i = c.loop-number.invariant in
    let push = c.in-Ok-pushed-2.ensures in
    let low = c.loop-number-test.false in
    let top = c.loop-number.auto.number-end in
    let n : c.loop-number.number ≡ c.args.seats - 1 = omega (arith, low, top) in
    λ k p e. ⊎_elim (λ old. i.7 k p old)
    (λ (t : (k ≡ length c.loop-number.passes.items) × (c.loop-number.maker ≡ p)).
    new_as (c.args.seats - 1) (c.args.seats - 1) c.args.ctx c.args.ctx (c.args.seats - 1) k c.loop-number.maker p refl refl
    (sym (t.0 ∙ i.0 ∙ n)) t.1
    (new_last (c.args.seats - 1) c.args.ctx c.loop-number.number c.loop-number.maker n i.2 i.5 i.6 i.9))
    (at_push c.loop-number.passes.items c.loop-number.maker p k (ap (λ l. slice_get l k) (sym push.items) ∙ e))

pub returns-clause-count : goal.returns-clause-count
returns-clause-count c =
    let i = c.loop-number.invariant in
    let push = c.in-Ok-pushed-2.ensures in
    let low = c.loop-number-test.false in
    let top = c.loop-number.auto.number-end in
    let many = c.requires.0 in
    let n : c.loop-number.number + 1 ≡ c.args.seats = omega (arith, low, top, many) in (
      push.len ∙ ap (λ k. k + 1) i.8 ∙ n,
      ap length push.items ∙ length-append c.loop-number.passes.items (c.loop-number.maker ∷ [])
          ∙ ap (λ k. k + 1) i.0 ∙ n,
    )
