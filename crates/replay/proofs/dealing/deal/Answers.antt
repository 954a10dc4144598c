use Rattle.std.proofs.{Common.{◌≡◌, ◌∙◌, ◌-◌, [], ap, slice_index_or, sym, vec_items, length, arith}, lemmas.Grind.common_steps}
use Rattle.{std.proofs.lemmas.List.{get_or-map, length-map, map-set}, replay.specs.Dealing.lists, replay.proofs.DealFacts.{dealt, opened}}
use Rattle.replay.proofs.dealing.deal.Goals as goal

pub returns-then-is_open-clause-scripts : goal.returns-then-is_open-clause-scripts
returns-then-is_open-clause-scripts c rows before =
    let place = c.args.row.now.device - 1 in
    let was : vec_items c.index_mut.result.now ≡ slice_index_or (lists c.args.scripts.now) place [] =
    ap (λ script. vec_items script) c.index_mut.ensures.value
    ∙ sym (get_or-map (λ script. vec_items script) (vec_items c.args.scripts.now) place c.index_mut.result.now []
    (omega (arith, c.requires))) in
    let long : length (vec_items c.args.scripts.now) ≡ 16 = grind (arith, common_steps, c.requires) in
    let size : length (lists c.args.scripts.now) ≡ 16 = length-map (vec_items c.args.scripts.now) (λ script. vec_items script) ∙ long in
    rw (map-set (λ script. vec_items script) (vec_items c.args.scripts.now) place c.reserve.new.self, c.reserve.ensures.items, was)
    (opened (lists c.args.scripts.now) rows c.args.row.now (sym c.is_open.ensures ∙ c.if-is_open.true) (omega arith)
    (omega arith) size before)

pub returns-clause-scripts : goal.returns-clause-scripts
returns-clause-scripts c rows before =
    let place = c.args.row.now.device - 1 in
    let was : vec_items c.index_mut-2.result.now ≡ slice_index_or (lists c.args.scripts.now) place [] =
    ap (λ script. vec_items script) c.index_mut-2.ensures.value
    ∙ sym (get_or-map (λ script. vec_items script) (vec_items c.args.scripts.now) place c.index_mut-2.result.now []
    (omega (arith, c.requires))) in
    let long : length (vec_items c.args.scripts.now) ≡ 16 = grind (arith, common_steps, c.requires) in
    let size : length (lists c.args.scripts.now) ≡ 16 = length-map (vec_items c.args.scripts.now) (λ script. vec_items script) ∙ long in
    rw (map-set (λ script. vec_items script) (vec_items c.args.scripts.now) place c.push.new.self, c.in_ok-push.ensures.items, was)
    (dealt (lists c.args.scripts.now) rows c.args.row.now (sym c.is_open.ensures ∙ c.if-is_open.false) (omega arith)
    (omega arith) size before)
