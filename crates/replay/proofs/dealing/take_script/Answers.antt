use Rattle.std.proofs.{Common.{◌∙◌, ap, slice_set, vec_items}, lemmas.List.map-set}
use Rattle.replay.specs.Dealing.{lists}
use Rattle.replay.proofs.dealing.take_script.Goals as goal

pub returns-clause-scripts : goal.returns-clause-scripts
returns-clause-scripts c =
    map-set (λ script. vec_items script) (vec_items c.args.scripts.now) c.args.place c.replace.new.dest
    ∙ ap (λ rows. slice_set (lists c.args.scripts.now) c.args.place rows) (rw c.replace.ensures.after c.new.ensures.items)
