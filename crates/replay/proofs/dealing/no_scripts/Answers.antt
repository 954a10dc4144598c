use Rattle.std.proofs.{Common.{◌≡◌, ◌∙◌, ◌∷◌, ◌+◌, ◌-◌, [], ap, replicate, vec_items, arith}, lemmas.List.{map-append, replicate_more}}
use Rattle.replay.proofs.dealing.no_scripts.Goals as goal

pub loop-preserved : goal.loop-preserved
loop-preserved c =
    let next : c.loop.counter - 1 + 1 ≡ c.loop.counter + 1 - 1 = omega arith in
    rw c.in_ok-push.ensures.items (map-append (λ script. vec_items script) (vec_items c.loop.scripts) (c.new.result ∷ [])
    ∙ rw (c.loop.invariant, c.new.ensures.items) (replicate_more (c.loop.counter - 1) []) ∙ ap (λ n. replicate n []) next)
