use Rattle.std.proofs.Common.{◌≡◌, ◌∷◌, take, map, string_bytes, codes}
use Rattle.text_io.proofs.options.with_name.Given as goal

abbrev pub invariant-loop-word : goal.invariant-loop-word
invariant-loop-word l = map (λ s. s.now) l.all.items ≡ codes "napi" ∷ map string_bytes (take l.word-index l.words)
