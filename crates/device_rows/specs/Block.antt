-- Bytes that were read ahead from a source.
use Rattle.std.specs.Prelude.{◌≡◌, ℕ, List, [], ◌++◌, Option, Some, Vec, drop, if◌then◌else◌, vec_items}
use Rattle.std.specs.{Io.{Chain.chain_remaining, Cursor.cursor_remaining}, declared.io.{impls.Cursor.Cursor, traits.Chain.Chain}}
use Rattle.device_rows.specs.declared.{block.Block.Block, fused.Fused.Fused}

-- the bytes that were read and not yet consumed
abbrev pub unread : {R : Type 0} → Block R → List ℕ
unread block = drop block.at block.held.items

-- the bytes that remain of a reader that isn't read again after its end
abbrev pub fused_remaining : {R : Type 0} → (R → Option (List ℕ)) → Fused R → Option (List ℕ)
fused_remaining remaining fused = if fused.has_ended then Some [] else remaining fused.source

-- the bytes that csv has still to read: the unread ones, and those of the source
abbrev pub left_remaining : {A R : Type 0} → (R → Option (List ℕ)) → Chain (Cursor (Vec ℕ A)) (Fused R) → Option (List ℕ)
left_remaining {A} {R} remaining left =
    chain_remaining (cursor_remaining (λ (held : Vec ℕ A). Some (vec_items held))) (fused_remaining remaining) left

-- these bytes remain: the unread ones, and those of the source
pub record Holds {R : Type 0} (remaining : R → Option (List ℕ)) (block : Block R) (bytes : List ℕ) : Type 0 where
  pub behind : List ℕ
  pub known : fused_remaining remaining block.source ≡ Some behind
  pub all : bytes ≡ unread block ++ behind
