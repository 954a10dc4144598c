use Rattle.std.proofs.Common.{◌≡◌, ◌∙◌, ◌∷◌, Some, drop, subst, sym, ap, rules}
use Rattle.std.specs.Fmt.{option_append}
use Rattle.device_rows.{specs.{Block.{fused_remaining, left_remaining, unread}, Source.StandsAt}, proofs.BlockFacts.no-mark}
use Rattle.device_rows.proofs.block.Block.records_left.Goals as goal

pub returns-clause-start : goal.returns-clause-start
returns-clause-start g c bytes holds =
    let items : c.extend_from_slice.new.self.items ≡ 10 ∷ unread c.args.self = search rules in
    let joined : option_append (Some (drop c.new.result.pos c.new.result.inner.items))
    (fused_remaining g.R.Read.remaining c.args.self.source)
    ≡ Some (10 ∷ bytes) =
    rw (c.new.ensures.position, c.new.ensures.inner, items, holds.known) (ap (λ b. Some (10 ∷ b)) (sym holds.all)) in
    subst (λ b. StandsAt (left_remaining g.R.Read.remaining) c.reader_of.result b)
    (no-mark bytes)
    (c.reader_of.ensures.start (10 ∷ bytes) (c.chain.ensures.bytes ∙ joined))
