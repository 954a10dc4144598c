use Rattle.std.proofs.Common.{◌∙◌, ◌-◌, ◌++◌, length, vec_items, sym, ap}
use Rattle.csv.specs.declared.parser.State.TheVariants as state
use Rattle.device_rows.{specs.Adding.rows_with, proofs.BlockFacts.used-up}
use Rattle.device_rows.proofs.trace.add_held.Goals as goal

pub returns-clause-same : goal.returns-clause-same
returns-clause-same g c bytes holds =
    let (used, splits) = c.add_plain-left.ensures.behind in
    let size = ap (λ t. length t - length c.add_plain-left.result.now) (c.text-2.ensures ∙ sym c.text.ensures) in
    let (behind, all, stands) = used-up g.R.Read.remaining c.args.block.now c.advance.new.self c.text.result.now used
    c.add_plain-left.result.now bytes _ c.text.ensures splits size c.advance.ensures.unread c.advance.ensures.source holds in (
      c.add_plain-left.result.now ++ behind,
      stands,
      ap (rows_with c.args.version (vec_items c.args.rows.now) state.StartRecord) all ∙ c.add_plain-left.ensures.same behind,
    )
