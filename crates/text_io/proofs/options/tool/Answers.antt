use Rattle.std.proofs.Common.{◌∙◌, [], Bor, List, ap, arith, sym, ℕ}
use Rattle.text_io.specs.Options.{tool}
use Rattle.text_io.proofs.ClapFacts.{adds, next-text}
use Rattle.text_io.proofs.options.tool.Goals as goal

pub loop-name-preserved : goal.loop-name-preserved
loop-name-preserved c =
    let none : Bor (List ℕ) = record { ref_ptr = (0, 0); now = [] } in
    adds c.loop-name.command c.in_ok-command.command c.option.result _ _ c.in_ok-command.ensures c.option.ensures.global
    c.option.ensures.rule c.loop-name.invariant
    ∙ ap tool (sym (next-text c.args.names.now c.loop-name.name-index none (omega arith)))
