use Rattle.std.{proofs.Common.{◌≡◌, ◌∙◌, ap, false, map, rules, sym, true≢false}, specs.List.list_any}
use Rattle.clap.specs.Words.{app_of}
use Rattle.clap.specs.{declared.error.kind.ErrorKind.TheVariants.OutOfMemory, contracts.error.kind.ErrorKind.the_type}
use Rattle.text_io.specs.Given.{is_stray}
use Rattle.text_io.specs.Refusals.{args_out_of_memory, refused_by_clap}
use Rattle.text_io.proofs.ClapFacts.{none-given, read_err}
use Rattle.text_io.proofs.ClapFacts.{read_is_given, read_ok, stray_is_refused}
use denote.Enum.Bare.{sameb}
use Rattle.text_io.proofs.options.read_options.Goals as goal

pub returns-then-has_stray-clause-usage : goal.returns-then-has_stray-clause-usage
returns-then-has_stray-clause-usage c =
    λ _ rest same. stray_is_refused _ rest (ap (list_any is_stray) (sym same) ∙ sym c.has_stray.ensures ∙ c.if-has_stray.true)

pub returns-in-Ok-clause-given : goal.returns-in-Ok-clause-given
returns-in-Ok-clause-given c = λ rest same.
    let plain : list_any is_stray rest ≡ false = ap (list_any is_stray) (sym same) ∙ sym c.has_stray.ensures ∙ c.if-has_stray.false in
    sym (read_is_given (map (λ s. s.now) c.args.names.now) rest plain)
    ∙ read_ok (map (λ s. s.now) c.args.names.now) (app_of c.in_ok-tool.field-0) _ rest _ c.in_ok-tool.ensures same c.in-Ok.ensures.kinds
    (λ e. (c.in-Ok.ensures.matches e).0)

pub returns-clause-usage : goal.returns-clause-usage
returns-clause-usage c = λ _ rest same.
    let plain : list_any is_stray rest ≡ false = ap (list_any is_stray) (sym same) ∙ sym c.has_stray.ensures ∙ c.if-has_stray.false in
    none-given _ (sym (read_is_given (map (λ s. s.now) c.args.names.now) rest plain)
    ∙ read_err (map (λ s. s.now) c.args.names.now)
    (app_of c.in_ok-tool.field-0) _ rest c.in-Err.error c.in_ok-tool.ensures same c.in-Err.ensures.kinds
    (λ e. true≢false (sym (ap (λ k. sameb the_type k OutOfMemory) (c.kind.ensures ∙ e)) ∙ sym c.eq.ensures ∙ c.if-eq.false)))

pub returns-in_err-tool-clause-memory : goal.returns-in_err-tool-clause-memory
returns-in_err-tool-clause-memory c = λ _. args_out_of_memory c.in_err-tool.field-0.0

pub returns-in-Err-clause-memory : goal.returns-in-Err-clause-memory
returns-in-Err-clause-memory c = λ _. refused_by_clap c.in-Err.error (search rules)
