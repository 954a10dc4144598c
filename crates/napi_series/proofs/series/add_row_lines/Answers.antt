use Rattle.std.proofs.Common.{◌≡◌, ◌∙◌, ◌++◌, Bool, true, ℕ, List, [], Some, ap, append_assoc, rules, string_bytes, sym}
use Rattle.std.specs.Prelude.{if◌then◌else◌}
use Rattle.device_rows.specs.declared.row.Row.{Row}
use Rattle.napi_series.specs.{Series.{lines_after, polls_part, row_part}, declared.settings.SeriesSettings.SeriesSettings}
use Rattle.napi_series.proofs.series.add_row_lines.Goals as goal

with-polls : (s : SeriesSettings) (rows : List Row) (n : ℕ) (row : Row) → s.options.polls ≡ true
    → lines_after s rows n (Some row) ≡ polls_part s.replay rows n row ++ row_part s rows n row
with-polls s rows n row on = ap (λ (b : Bool). (if b then polls_part s.replay rows n row else []) ++ row_part s rows n row) on

pub returns : goal.returns
returns c = λ rows after.
    let s = c.args.settings.now in
    let n = c.args.number in
    let on : s.options.polls ≡ true = search rules in
    let row = row_part s rows n c.args.row.now in
    let lines = polls_part s.replay rows n c.args.row.now in
    let same : string_bytes c.add_polls.new.text ++ row ≡ string_bytes c.args.text.now ++ (lines ++ row) =
    rw (c.in_ok-add_polls.ensures s.replay rows after) (append_assoc (string_bytes c.args.text.now) lines row) in
    c.in_ok-add_row_part.ensures rows after
    ∙ (same ∙ ap (λ (l : List ℕ). string_bytes c.args.text.now ++ l) (sym (with-polls s rows n c.args.row.now on)))
