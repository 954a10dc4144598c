use Rattle.std.proofs.Common.{◌≡◌, ◌+◌, ◌++◌, ◌%◌, ℕ, List, OnOk, Some, refl, string_bytes, subst, sym}
use Rattle.std.{proofs.{lemmas.Option.slice_get-get_or, Math.ListN.get_or}, specs.List.slice_get}
use Rattle.napi_series.specs.Series.{every_of, lines_after, part_after}
use Rattle.napi_series.specs.declared.settings.SeriesSettings.{SeriesSettings}
use Rattle.device_rows.specs.declared.{event.RowEvent.TheVariants.Opened, row.Row.Row}
use Rattle.napi_series.proofs.series.add_part.Goals as goal

-- the row that is returned for an index out of range
abbrev none : Row
none = record { moment = 0; device = 0; event = Opened; value = 0 }

part-is : (s : SeriesSettings) (rows : List Row) (n : ℕ) (row : Row) → (n + 1) % every_of s ≡ 0 → slice_get rows n ≡ Some row
    → part_after s rows n (slice_get rows n) ≡ lines_after s rows (n + 1) (Some row)
part-is s rows n row even found = rw (found, even) refl

pub returns : goal.returns
returns c =
    let s = c.args.settings.now in
    let rows = c.args.rows.now in
    let even : (c.args.index + 1) % every_of s ≡ 0 = rw c.every.ensures.every at c.if-number-every-ne0.false in
    let found = slice_get-get_or rows c.args.index none c.requires.index in
    subst (λ (l : List ℕ). OnOk c.add_row_lines.result (string_bytes c.add_row_lines.new.text ≡ string_bytes c.args.text.now ++ l))
    (sym (part-is s rows c.args.index (get_or rows c.args.index none) even found)) (c.add_row_lines.ensures rows c.requires.after)
