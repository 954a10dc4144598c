-- Rows as the text of a trace. See docs/FORMATS.md, "The trace".
use Rattle.std.specs.Prelude.{ℕ, ◌==◌, List, [], ◌∷◌, ◌++◌, codes, decimal, flat_map, if◌then◌else◌}
use Rattle.device_rows.specs.{Row.event_name, declared.row.Row.Row}
use Rattle.text_io.specs.Lines.{with_newline}

-- fields, each preceded by a comma
abbrev pub fields : List (List ℕ) → List ℕ
fields texts = flat_map (λ text. codes "," ++ text) texts

-- the first record of a trace of this version
abbrev pub titles : ℕ → List ℕ
titles version = if version == 2 then codes "moment,device,event,value,2\n" else codes "moment,device,event,value\n"

abbrev pub row_line : Row → List ℕ
row_line row = decimal row.moment ++ fields (decimal row.device ∷ event_name row.event ∷ decimal row.value ∷ [])

abbrev pub trace_text : ℕ → List Row → List ℕ
trace_text version rows = titles version ++ flat_map (λ row. with_newline (row_line row)) rows
