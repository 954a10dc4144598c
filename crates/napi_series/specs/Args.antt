-- The command line: the options of a series in any order, each at most once, and then the arguments of napi_replay.
use Rattle.std.specs.Prelude.{ℕ, [], ◌∷◌, ◌==◌, Bool, true, false, ◌&&◌, ◌||◌, not, List, Option, Some, None, if◌then◌else◌, codes}
use Rattle.std.specs.{Prelude.{is_some, option_map}, Str.bytes_eq, List.{after_first, before_first}}
use Rattle.text_io.specs.{Given.{◌>>=◌, number_within}, Args.{ReplayArgs, Text, number_up_to, serial_asked_for}}
use Rattle.napi_series.specs.declared.settings.SeriesOptions.{SeriesOptions}

abbrev pub no_options : SeriesOptions
no_options = record { every = None; restarts = None; polls = false; rows = false }

-- each option may be given only once
abbrev pub with_every : SeriesOptions → ℕ → Option SeriesOptions
with_every o n = if is_some o.every then None else Some (record o { every = Some n })

abbrev pub with_restarts : SeriesOptions → ℕ → Option SeriesOptions
with_restarts o n = if is_some o.restarts then None else Some (record o { restarts = Some n })

abbrev pub with_polls : SeriesOptions → Option SeriesOptions
with_polls o = if o.polls then None else Some (record o { polls = true })

abbrev pub with_rows : SeriesOptions → Option SeriesOptions
with_rows o = if o.rows then None else Some (record o { rows = true })

-- the most runs that are added after a row: `--raise=N` has it, and `--raise` means more than a trace has room for
abbrev pub restarts_of : Text → Option ℕ
restarts_of word =
    if bytes_eq word (codes "--raise") then Some 100000
    else if bytes_eq (before_first (λ b. b == 61) word) (codes "--raise") then number_within 5 0 99999 (after_first (λ b. b == 61) word)
    else None

-- The options at the front of the arguments, and the remaining arguments; None if an option is repeated, or has no number. The
-- Bool says whether `--every` waits for its number.
unfoldable pub options_of : Bool → SeriesOptions → List Text → Option (SeriesOptions × List Text)
options_of true o [] = None
options_of true o (word ∷ words) = number_up_to 99999 word >>= with_every o >>= (λ more. options_of false more words)
options_of false o [] = Some (o, [])
options_of false o (word ∷ words) =
    if bytes_eq word (codes "--every") then options_of true o words
    else if bytes_eq word (codes "--polls") then (with_polls o >>= (λ more. options_of false more words))
    else if bytes_eq word (codes "--rows") then (with_rows o >>= (λ more. options_of false more words))
    else if is_some (restarts_of word) then (restarts_of word >>= with_restarts o >>= (λ more. options_of false more words))
    else Some (o, word ∷ words)

-- rows have no lines, so they can't be chosen, and have no polls
abbrev pub is_allowed : SeriesOptions → Bool
is_allowed o = not (o.rows && (o.polls || is_some o.every))

-- what the arguments ask for, or None if they are an error; the mode is serial, because a series processes the rows in order
abbrev pub series_asked_by : SeriesOptions × List Text → Option (SeriesOptions × ReplayArgs)
series_asked_by (o, words) = if is_allowed o then option_map (λ asked. (o, asked)) (serial_asked_for words) else None

abbrev pub series_asked_for : List Text → Option (SeriesOptions × ReplayArgs)
series_asked_for words = options_of false no_options words >>= series_asked_by
