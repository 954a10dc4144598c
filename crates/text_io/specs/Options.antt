-- A program's options, as clap is given them, and what clap reads.
use Rattle.std.specs.Prelude.{[], ◌∷◌, true, List, Option, Some, None, map, if◌then◌else◌, codes}
use Rattle.clap.specs.Words.{App, Row, Rule}
use Rattle.clap.specs.{Words.{new_app, new_rule, fault_of, matches_of, first_of, found_of, rows_of}, Simple.{filled, on_top}, Walk.is_empty}
use Rattle.clap.specs.{Walk.reading_by, declared.builder.action.ArgAction.TheVariants.Set}
use Rattle.{clap.specs.declared.parser.matches.{ValueSource.TheVariants.CommandLine, ArgMatches.ArgMatches}}
use Rattle.text_io.specs.Given.{GivenOptions}
use Rattle.text_io.specs.Given.{Text}

-- an option with a value
abbrev pub option : Text → Rule
option name = record (new_rule name) { long = Some name; action = Some Set }

abbrev pub without_help : App → App
without_help a = on_top (λ s. record s { disable_help_flag = true }) a

-- a program with these options and without `--help`; its name appears nowhere
abbrev pub tool : List Text → App
tool names = on_top (λ s. record s { rules = map option names }) (without_help (new_app (codes "napi")))

-- the program's name, and then the arguments
abbrev pub with_name : List Text → List Text
with_name words = codes "napi" ∷ words

-- what clap reads if it accepts the arguments
abbrev pub read_by_clap : List Text → List Text → Option (List Row)
read_by_clap names words =
    if is_empty (fault_of (tool names) (with_name words)) then Some (matches_of (tool names) (with_name words)) else None

-- the same for options that are given
abbrev pub option_row : Text × Text → Row
option_row g = record { id = g.0; values = g.1 ∷ []; count = None; source = Some CommandLine; reading = reading_by (filled (option g.0)) }

abbrev pub rows_for : GivenOptions → List Row
rows_for given = map option_row given

-- the value found for a name, if there is one
abbrev pub value_in : ArgMatches → Text → Option Text
value_in matches name = first_of name (rows_of (found_of matches))
