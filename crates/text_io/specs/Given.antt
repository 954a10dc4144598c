-- The options on a command line, for a program whose options have these names: each at most once, and each with a value.
use Rattle.std.specs.Prelude.{ℕ, [], ◌∷◌, ◌++◌, Bool, ◌&&◌, not, List, Option, Some, None, length, nat_le, if◌then◌else◌, option_and_then}
use Rattle.std.specs.{Prelude.{option_map, is_some, find, fold}, List.list_any, Str.{all_ascii_digits, bytes_eq, Parse.digits_value}}
use Rattle.clap.specs.Lexer.{strip_byte, long_of}

-- a text, as its bytes
abbrev pub Text : Type 0
Text = List ℕ

infixl 10 ◌>>=◌
abbrev pub ◌>>=◌ : {A B : Type 0} → Option A → (A → Option B) → Option B
o >>= f = option_and_then f o

-- the options given, in order: each name with its value
abbrev pub GivenOptions : Type 0
GivenOptions = List (Text × Text)

abbrev pub is_option : List Text → Text → Bool
is_option names name = list_any (λ option. bytes_eq option name) names

-- the progress of reading: the options so far, and the option that waits for its value, if one does
abbrev pub Reading : Type 0
Reading = GivenOptions × Option Text

-- one more option with its value; each may be given only once
abbrev pub with_option : GivenOptions → Text → Text → Option Reading
with_option given name value =
    if list_any (λ g. bytes_eq g.0 name) given then None else Some (given ++ (name, value) ∷ [], None)

-- an option's argument: `--name=value` contains the value; the value of `--name` is the next argument
abbrev pub option_word : GivenOptions → Text × Option Text → Option Reading
option_word given (name, Some value) = with_option given name value
option_word given (name, None) = Some (given, Some name)

-- the argument begins with a hyphen
abbrev pub is_hyphened : Text → Bool
is_hyphened word = is_some (strip_byte 45 word)

-- the argument begins with a hyphen and is neither `--name` nor `--name=value` (which `long_of` splits)
abbrev pub is_stray : Text → Bool
is_stray word = is_hyphened word && not (is_some (long_of word))

-- one more argument, or None if it is an error; an argument that begins with a hyphen isn't a value
abbrev pub next_word : List Text → Reading → Text → Option Reading
next_word names (given, None) word = long_of word >>= (λ option. if is_option names option.0 then option_word given option else None)
next_word names (given, Some name) word = if is_hyphened word then None else with_option given name word

-- all arguments were read, and no option waits for its value
abbrev pub complete : Reading → Option GivenOptions
complete (given, None) = Some given
complete (given, Some name) = None

abbrev pub read_on : List Text → Option Reading → Text → Option Reading
read_on names reading word = reading >>= (λ r. next_word names r word)

-- the options that the arguments give, or None if they are an error
abbrev pub given_by : List Text → List Text → Option GivenOptions
given_by names words = fold (read_on names) (Some ([], None)) words >>= complete

-- the parsed value of an option, or the default
abbrev pub or_default : {A : Type 0} → A → (Text → Option A) → Option Text → Option A
or_default default read None = Some default
or_default default read (Some text) = read text

abbrev pub value_of : Text → GivenOptions → Option Text
value_of name given = option_map (λ g. g.1) (find (λ g. bytes_eq g.0 name) given)

-- the number from `low` to `high` that a text of one to `digits` digits denotes
abbrev pub number_within : ℕ → ℕ → ℕ → Text → Option ℕ
number_within digits low high text =
    if nat_le 1 (length text)
    && (nat_le (length text) digits && (all_ascii_digits text && (nat_le low (digits_value 10 text) && nat_le (digits_value 10 text) high)))
    then Some (digits_value 10 text) else None
