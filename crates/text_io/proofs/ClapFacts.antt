-- What clap reads from the arguments, by its own specification (`matches_of`, `fault_of`), agrees with our definitions.
use Rattle.std.proofs.Common.{◌≡◌, ◌∙◌, subst, ◌+◌, ◌<◌, Bor, get_or, inl, inr, take, ◌&&◌, ◌||◌, Bool, ℕ, cond, true, false, not, refl}
use Rattle.std.proofs.Common.{sym, ap, codes, List, [], ◌∷◌, ◌++◌, map, length, Option, Some, None, is_some, option_map, true≢false}
use Rattle.std.proofs.{Math.{Bool.or-false, Dec.eqb-suc-zero}, lemmas.{Bool.or_parts, List.take_more, Slice.Eq.bytes_eq-Decides}}
use Rattle.std.{proofs.lemmas.Option.none-some, specs.Prelude.{if◌then◌else◌, nat_lt, IfOk, Result, Ok, Err, fold, find, count_by}}
use Rattle.std.specs.{Prelude.{option_and_then, slice_get}, Option.option_map_or, List.{list_all, list_any}, Result.result_ok, Str.bytes_eq}
use Rattle.clap.specs.declared.{builder.{command.Command.Command, arg.Arg.Arg}, error.{Error.Error, kind.ErrorKind.ErrorKind}}
use Rattle.clap.specs.declared.error.kind.ErrorKind.TheVariants.{ArgumentConflict, OutOfMemory, UnknownArgument}
use Rattle.clap.specs.{declared.parser.matches.ValueSource.TheVariants.CommandLine, Simple.{App, Shape, app_of, entered, filled}}
use Rattle.clap.specs.{Simple.{filled_from, is_simple, matches_of, new_app, new_shape, on_top, with_rule}, Kinds.{HasKind, IsAmong, Kinds}}
use Rattle.clap.specs.{Kinds.{check_kinds, or_else}, Values.kind_of, Takes.is_given, Lexer.{long_of, long_of_rest, short_of, short_of_rest}}
use Rattle.clap.specs.{Lexer.strip_byte, Built.AddsArg, Walk.{option_word as value_word, used_by_id, Held, Row, Rule, Step, Waiting, Walk}}
use Rattle.clap.specs.Walk.{after_flag, after_step, arg_by_id, arg_by_index, arg_by_long, at_row, first_of, finished, has_long, has_row}
use Rattle.clap.specs.Walk.{idle, is_early_multiple, is_empty, long_met, long_or_other, more_values, next, nothing_held}
use Rattle.clap.specs.Walk.{option as waits_for, reading_by, rows_after, settled, settled_rows, short_or_plain, trailing, used, walk}
use Rattle.clap.specs.{Walk.{walked, rule_of, with_default, with_values}, Faults.{built_fault, bundle_fault, check_fault, defaults_fault}}
use Rattle.clap.specs.Faults.{entered_fault, fault_of, is_simple_and_free, flag_word_fault, long_fault, positional_fault, settle_fault}
use Rattle.clap.{specs.Faults.{step_fault, turn_fault, use_fault, walk_fault}, proofs.WalkLemmas.list_any-map}
use Rattle.text_io.specs.Options.{option, read_by_clap, option_row, rows_for, tool, with_name, without_help}
use Rattle.text_io.specs.Given.{GivenOptions, Reading}
use Rattle.text_io.specs.Given.{Text, complete, given_by, is_hyphened, is_option, is_stray, next_word, option_word, read_on, value_of}
use Rattle.text_io.specs.Given.{with_option}
use mathlib.Core.List.{append-nil, map-append}

module _ (names : List Text) where
  -- ---- the arguments, read from the front

  -- the result of the remaining arguments after a reading
  abbrev read_after : Option Reading → List Text → Option GivenOptions
  read_after reading words = option_and_then complete (fold (read_on names) reading words)

  none-stays : (words : List Text) → read_after None words ≡ None
  none-stays [] = refl
  none-stays (word ∷ words) = none-stays words

  -- ---- the options, as a parse sees them

  abbrev shape_with : List Rule → Shape
  shape_with rs =
      record (new_shape (codes "napi")) { rules = rs; disable_help_flag = true; disable_help_subcommand = true; is_built = true }

  abbrev named : Text → Rule
  named name = filled (option name)

  filled-as : (i : ℕ) (ns : List Text) → filled_from i (map option ns) ≡ map named ns
  filled-as i [] = refl
  filled-as i (n ∷ ns) = ap (λ rs. named n ∷ rs) (filled-as i ns)

  abbrev app_with : List Rule → App
  app_with rs = record { top = shape_with rs; subs = [] }

  abbrev rules : List Rule
  rules = map named names

  abbrev shape : Shape
  shape = shape_with rules

  found : (test : Rule → Bool) (name : Text) → ((o : Text) → test (named o) ≡ bytes_eq o name) → (ns : List Text)
      → find test (map named ns) ≡ (if list_any (λ o. bytes_eq o name) ns then Some (named name) else None)
  found test name same [] = refl
  found test name same (o ∷ os) = go (test (named o)) (bytes_eq o name) (same o) ((bytes_eq-Decides o name).0) (found test name same os)
    where
      go : (t b : Bool) → t ≡ b → (b ≡ true → o ≡ name)
          → find test (map named os) ≡ (if list_any (λ o. bytes_eq o name) os then Some (named name) else None)
          → cond t (Some (named o)) (find test (map named os)) ≡ cond (b || list_any (λ o. bytes_eq o name) os) (Some (named name)) None
      go t true e is rest = rw e (ap (λ t. Some (named t)) (is refl))
      go t false e is rest = rw e rest

  long_as : (name : Text) (b : Bool) → is_option names name ≡ b → arg_by_long rules name ≡ (if b then Some (named name) else None)
  long_as name b known = found (λ a. not (is_some a.index) && has_long a name) name (λ o. or-false (bytes_eq o name)) names
      ∙ ap (λ x. if x then Some (named name) else None) known

  id_as : (name : Text) → is_option names name ≡ true → arg_by_id rules name ≡ Some (named name)
  id_as name known = found (λ a. bytes_eq a.id name) name (λ o. refl) names ∙ ap (λ x. if x then Some (named name) else None) known

  -- ---- the matches for the given options

  abbrev has : Text → GivenOptions → Bool
  has name given = list_any (λ g. bytes_eq g.0 name) given

  has-rows : (name : Text) (given : GivenOptions) → has_row name (rows_for given) ≡ has name given
  has-rows name given = sym (list_any-map (λ r. bytes_eq r.id name) option_row given)

  at_end : (name : Text) (change : Row → List Row) (missing : List Row) (given : GivenOptions) → has name given ≡ false
      → at_row name change missing (rows_for given) ≡ rows_for given ++ missing
  at_end name change missing [] e = refl
  at_end name change missing (g ∷ gs) e = go (bytes_eq g.0 name) e (at_end name change missing gs)
    where
      go : (b : Bool) → (b || has name gs) ≡ false
          → (has name gs ≡ false → at_row name change missing (rows_for gs) ≡ rows_for gs ++ missing)
          → cond b (change (option_row g) ++ rows_for gs) (option_row g ∷ at_row name change missing (rows_for gs))
          ≡ option_row g ∷ (rows_for gs ++ missing)
      go true e rest = absurd (true≢false e)
      go false e rest = ap (λ rs. option_row g ∷ rs) (rest e)

  used-once : (name value : Text) (given : GivenOptions) → has name given ≡ false
      → used (named name) (value ∷ []) (rows_for given) ≡ rows_for (given ++ (name, value) ∷ [])
  used-once name value given e =
      ap (with_values name (reading_by (named name)) CommandLine (value ∷ []))
      (at_end name (λ _. []) [] given e ∙ append-nil (rows_for given))
      ∙ at_end name (more_values CommandLine (value ∷ [])) (option_row (name, value) ∷ []) given e
      ∙ sym (map-append option_row given ((name, value) ∷ []))

  use-as : (name value : Text) (given : GivenOptions)
      → use_fault false (named name) (value ∷ []) (rows_for given) ≡ (if has name given then ArgumentConflict ∷ [] else [])
  use-as name value given =
      ap (λ b. or_else (if b && true then ArgumentConflict ∷ [] else []) []) (has-rows name given) ∙ go (has name given)
    where
      go : (b : Bool) → or_else (if b && true then ArgumentConflict ∷ [] else []) [] ≡ (if b then ArgumentConflict ∷ [] else [])
      go true = refl
      go false = refl

  -- ---- a walk over the arguments

  abbrev held_at : List Row → Option (Text × List Text) → Held
  held_at rows pending = record { rows = rows; pending = pending; skip = 0 }

  abbrev walk_at : List Row → Option (Text × List Text) → Waiting → Walk
  walk_at rows pending waiting =
      record { held = held_at rows pending; waiting = waiting; position = 1; is_trailing = false; stopped = None }

  abbrev end_of : Walk → List Text → Held
  end_of w words = (fold (walked rules []) w words).held

  abbrev faults : Walk → List Text → Kinds
  faults w words = or_else (walk_fault shape [] w words) (settle_fault rules false (end_of w words))

  -- the matches of the arguments, if none is rejected
  abbrev reads : Walk → List Text → Option (List Row)
  reads w words = if is_empty (faults w words) then Some (settled rules (end_of w words)).rows else None

  first-faulty : (a b : Kinds) → is_empty a ≡ false → is_empty (or_else a b) ≡ false
  first-faulty [] b e = absurd (true≢false e)
  first-faulty (k ∷ ks) b e = e

  steps : (w after : Walk) (word : Text) (words : List Text) → turn_fault shape [] w word ≡ [] → walked rules [] w word ≡ after
      → reads w (word ∷ words) ≡ reads after words
  unfolding walk_fault
  steps w after word words passes same =
      ap (λ t. if is_empty
      (or_else (or_else t (walk_fault shape [] (walked rules [] w word) words))
      (settle_fault rules false (end_of (walked rules [] w word) words)))
      then Some (settled rules (end_of (walked rules [] w word) words)).rows else None) passes
      ∙ ap (λ v. reads v words) same

  stops : (w : Walk) (word : Text) (words : List Text) → is_empty (turn_fault shape [] w word) ≡ false → reads w (word ∷ words) ≡ None
  unfolding walk_fault
  stops w word words faulty =
      let both =
      first-faulty (or_else (turn_fault shape [] w word) (walk_fault shape [] (walked rules [] w word) words))
      (settle_fault rules false (end_of (walked rules [] w word) words))
      (first-faulty (turn_fault shape [] w word) (walk_fault shape [] (walked rules [] w word) words) faulty) in
      ap (λ b. if b then Some (settled rules (end_of w (word ∷ words))).rows else None) both

  -- ---- one argument

  abbrev dashes : Text
  dashes = 45 ∷ 45 ∷ []

  no_dashes : (word : Text) → (word ≡ dashes → ⊥) → bytes_eq word dashes ≡ false
  no_dashes word other = go (bytes_eq word dashes) ((bytes_eq-Decides word dashes).0)
    where
      go : (b : Bool) → (b ≡ true → word ≡ dashes) → b ≡ false
      go true same = absurd (other (same refl))
      go false same = refl

  not_dashes : (word : Text) (l : Text × Option Text) → long_of word ≡ Some l → bytes_eq word dashes ≡ false
  not_dashes word l e = no_dashes word (λ is. none-some l (sym (ap long_of is) ∙ e))

  abbrev met_at : Bool → Option (Text × Option Text) → Waiting → Text → Held → Held × Step
  met_at b l waiting word h = if b then (h, trailing 1) else long_or_other rules waiting word l h

  abbrev fault_at : Bool → Option (Text × Option Text) → Waiting → Text → Held → Kinds
  fault_at b l waiting word h =
      or_else (if b then [] else flag_word_fault rules false l word h)
      (step_fault shape 1 (met_at b l waiting word h).0 (met_at b l waiting word h).1)

  abbrev long_at : Option Rule → Option Text → Waiting → Text → Held → Kinds
  long_at a v waiting word h = or_else (long_fault rules false a v h)
      (step_fault shape 1 (after_flag rules waiting word (long_met rules a v h).0 (long_met rules a v h).1).0
      (after_flag rules waiting word (long_met rules a v h).0 (long_met rules a v h).1).1)

  idle_turn : (rows : List Row) (p : Option (Text × List Text)) (word name : Text) (v : Option Text) → long_of word ≡ Some (name, v)
      → turn_fault shape [] (walk_at rows p idle) word ≡ long_at (arg_by_long rules name) v idle word (held_at rows p)
  idle_turn rows p word name v e = λ i. fault_at (not_dashes word (name, v) e i) (e i) idle word (held_at rows p)

  waiting_turn : (rows : List Row) (p : Option (Text × List Text)) (word id name : Text) (v : Option Text) → long_of word ≡ Some (name, v)
      → turn_fault shape [] (walk_at rows p (waits_for id)) word ≡ long_at (arg_by_long rules name) v (waits_for id) word (held_at rows p)
  waiting_turn rows p word id name v e = λ i. fault_at (not_dashes word (name, v) e i) (e i) (waits_for id) word (held_at rows p)

  abbrev long_next : Option Rule → Option Text → Text → Walk → Walk
  long_next a v word w = after_step rules word w (after_flag rules idle word (long_met rules a v w.held).0 (long_met rules a v w.held).1).0
      (after_flag rules idle word (long_met rules a v w.held).0 (long_met rules a v w.held).1).1

  idle_next : (rows : List Row) (p : Option (Text × List Text)) (word name : Text) (v : Option Text) → long_of word ≡ Some (name, v)
      → walked rules [] (walk_at rows p idle) word ≡ long_next (arg_by_long rules name) v word (walk_at rows p idle)
  unfolding walked
  idle_next rows p word name v e =
      λ i. after_step rules word (walk_at rows p idle) (met_at (not_dashes word (name, v) e i) (e i) idle word (held_at rows p)).0
      (met_at (not_dashes word (name, v) e i) (e i) idle word (held_at rows p)).1

  -- an option is rejected while another one waits for its value
  long-faulty : (name : Text) (v : Option Text) (waiting : Waiting) (word : Text) (h : Held) → is_empty (settle_fault rules false h) ≡ false
      → is_empty (long_at (arg_by_long rules name) v waiting word h) ≡ false
  long-faulty name v waiting word h faulty = go (is_option names name) refl v
    where
      go : (b : Bool) → is_option names name ≡ b → (v : Option Text) → is_empty (long_at (arg_by_long rules name) v waiting word h) ≡ false
      go true is (Some value) = ap (λ a. is_empty (long_at a (Some value) waiting word h)) (long_as name true is)
          ∙ first-faulty _ _ (first-faulty (settle_fault rules false h) _ faulty)
      go true is None =
          ap (λ a. is_empty (long_at a None waiting word h)) (long_as name true is) ∙ first-faulty (settle_fault rules false h) _ faulty
      go false is v = ap (λ a. is_empty (long_at a v waiting word h)) (long_as name false is)

  -- ---- an argument that isn't an option

  unhyphened : (word : Text) → is_stray word ≡ false → long_of word ≡ None → is_hyphened word ≡ false
  unhyphened word plain e = go (is_hyphened word) (sym (ap (λ l. is_hyphened word && not (is_some l)) e) ∙ plain)
    where
      go : (b : Bool) → (b && true) ≡ false → b ≡ false
      go true is = is
      go false is = refl

  hyphened : (word : Text) (l : Text × Option Text) → long_of word ≡ Some l → is_hyphened word ≡ true
  hyphened word l e = go (strip_byte 45 word) e
    where
      go : (o : Option Text) → option_and_then long_of_rest (option_and_then (strip_byte 45) o) ≡ Some l → is_some o ≡ true
      go None is = ap is_some is
      go (Some rest) is = refl

  unstripped : (o : Option Text) → is_some o ≡ false → o ≡ None
  unstripped None e = refl
  unstripped (Some rest) e = absurd (true≢false e)

  not_dashes_plain : (word : Text) → is_hyphened word ≡ false → bytes_eq word dashes ≡ false
  not_dashes_plain word plain = no_dashes word (λ is. true≢false (sym (ap is_hyphened is) ∙ plain))

  short-none : (word : Text) → is_hyphened word ≡ false → short_of word ≡ None
  short-none word plain = ap (option_and_then short_of_rest) (unstripped (strip_byte 45 word) plain)

  abbrev short_at : Option Text → Waiting → Text → Held → Kinds
  short_at s waiting word h = or_else (option_map_or (λ flags. bundle_fault rules false flags h) s [])
      (step_fault shape 1 (short_or_plain rules waiting word s h).0 (short_or_plain rules waiting word s h).1)

  unplaced : (k : ℕ) (ns : List Text) → arg_by_index (map named ns) k ≡ None
  unplaced k [] = refl
  unplaced k (n ∷ ns) = unplaced k ns

  idle-plain : (rows : List Row) (p : Option (Text × List Text)) (word : Text) → long_of word ≡ None → is_hyphened word ≡ false
      → turn_fault shape [] (walk_at rows p idle) word ≡ UnknownArgument ∷ []
  idle-plain rows p word e plain =
      let met : turn_fault shape [] (walk_at rows p idle) word ≡ fault_at false None idle word (held_at rows p)
      = λ i. fault_at (not_dashes_plain word plain i) (e i) idle word (held_at rows p) in
      met ∙ ap (λ s. short_at s idle word (held_at rows p)) (short-none word plain)
      ∙ ap (λ a. option_map_or (λ a. positional_fault rules false a (held_at rows p)) a (UnknownArgument ∷ [])) (unplaced 1 names)

  waiting-plain : (rows : List Row) (p : Option (Text × List Text)) (id word : Text) → long_of word ≡ None → is_hyphened word ≡ false
      → turn_fault shape [] (walk_at rows p (waits_for id)) word ≡ []
  waiting-plain rows p id word e plain = (λ i. fault_at (not_dashes_plain word plain i) (e i) (waits_for id) word (held_at rows p))
      ∙ ap (λ s. short_at s (waits_for id) word (held_at rows p)) (short-none word plain)

  abbrev met_next : Held × Step → Text → Walk → Walk
  met_next met word w = after_step rules word w met.0 met.1

  waiting-next : (rows : List Row) (id word : Text) → is_option names id ≡ true → long_of word ≡ None → is_hyphened word ≡ false
      → walked rules [] (walk_at rows (Some (id, [])) (waits_for id)) word ≡ walk_at rows (Some (id, word ∷ [])) idle
  unfolding walked
  waiting-next rows id word known e plain =
      (λ i. met_next (met_at (not_dashes_plain word plain i) (e i) (waits_for id) word (held_at rows (Some (id, [])))) word
      (walk_at rows (Some (id, [])) (waits_for id)))
      ∙ ap (λ s. met_next (short_or_plain rules (waits_for id) word s (held_at rows (Some (id, [])))) word
      (walk_at rows (Some (id, [])) (waits_for id))) (short-none word plain)
      ∙ ap (λ a. met_next
      ((value_word a id word (held_at rows (Some (id, [])))).0, next (value_word a id word (held_at rows (Some (id, [])))).1) word
      (walk_at rows (Some (id, [])) (waits_for id))) (id_as id known)
      ∙ ap (λ b. walk_at rows (Some (id, word ∷ [])) (if nat_lt (if b then length (word ∷ []) else 0) 1 then waits_for id else idle))
      ((bytes_eq-Decides id id).1 refl)

  -- ---- the option that waits

  settle-none : (rows : List Row) (name : Text) → is_option names name ≡ true
      → is_empty (settle_fault rules false (held_at rows (Some (name, [])))) ≡ false
  settle-none rows name known = ap (λ a. is_empty (option_map_or (λ a. use_fault false a [] rows) a [])) (id_as name known)

  settle-as : (name value : Text) (given : GivenOptions) → is_option names name ≡ true
      → settle_fault rules false (held_at (rows_for given) (Some (name, value ∷ [])))
      ≡ (if has name given then ArgumentConflict ∷ [] else [])
  settle-as name value given known =
      ap (λ a. option_map_or (λ a. use_fault false a (value ∷ []) (rows_for given)) a []) (id_as name known) ∙ use-as name value given

  settled-once : (name value : Text) (given : GivenOptions) → is_option names name ≡ true → has name given ≡ false
      → settled_rows rules (Some (name, value ∷ [])) (rows_for given) ≡ rows_for (given ++ (name, value) ∷ [])
  settled-once name value given known once =
      ap (λ a. used_by_id a (value ∷ []) (rows_for given)) (id_as name known) ∙ used-once name value given once

  -- a second use of an option is rejected, whatever follows it
  refused-later : (words : List Text) → list_any is_stray words ≡ false → (rows : List Row) (p : Option (Text × List Text))
      → is_empty (settle_fault rules false (held_at rows p)) ≡ false → reads (walk_at rows p idle) words ≡ None
  unfolding walk_fault
  refused-later [] plain rows p faulty = ap (λ b. if b then Some (settled rules (held_at rows p)).rows else None) faulty
  refused-later (word ∷ words) plain rows p faulty = stops (walk_at rows p idle) word words (go (long_of word) refl)
    where
      go : (l : Option (Text × Option Text)) → long_of word ≡ l → is_empty (turn_fault shape [] (walk_at rows p idle) word) ≡ false
      go None e = ap is_empty (idle-plain rows p word e (unhyphened word (or_parts (is_stray word) (list_any is_stray words) plain).0 e))
      go (Some l) e = ap is_empty (idle_turn rows p word l.0 l.1 e) ∙ long-faulty l.0 l.1 idle word (held_at rows p) faulty

  -- ---- the arguments, one by one

  -- from a walk in which no option waits, clap reads what the arguments give
  abbrev IdleReads : List Text → Type 0
  IdleReads words = (given : GivenOptions) (rows : List Row) (p : Option (Text × List Text)) → settled_rows rules p rows ≡ rows_for given
      → settle_fault rules false (held_at rows p) ≡ []
      → reads (walk_at rows p idle) words ≡ option_map rows_for (read_after (Some (given, None)) words)

  -- likewise from one in which an option waits for its value
  abbrev WaitingReads : List Text → Type 0
  WaitingReads words = (given : GivenOptions) (name : Text) → is_option names name ≡ true
      → reads (walk_at (rows_for given) (Some (name, [])) (waits_for name)) words
      ≡ option_map rows_for (read_after (Some (given, Some name)) words)

  -- an argument that clap rejects ends our reading too
  ends : (w : Walk) (word : Text) (words : List Text) → is_empty (turn_fault shape [] w word) ≡ false
      → reads w (word ∷ words) ≡ option_map rows_for (read_after None words)
  ends w word words faulty = stops w word words faulty ∙ sym (ap (option_map rows_for) (none-stays words))

  idle-step : (word : Text) (words : List Text) → is_stray word ≡ false → IdleReads words → WaitingReads words → IdleReads (word ∷ words)
  idle-step word words plain idle_reads waiting_reads given rows p same passes = go (long_of word) refl
    where
      one : (name value : Text) → is_option names name ≡ true → long_of word ≡ Some (name, Some value)
          → turn_fault shape [] (walk_at rows p idle) word ≡ or_else (if has name given then ArgumentConflict ∷ [] else []) []
      one name value is e =
          idle_turn rows p word name (Some value) e ∙ ap (λ a. long_at a (Some value) idle word (held_at rows p)) (long_as name true is)
          ∙ (λ i. or_else (or_else (passes i) (use_fault false (named name) (value ∷ []) (same i))) [])
          ∙ ap (λ k. or_else k []) (use-as name value given)

      valued : (name value : Text) → is_option names name ≡ true → long_of word ≡ Some (name, Some value) → (h : Bool) → has name given ≡ h
          → reads (walk_at rows p idle) (word ∷ words)
          ≡ option_map rows_for (read_after (if h then None else Some (given ++ (name, value) ∷ [], None)) words)
      valued name value is e true twice = ends (walk_at rows p idle) word words
          (ap is_empty (one name value is e ∙ ap (λ h. or_else (if h then ArgumentConflict ∷ [] else []) []) twice))
      valued name value is e false once =
          steps (walk_at rows p idle) (walk_at (used (named name) (value ∷ []) (rows_for given)) None idle) word words
          (one name value is e ∙ ap (λ h. or_else (if h then ArgumentConflict ∷ [] else []) []) once)
          (idle_next rows p word name (Some value) e ∙ ap (λ a. long_next a (Some value) word (walk_at rows p idle)) (long_as name true is)
          ∙ ap (λ rs. walk_at (used (named name) (value ∷ []) rs) None idle) same)
          ∙ idle_reads (given ++ (name, value) ∷ []) (used (named name) (value ∷ []) (rows_for given)) None
          (used-once name value given once) refl

      named-as : (name : Text) (b : Bool) → is_option names name ≡ b → (v : Option Text) → long_of word ≡ Some (name, v)
          → reads (walk_at rows p idle) (word ∷ words)
          ≡ option_map rows_for (read_after (if b then option_word given (name, v) else None) words)
      named-as name true is None e =
          steps (walk_at rows p idle) (walk_at (rows_for given) (Some (name, [])) (waits_for name)) word words
          (idle_turn rows p word name None e ∙ ap (λ a. long_at a None idle word (held_at rows p)) (long_as name true is)
          ∙ ap (λ k. or_else k []) passes)
          (idle_next rows p word name None e ∙ ap (λ a. long_next a None word (walk_at rows p idle)) (long_as name true is)
          ∙ ap (λ rs. walk_at rs (Some (name, [])) (waits_for name)) same)
          ∙ waiting_reads given name is
      named-as name true is (Some value) e = valued name value is e (has name given) refl
      named-as name false is v e = ends (walk_at rows p idle) word words
          (ap is_empty (idle_turn rows p word name v e ∙ ap (λ a. long_at a v idle word (held_at rows p)) (long_as name false is)))

      go : (l : Option (Text × Option Text)) → long_of word ≡ l → reads (walk_at rows p idle) (word ∷ words)
          ≡ option_map rows_for (read_after (option_and_then (λ o. if is_option names o.0 then option_word given o else None) l) words)
      go None e = ends (walk_at rows p idle) word words (ap is_empty (idle-plain rows p word e (unhyphened word plain e)))
      go (Some (name, v)) e = named-as name (is_option names name) refl v e

  waiting-step : (word : Text) (words : List Text) → is_stray word ≡ false → list_any is_stray words ≡ false → IdleReads words
      → WaitingReads (word ∷ words)
  waiting-step word words plain plain_rest idle_reads given name known = go (long_of word) refl
    where
      valued : (h : Bool) → has name given ≡ h → reads (walk_at (rows_for given) (Some (name, word ∷ [])) idle) words
          ≡ option_map rows_for (read_after (if h then None else Some (given ++ (name, word) ∷ [], None)) words)
      valued true twice = refused-later words plain_rest (rows_for given) (Some (name, word ∷ []))
          (ap is_empty (settle-as name word given known ∙ ap (λ h. if h then ArgumentConflict ∷ [] else []) twice))
          ∙ sym (ap (option_map rows_for) (none-stays words))
      valued false once =
          idle_reads (given ++ (name, word) ∷ []) (rows_for given) (Some (name, word ∷ [])) (settled-once name word given known once)
          (settle-as name word given known ∙ ap (λ h. if h then ArgumentConflict ∷ [] else []) once)

      Rest : Bool → Option (List Row)
      Rest b = option_map rows_for (read_after (if b then None else with_option given name word) words)

      go : (l : Option (Text × Option Text)) → long_of word ≡ l
          → reads (walk_at (rows_for given) (Some (name, [])) (waits_for name)) (word ∷ words) ≡ Rest (is_hyphened word)
      go None e =
          let bare = unhyphened word plain e in
          steps (walk_at (rows_for given) (Some (name, [])) (waits_for name))
          (walk_at (rows_for given) (Some (name, word ∷ [])) idle) word words
          (waiting-plain (rows_for given) (Some (name, [])) name word e bare) (waiting-next (rows_for given) name word known e bare)
          ∙ valued (has name given) refl ∙ sym (ap Rest bare)
      go (Some (other, v)) e = ends (walk_at (rows_for given) (Some (name, [])) (waits_for name)) word words
          (ap is_empty (waiting_turn (rows_for given) (Some (name, [])) word name other v e)
          ∙ long-faulty other v (waits_for name) word (held_at (rows_for given) (Some (name, [])))
          (settle-none (rows_for given) name known))
          ∙ sym (ap Rest (hyphened word (other, v) e))

  walks : (words : List Text) → list_any is_stray words ≡ false → IdleReads words × WaitingReads words
  unfolding walk_fault
  walks [] plain = (
    λ given rows p same passes i. if is_empty (passes i) then Some (same i) else None,
    λ given name known. ap (λ b. if b then Some (settled rules (held_at (rows_for given) (Some (name, [])))).rows else None)
        (settle-none (rows_for given) name known),
  )
  walks (word ∷ words) plain =
      let parts = or_parts (is_stray word) (list_any is_stray words) plain in
      let rest = walks words parts.1 in
      (idle-step word words parts.0 rest.0 rest.1, waiting-step word words parts.0 parts.1 rest.0)

  -- ---- the whole parse

  entered-none : (stop : Option (Text × List Text)) → entered_fault (app_with rules) stop ≡ []
  entered-none None = refl
  entered-none (Some p) = refl

  no-defaults : (ns : List Text) (rows : List Row) → fold with_default rows (map named ns) ≡ rows
  no-defaults [] rows = refl
  no-defaults (name ∷ ns) rows = ap (λ rs. fold with_default rs (map named ns)) (go (has_row name rows)) ∙ no-defaults ns rows
    where
      go : (b : Bool) → (if b then rows else rows) ≡ rows
      go true = refl
      go false = refl

  defaults-pass : (ns : List Text) (rows : List Row) → defaults_fault rows (map named ns) ≡ []
  unfolding defaults_fault
  defaults-pass [] rows = refl
  defaults-pass (name ∷ ns) rows =
      go (has_row name rows) (defaults_fault (with_default rows (named name)) (map named ns))
      ∙ defaults-pass ns (with_default rows (named name))
    where
      go : (b : Bool) (rest : Kinds) → or_else (if b || true then [] else []) rest ≡ rest
      go true rest = refl
      go false rest = refl

  none-required : (ns : List Text) (rows : List Row) → list_any (λ a. a.required && not (is_given a.id rows)) (map named ns) ≡ false
  none-required [] rows = refl
  none-required (n ∷ ns) rows = none-required ns rows

  check-passes : (rows : List Row) (b : Bool) → check_fault shape rows b ≡ []
  check-passes rows true = ap (check_kinds false false) (none-required names rows)
  check-passes rows false = ap (check_kinds false false) (none-required names rows)

  or_else-nil : (ks : Kinds) → or_else ks [] ≡ ks
  or_else-nil [] = refl
  or_else-nil (k ∷ ks) = refl

  abbrev first_walk : Walk
  first_walk = walk_at [] None idle

  faults-whole : (words : List Text) → fault_of (tool names) (with_name words) ≡ faults first_walk words
  faults-whole words =
      let end = end_of first_walk words in
      ap (λ rs. built_fault (app_with rs) nothing_held words) (filled-as 1 names)
      ∙ (λ i. or_else (walk_fault shape [] first_walk words)
      (or_else (entered-none (walk rules [] nothing_held words).stopped i) (or_else (settle_fault rules false end)
      (or_else (defaults-pass names (settled rules end).rows i)
      (check-passes (finished rules end) (is_some (entered (app_with rules) (walk rules [] nothing_held words).stopped)) i)))))
      ∙ ap (or_else (walk_fault shape [] first_walk words)) (or_else-nil (settle_fault rules false end))

  rows-whole : (words : List Text) → matches_of (tool names) (with_name words) ≡ (settled rules (end_of first_walk words)).rows
  rows-whole words =
      ap (λ rs. rows_after rs [] words) (filled-as 1 names) ∙ no-defaults names (settled rules (end_of first_walk words)).rows

  -- clap reads what the arguments give
  pub read_is_given : (words : List Text) → list_any is_stray words ≡ false
      → read_by_clap names words ≡ option_map rows_for (given_by names words)
  read_is_given words plain =
      (λ i. if is_empty (faults-whole words i) then Some (rows-whole words i) else None) ∙ (walks words plain).0 [] [] None refl refl

  -- ---- stray arguments

  stray_parts : (h : Bool) (l : Option (Text × Option Text)) → (h && not (is_some l)) ≡ true → (h ≡ true) × (l ≡ None)
  stray_parts true None e = (refl, refl)
  stray_parts true (Some l) e = absurd (true≢false (sym e))
  stray_parts false l e = absurd (true≢false (sym e))

  stray-next : (reading : Reading) (word : Text) → is_stray word ≡ true → next_word names reading word ≡ None
  stray-next (given, None) word is =
      ap (option_and_then (λ o. if is_option names o.0 then option_word given o else None))
      (stray_parts (is_hyphened word) (long_of word) is).1
  stray-next (given, Some name) word is =
      ap (λ b. if b then None else with_option given name word) (stray_parts (is_hyphened word) (long_of word) is).0

  stray_gives_none : (words : List Text) → list_any is_stray words ≡ true → (reading : Option Reading) → read_after reading words ≡ None
  stray_gives_none words e None = none-stays words
  stray_gives_none [] e (Some reading) = absurd (true≢false (sym e))
  stray_gives_none (word ∷ words) e (Some reading) = go (is_stray word) refl e (stray_gives_none words)
    where
      go : (b : Bool) → is_stray word ≡ b → (b || list_any is_stray words) ≡ true
          → (list_any is_stray words ≡ true → (reading : Option Reading) → read_after reading words ≡ None)
          → read_after (next_word names reading word) words ≡ None
      go true is e rest = ap (λ r. read_after r words) (stray-next reading word is) ∙ none-stays words
      go false is e rest = rest e (next_word names reading word)

  -- arguments with a stray one give nothing
  pub stray_is_refused : (words : List Text) → list_any is_stray words ≡ true → given_by names words ≡ None
  stray_is_refused words e = stray_gives_none words e (Some ([], None))

  -- ---- the results of the calls of clap

  all-simple : (ns : List Text) → list_all (λ a. a.is_simple) (map option ns) ≡ true
  all-simple [] = refl
  all-simple (n ∷ ns) = all-simple ns

  filled-simple : (ns : List Text) → list_all (λ a. a.is_simple) (map named ns) ≡ true
  filled-simple [] = refl
  filled-simple (n ∷ ns) = filled-simple ns

  all-free : (ns : List Text) → list_all (λ a. a.is_free) (map named ns) ≡ true
  all-free [] = refl
  all-free (n ∷ ns) = all-free ns

  none-early : (k : ℕ) (ns : List Text) → list_any (is_early_multiple k) (map named ns) ≡ false
  none-early k [] = refl
  none-early k (n ∷ ns) = none-early k ns

  abbrev is_simple_by : List Rule → Bool
  is_simple_by rs = list_all (λ a. a.is_simple) rs && not (list_any (is_early_multiple (count_by (λ a. is_some a.index) rs)) rs)

  simple-tool : is_simple (tool names) ≡ true
  simple-tool =
      ap (λ rs. (list_all (λ a. a.is_simple) (map option names) && true) && (is_simple_by rs && true)) (filled-as 1 names)
      ∙ (λ i. (all-simple names i && true)
      && ((filled-simple names i && not (none-early (count_by (λ a. is_some a.index) rules) names i)) && true))

  free-tool : is_simple_and_free (tool names) ≡ true
  free-tool = (λ i. simple-tool i && (list_all (λ a. a.is_free) (filled-as 1 names i) && true)) ∙ (λ i. all-free names i && true)

  some-among : (k : ErrorKind) (ks : Kinds) → IsAmong k ks → is_empty ks ≡ false
  some-among k [] among = absurd among
  some-among k (x ∷ xs) among = eqb-suc-zero (length xs)

  pub read_err : (app : App) (all words : List Text) (error : Error) → app ≡ tool names → all ≡ with_name words
      → (is_simple_and_free app ≡ true → HasKind (fault_of app all) error) → (kind_of error ≡ OutOfMemory → ⊥)
      → read_by_clap names words ≡ None
  read_err app all words error is same fails other =
      let kinds : HasKind (fault_of (tool names) (with_name words)) error
      = subst (λ (ks : Kinds). HasKind ks error) (λ i. fault_of (is i) (same i)) (fails (ap is_simple_and_free is ∙ free-tool)) in
      elim kinds [
        | inl e ↦ absurd (other e)
        | inr among ↦ ap (λ b. if b then Some (matches_of (tool names) (with_name words)) else None)
            (some-among (kind_of error) (fault_of (tool names) (with_name words)) among)
      ]

  pub read_ok : (app : App) (all words : List Text) (rows : List Row) → app ≡ tool names → all ≡ with_name words
      → (is_simple_and_free app ≡ true → fault_of app all ≡ []) → (is_simple app ≡ true → rows ≡ matches_of app all)
      → read_by_clap names words ≡ Some rows
  read_ok app all words rows is same passes found =
      let faultless : fault_of (tool names) (with_name words) ≡ [] =
      (λ i. fault_of (sym is i) (sym same i)) ∙ passes (ap is_simple_and_free is ∙ free-tool) in
      let whole : rows ≡ matches_of (tool names) (with_name words) =
      found (ap is_simple is ∙ simple-tool) ∙ (λ i. matches_of (is i) (same i)) in
      (λ i. if is_empty (faultless i) then Some (sym whole i) else None)

-- ---- one more option

abbrev app_tool : List Rule → App
app_tool rs = on_top (λ s. record s { rules = rs }) (without_help (new_app (codes "napi")))

pub adds : (old new : Command) (a : Arg) (names : List Text) (name : Text) → AddsArg old a new → a.global ≡ false → rule_of a ≡ option name
    → app_of old ≡ tool names
    → app_of new ≡ tool (names ++ name ∷ [])
adds old new a names name h global rule same =
    h.shape global ∙ (λ i. with_rule (same i) (rule i)) ∙ ap app_tool (sym (map-append option names (name ∷ [])))

pub next-text : (words : List (Bor Text)) (i : ℕ) (word : Bor Text) → i < length words
    → map (λ s. s.now) (take (i + 1) words) ≡ map (λ s. s.now) (take i words) ++ (get_or words i word).now ∷ []
next-text words i word below =
    ap (map (λ s. s.now)) (take_more words i word below) ∙ map-append (λ s. s.now) (take i words) (get_or words i word ∷ [])

-- ---- results

first-as : (name : Text) (given : GivenOptions) → first_of name (rows_for given) ≡ value_of name given
first-as name [] = refl
first-as name (g ∷ gs) = go (bytes_eq g.0 name) (first-as name gs)
  where
    go : (b : Bool) → first_of name (rows_for gs) ≡ value_of name gs
        → option_and_then (λ (r : Row). slice_get r.values 0) (cond b (Some (option_row g)) (find (λ r. bytes_eq r.id name) (rows_for gs)))
        ≡ option_map (λ (x : Text × Text). x.1) (cond b (Some g) (find (λ x. bytes_eq x.0 name) gs))
    go true e = refl
    go false e = e

-- a question about the options that clap found has the same reply for the options that the arguments give
pub asked-as : {A : Type 0} (ask : (Text → Option Text) → Option A) (o : Option GivenOptions) (rows : List Row)
    → option_map rows_for o ≡ Some rows
    → option_and_then (λ given. ask (λ name. value_of name given)) o ≡ ask (λ name. first_of name rows)
asked-as ask None rows e = cc
asked-as ask (Some given) rows e = let same : rows_for given ≡ rows = cc in
    (λ i. ask (λ name. sym (first-as name given) i)) ∙ ap (λ rs. ask (λ name. first_of name rs)) same

pub found_is : {A B E : Type 0} (view : A → B) (r : Result A E) (o : Option A) (asked : Option B) → o ≡ result_ok r
    → option_map view o ≡ asked → IfOk r (λ x. asked ≡ Some (view x))
found_is view (Ok x) o asked is same = sym same ∙ ap (option_map view) is
found_is view (Err e) o asked is same = tt

pub refused_is : {A B E : Type 0} (view : A → B) (r : Result A E) (o : Option A) (asked : Option B) → o ≡ result_ok r
    → option_map view o ≡ asked → (e : E) → r ≡ Err e → asked ≡ None
refused_is view r o asked is same e failed = sym same ∙ ap (option_map view) (is ∙ ap result_ok failed)

pub none-given : (o : Option GivenOptions) → option_map rows_for o ≡ None → o ≡ None
none-given None e = refl
none-given (Some given) e = cc
