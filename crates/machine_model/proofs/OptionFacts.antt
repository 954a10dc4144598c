-- The values of options: in their ranges, and as arguments give them.
use Rattle.std.proofs.{Common.{◌≡◌, ◌≤◌, ◌<◌, ◌+◌, ◌-◌, ℕ, zero, suc, List, [], ◌∷◌, length, map, set, slice_index_or, nat_eq, ◌⊎◌, inl}}
use Rattle.std.proofs.{Common.{inr, Option, Some, None, Result, Ok, Err, IfOk, IfErr, option_map, ◌∙◌, ap, refl, subst, sym, arith}}
use Rattle.std.proofs.lemmas.{Bool.cases_eq, Grind.common_steps, List.{get_or-map, get_or-set_same, get_or-set_other, get_or_default}}
use Rattle.std.{proofs.lemmas.List.FromFn.fill_by_all, specs.{List.{AllZip, range_with_len}, Option.{ForSome, option_and_then}}}
use Rattle.std.specs.{Prelude.{Bool, true, false, ◌&&◌, is_some, nat_le, nat_lt, if◌then◌else◌}, Result.result_ok}
use Rattle.text_io.specs.Given.{Text, number_within, or_default}
use Rattle.machine_model.specs.Options.{OptionRule, cost_number, machine_options, option_defaults, flag_number, own_cost, rule, AreInRange}
use Rattle.machine_model.specs.Options.{row_of_option, rule_row, IsOption, IsOptionInRange, IsRejected, exceeds, misfit, number_with}
use Rattle.machine_model.specs.Options.{values_of, values_with}
use Rattle.machine_model.specs.declared.settings.{MachineOption.MachineOption, MachineSettings.MachineSettings, TheConstants.OPTION_COUNT}

-- ---- lists

pub all_zip_from : {A B : Type 0} (R : A → B → Type 0) (xs : List A) (ys : List B)
    → length ys ≡ length xs → ((k : ℕ) (d : A) (e : B) → k < length xs → R (slice_index_or xs k d) (slice_index_or ys k e)) → AllZip R xs ys
all_zip_from R [] [] n h = tt
all_zip_from R [] (y ∷ ys) n h = absurd (omega (arith, n))
all_zip_from R (x ∷ xs) [] n h = absurd (omega (arith, n))
all_zip_from R (x ∷ xs) (y ∷ ys) n h =
    (h 0 x y (omega arith), all_zip_from R xs ys (omega (arith, n)) (λ k d e l. h (suc k) d e (omega (arith, l))))

same_length : {A B : Type 0} (R : A → B → Type 0) (xs : List A) (ys : List B) → AllZip R xs ys → length ys ≡ length xs
same_length R [] [] h = refl
same_length R [] (y ∷ ys) h = absurd h
same_length R (x ∷ xs) [] h = absurd h
same_length R (x ∷ xs) (y ∷ ys) h = ap suc (same_length R xs ys h.1)

pub same_maps : {A B C : Type 0} (f : A → C) (g : B → C) (xs : List A) (ys : List B)
    → AllZip (λ x y. g y ≡ f x) xs ys → map g ys ≡ map f xs
same_maps f g [] [] h = refl
same_maps f g [] (y ∷ ys) h = absurd h
same_maps f g (x ∷ xs) [] h = absurd h
same_maps f g (x ∷ xs) (y ∷ ys) h = ap (λ z. z ∷ map g ys) h.0 ∙ ap (λ zs. f x ∷ zs) (same_maps f g xs ys h.1)

-- ---- the table

pub length_options : length machine_options ≡ OPTION_COUNT
unfolding machine_options
length_options = refl

all_defaults : (options : List OptionRule) → AllZip IsOptionInRange options (map (λ (o : OptionRule). o.default) options)
all_defaults [] = tt
all_defaults (o ∷ options) = (inr refl, all_defaults options)

pub defaults_in_range : AreInRange option_defaults
defaults_in_range = all_defaults machine_options

pub defaults_fit : exceeds option_defaults ≡ false
unfolding machine_options
defaults_fit = refl

-- a value that isn't above another
pub below : (a b : ℕ) → nat_lt b a ≡ false → a ≤ b
below a b fit = grind (arith, common_steps)

pub at : {A B : Type 0} (R : A → B → Type 0) (xs : List A) (ys : List B) (k : ℕ) (d : A) (e : B)
    → AllZip R xs ys → k < length xs → R (slice_index_or xs k d) (slice_index_or ys k e)
at R [] [] k d e h l = let bad : ⊥ = omega (arith, l) in absurd bad
at R [] (y ∷ ys) k d e h l = absurd h
at R (x ∷ xs) [] k d e h l = absurd h
at R (x ∷ xs) (y ∷ ys) zero d e h l = h.0
at R (x ∷ xs) (y ∷ ys) (suc k) d e h l = at R xs ys k d e h.1 (omega (arith, l))

pub in_range_at : (values : List ℕ) (k : ℕ) (o : OptionRule) (d : ℕ)
    → AreInRange values → k < OPTION_COUNT → IsOptionInRange (slice_index_or machine_options k o) (slice_index_or values k d)
in_range_at values k o d h l = at IsOptionInRange machine_options values k o d h (omega (arith, l, length_options))

-- a table with the rows of the definition has its options
pub option_at : (xs : List MachineOption) (k : ℕ) (d : MachineOption) (o : OptionRule) → length xs ≡ OPTION_COUNT → k < OPTION_COUNT
    → map row_of_option xs ≡ map rule_row machine_options → IsOption (slice_index_or xs k d) (slice_index_or machine_options k o)
option_at xs k d o n l same =
    let row : row_of_option (slice_index_or xs k d) ≡ rule_row (slice_index_or machine_options k o) =
    sym (get_or-map row_of_option xs k d (row_of_option d) (omega (arith, n, l)))
    ∙ ap (λ rows. slice_index_or rows k (row_of_option d)) same
    ∙ get_or-map rule_row machine_options k o (row_of_option d) (omega (arith, l, length_options)) in
    record { name = ap (λ r. r.0) row; least = ap (λ r. r.1) row; most = ap (λ r. r.2) row; default = ap (λ r. r.3) row }

pub no_option : OptionRule
no_option = rule [] (λ s. 0) 0 0 0

-- the default of this option is in its range
abbrev pub is_plain : OptionRule → Bool
is_plain o = nat_le o.least o.default && nat_le o.default o.most

plain : (o : OptionRule) (value : ℕ) → is_plain o ≡ true → IsOptionInRange o value → (o.least ≤ value) × (value ≤ o.most)
plain o value is (inl range) = range
plain o value is (inr default) = grind (arith, common_steps)

pub plain_at : (values : List ℕ) (k : ℕ) → AreInRange values → k < OPTION_COUNT
    → is_plain (slice_index_or machine_options k no_option) ≡ true
    → ((slice_index_or machine_options k no_option).least ≤ slice_index_or values k 0)
    × (slice_index_or values k 0 ≤ (slice_index_or machine_options k no_option).most)
plain_at values k h l is =
    plain (slice_index_or machine_options k no_option) (slice_index_or values k 0) is (in_range_at values k no_option 0 h l)

-- a cost of its own, or that of another option
pub own_in : (n : ℕ) → ((0 ≤ n) × (n ≤ 1000000000)) ⊎ (n ≡ 4294967295) → ForSome (own_cost n) (λ time. time ≤ 1000000000)
own_in n h = grind (arith, common_steps)

pub own_is : (n : ℕ) → cost_number (own_cost n) ≡ n
own_is n = grind (arith, common_steps)

-- values in the order of their options, written out
pub listed : (values : List ℕ) → AreInRange values → values ≡ map (λ k. slice_index_or values k 0) (range_with_len 0 OPTION_COUNT)
listed values h =
    let all = same_length IsOptionInRange machine_options values h ∙ length_options in
    fill_by_all (λ k. slice_index_or values k 0) values OPTION_COUNT 0 all (λ k l. refl)

pub flag : (n : ℕ) → n ≤ 1 → flag_number (nat_eq n 1) ≡ n
flag zero h = refl
flag (suc zero) h = refl
flag (suc (suc n)) h = let bad : ⊥ = omega (arith, h) in absurd bad

-- an option of the table in the program, and the same option of the definition

pub out_at : (values : List ℕ) (i : ℕ) (m : MachineOption) → ((o : OptionRule) → IsOption m (slice_index_or machine_options i o))
    → i < length values
    → ¬ (((m.least ≤ slice_index_or values i 0) × (slice_index_or values i 0 ≤ m.most)) ⊎ (slice_index_or values i 0 ≡ m.default))
    → (o : OptionRule) (d : ℕ) → ¬ IsOptionInRange (slice_index_or machine_options (i + 1 - 1) o) (slice_index_or values (i + 1 - 1) d)
out_at values i m is l out o d =
    let back : i + 1 - 1 ≡ i = omega arith in
    let same = get_or_default values i d 0 l in
    let here : ¬ IsOptionInRange (slice_index_or machine_options i o) (slice_index_or values i d) =
    λ h. elim h [
      | inl r ↦ out (inl (omega (arith, same, (is o).least, r.0), omega (arith, same, (is o).most, r.1)))
      | inr e ↦ out (inr (omega (arith, same, (is o).default, e)))
    ] in
    subst (λ (n : ℕ). ¬ IsOptionInRange (slice_index_or machine_options n o) (slice_index_or values n d)) (sym back) here

within : (digits low high n : ℕ) (text : Text) → Some n ≡ number_within digits low high text → (low ≤ n) × (n ≤ high)
within digits low high n text is = grind (arith, common_steps)

-- a number that is given for an option, or its default
pub range_is : (o : OptionRule) (m : MachineOption) (n : ℕ) (value : Option Text) → IsOption m o
    → Some n ≡ or_default m.default (number_within 10 m.least m.most) value → IsOptionInRange o n
range_is o m n None is e = let same : n ≡ m.default = cc e in inr (omega (arith, is.default, same))
range_is o m n (Some text) is e =
    let range = within 10 m.least m.most n text e in inl (omega (arith, is.least, range.0), omega (arith, is.most, range.1))

pub number_is : (m : MachineOption) (o : OptionRule) (value : Text → Option Text) (n : Option ℕ) → IsOption m o
    → n ≡ or_default m.default (number_within 10 m.least m.most) (value m.name.now) → number_with value o ≡ n
number_is m o value n is h = sym
    (h ∙ ap (λ x. or_default x (number_within 10 m.least m.most) (value m.name.now)) is.default
    ∙ ap (λ x. or_default o.default (number_within 10 x m.most) (value m.name.now)) is.least
    ∙ ap (λ x. or_default o.default (number_within 10 o.least x) (value m.name.now)) is.most
    ∙ ap (λ x. or_default o.default (number_within 10 o.least o.most) (value x)) is.name)

-- one more value, of the option at this position
pub one_more : (P : OptionRule → ℕ → Type 0) (values : List ℕ) (i v : ℕ) → i < length values
    → ((k : ℕ) (o : OptionRule) (d : ℕ) → k < i → P (slice_index_or machine_options k o) (slice_index_or values k d))
    → ((o : OptionRule) → P (slice_index_or machine_options i o) v)
    → (k : ℕ) (o : OptionRule) (d : ℕ) → k < i + 1 → P (slice_index_or machine_options k o) (slice_index_or (set values i v) k d)
one_more P values i v l before here k o d m = elim (cases_eq k i) [
  | inl e ↦ subst (λ (n : ℕ). P (slice_index_or machine_options n o) (slice_index_or (set values i v) n d)) (sym e)
      (subst (λ (x : ℕ). P (slice_index_or machine_options i o) x) (sym (get_or-set_same values i v d l)) (here o))
  | inr e ↦ subst (λ (x : ℕ). P (slice_index_or machine_options k o) x) (sym (get_or-set_other values i k v d e))
      (before k o d (omega (arith, m, e)))
]

-- ---- arguments

fit_is : (values : List ℕ) (m : Option ℕ) (o : Option (List ℕ)) → m ≡ None → o ≡ Some values
    → o ≡ (if is_some m then None else Some values)
fit_is values m o fit is = rw fit is

none_is : (values : List ℕ) (m : Option ℕ) (number : ℕ) → m ≡ Some number → None ≡ (if is_some m then None else Some values)
none_is values m number out = rw out refl

pub asked_is : (r : Result MachineSettings ℕ) (values : List ℕ) → IfOk r (λ s. values_of s ≡ values)
    → IfOk r (λ s. misfit values ≡ None) → IfErr r (λ number. IsRejected values number) → AreInRange values
    → option_map values_of (result_ok r) ≡ (if is_some (misfit values) then None else Some values)
asked_is (Ok s) values ok fit err h = fit_is values (misfit values) (Some (values_of s)) fit (ap Some ok)
asked_is (Err n) values ok fit (inl out) h =
    absurd (out.out no_option 0 (in_range_at values (n - 1) no_option 0 h (omega (arith, out.numbered.0, out.numbered.1, length_options))))
asked_is (Err n) values ok fit (inr both) h = none_is values (misfit values) n both.1

abbrev nothing : Option (List ℕ)
nothing = None

then_none : {A : Type 0} (o : Option A) → option_and_then (λ (x : A). nothing) o ≡ nothing
then_none None = refl
then_none (Some x) = refl

pub values_all : (options : List OptionRule) (values : List ℕ) (value : Text → Option Text)
    → AllZip (λ o v. number_with value o ≡ Some v) options values → values_with options value ≡ Some values
values_all [] [] value h = refl
values_all [] (v ∷ values) value h = absurd h
values_all (o ∷ options) [] value h = absurd h
values_all (o ∷ options) (v ∷ values) value h =
    ap (option_and_then (λ first. option_and_then (λ rest. Some (first ∷ rest)) (values_with options value))) h.0
    ∙ ap (option_and_then (λ rest. Some (v ∷ rest))) (values_all options values value h.1)

pub values_none : (options : List OptionRule) (k : ℕ) (d : OptionRule) (value : Text → Option Text)
    → k < length options → number_with value (slice_index_or options k d) ≡ None → values_with options value ≡ None
values_none [] k d value l h = let bad : ⊥ = omega (arith, l) in absurd bad
values_none (o ∷ options) zero d value l h =
    ap (option_and_then (λ first. option_and_then (λ rest. Some (first ∷ rest)) (values_with options value))) h
values_none (o ∷ options) (suc k) d value l h =
    ap (λ rests. option_and_then (λ first. option_and_then (λ rest. Some (first ∷ rest)) rests) (number_with value o))
    (values_none options k d value (omega (arith, l)) h)
    ∙ then_none (number_with value o)
