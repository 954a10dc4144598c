-- A bit for each device whose card needs some action (a "chore").
use Rattle.std.proofs.Common.{◌≡◌, ◌≢◌, ◌∙◌, inl, inr, ℕ, ◌<◌, ◌≤◌, ◌^◌, Bool, true, false, cond, List, length}
use Rattle.std.proofs.Common.{refl, sym, ap, arith, w64, get_or, set, replicate}
use Rattle.std.proofs.lemmas.List.Elements.{All-get_or}
use Rattle.std.proofs.lemmas.{List.{get_or-replicate, get_or-set_other, get_or-set_same, get_or_default, get_or_past, length-replicate}}
use Rattle.std.proofs.lemmas.{Bool.{cases_eq, cases_lt, eq-eqb, ne_eqb, lt-ltb, le-ltb}, Nat.Bits.{bit_at-trailing_zeros, bit_at-zero}}
use Rattle.std.proofs.lemmas.Nat.{div_below, le-div, pow_pos}
use Rattle.std.specs.{Prelude.{◌/◌, ◌==◌, Option, Some, None, is_some, nat_lt}, List.All, Int.{bit_at, trailing_zeros}}
use Rattle.driver_core.specs.{Device.{in_stage, chore_at, masks_for_poll}, Queue.{MarksChores, OnlyMask, device_at}}
use Rattle.driver_core.specs.declared.device.{Chore.Chore, DriverDevice.{DriverDevice}}
use Rattle.driver_core.specs.declared.device.Chore.TheVariants as chore
use Rattle.driver_core.specs.declared.device.Stage.{Stage}
use Rattle.driver_core.specs.declared.device.Stage.TheVariants.{Closed, Masking, Closing, Listed, Unmasking, Looking}
use Rattle.driver_core.specs.declared.device.Stage.TheVariants.{Armed, Deferring, Deferred}

abbrev has_chore : DriverDevice → Bool
has_chore d = is_some (chore_at d.stage)

abbrev flag : Bool → ℕ
flag b = cond b 1 0

flag-one : (b : Bool) → 1 ≡ flag b → b ≡ true
flag-one true h = refl
flag-one false h = absurd (omega (arith, h))

flag-none : (b : Bool) → 0 ≡ flag b → b ≡ false
flag-none true h = absurd (omega (arith, h))
flag-none false h = refl

no-chore : (o : Option Chore) → is_some o ≡ false → o ≡ None
no-chore None h = refl
no-chore (Some c) h = absurd (cc h)

past : (devices : List DriverDevice) (id : ℕ) → length devices ≤ id → device_at devices id ≡ in_stage Closed false
past devices id le = get_or_past devices id (in_stage Closed false) le

-- the lowest bit that is set belongs to a device whose card needs an action
pub first_in : (devices : List DriverDevice) (bits : ℕ) → 0 < bits → bits < 2 ^ 64 → MarksChores devices bits
    → (trailing_zeros w64 bits < length devices) × (has_chore (device_at devices (trailing_zeros w64 bits)) ≡ true)
first_in devices bits some fits marks =
    let id = trailing_zeros w64 bits in
    let lowest = bit_at-trailing_zeros w64 bits some fits in
    let on : has_chore (device_at devices id) ≡ true =
    flag-one (has_chore (device_at devices id)) (sym lowest.1 ∙ marks id lowest.0) in
    let within : id < length devices = elim (cases_lt id (length devices)) [
      | inl lt ↦ lt
      | inr le ↦
          let off : has_chore (device_at devices id) ≡ false = ap has_chore (past devices id le) in
          let both : false ≡ true = sym off ∙ on in
          absurd (cc both)
    ] in
    (within, on)

-- if no bit is set, no card needs an action
pub none_in : (devices : List DriverDevice) (bits : ℕ) → bits ≡ 0 → length devices ≤ 64 → MarksChores devices bits
    → All (λ (d : DriverDevice). chore_at d.stage ≡ None) devices
none_in devices bits zero few marks k d lt =
    let e : get_or devices k d ≡ device_at devices k = get_or_default devices k d (in_stage Closed false) lt in
    let off : has_chore (device_at devices k) ≡ false =
    let none : bit_at bits k ≡ 0 = ap (λ (n : ℕ). bit_at n k) zero ∙ bit_at-zero k in
    flag-none (has_chore (device_at devices k)) (sym none ∙ marks k (omega (arith, lt, few))) in
    ap (λ (d : DriverDevice). chore_at d.stage) e ∙ no-chore (chore_at (device_at devices k).stage) off

-- a device and its bit change together
pub put_marks : (devices : List DriverDevice) (bits after : ℕ) (id : ℕ) (to : DriverDevice) → id < length devices
    → bit_at after id ≡ cond (is_some (chore_at to.stage)) 1 0
    → ((k : ℕ) → k < 64 → k ≢ id → bit_at after k ≡ bit_at bits k)
    → MarksChores devices bits → MarksChores (set devices id to) after
put_marks devices bits after id to lt same others marks k small = elim (cases_eq k id) [
  | inl e ↦ rw e (same ∙ sym (ap (λ (d : DriverDevice). flag (has_chore d)) (get_or-set_same devices id to (in_stage Closed false) lt)))
  | inr ne ↦
      others k small ne ∙ marks k small
      ∙ sym (ap (λ (d : DriverDevice). flag (has_chore d)) (get_or-set_other devices id k to (in_stage Closed false) ne))
]

-- the cards of closed devices need no action
pub new_marks : (count : ℕ) → MarksChores (replicate count (in_stage Closed false)) 0
new_marks count k small =
    let closed : device_at (replicate count (in_stage Closed false)) k ≡ in_stage Closed false = elim (cases_lt k count) [
      | inl lt ↦ get_or-replicate count k (in_stage Closed false) (in_stage Closed false) lt
      | inr le ↦ past (replicate count (in_stage Closed false)) k (omega (arith, le, length-replicate count (in_stage Closed false)))
    ] in
    bit_at-zero k ∙ sym (ap (λ (d : DriverDevice). flag (has_chore d)) closed)

pub lowest_set : (bits : ℕ) → 1 ≤ bits → bits < 2 ^ 64
    → (trailing_zeros w64 bits < 64) × (bit_at bits (trailing_zeros w64 bits) ≡ 1)
    × ((k : ℕ) → k < trailing_zeros w64 bits → bit_at bits k ≡ 0)
lowest_set bits some fits = bit_at-trailing_zeros w64 bits (omega (arith, some)) fits

-- the device of a bit that is set, other than this one's
other_chore : (devices : List DriverDevice) (bits others id : ℕ) → MarksChores devices bits → 1 ≤ others → others < 2 ^ 64
    → bit_at others id ≡ 0 → ((k : ℕ) → k < 64 → k ≢ id → bit_at others k ≡ bit_at bits k)
    → (k : ℕ) × (k ≢ id) × (has_chore (device_at devices k) ≡ true)
other_chore devices bits others id marks some fits off same =
    let lowest = lowest_set others some fits in
    let k : ℕ = trailing_zeros w64 others in
    let ne : k ≢ id =
    λ e.
    let both : 1 ≡ 0 = sym lowest.1 ∙ ap (λ (n : ℕ). bit_at others n) e ∙ off in
    absurd (omega (arith, both)) in
    (k, ne, flag-one (has_chore (device_at devices k)) (sym lowest.1 ∙ same k lowest.0 ne ∙ marks k lowest.0))

only-one : (devices : List DriverDevice) (id k : ℕ) → OnlyMask id devices → has_chore (device_at devices k) ≡ true → k ≡ id
only-one devices id k only on = elim (cases_eq k id) [
  | inl e ↦ e
  | inr ne ↦
      let none : has_chore (device_at devices k) ≡ false = elim (cases_lt k (length devices)) [
        | inl lt ↦ ap (λ (o : Option Chore). is_some o) (only.others k lt ne)
        | inr le ↦ ap has_chore (past devices k le)
      ] in
      let both : true ≡ false = sym on ∙ none in
      absurd (cc both)
]

pub mask_chore : (s : Stage) → masks_for_poll s ≡ true → chore_at s ≡ Some chore.Mask
mask_chore (Masking stopping) h = refl
mask_chore (Listed stopping) h = absurd (cc h)
mask_chore Closed h = absurd (cc h)
mask_chore Closing h = absurd (cc h)
mask_chore Unmasking h = absurd (cc h)
mask_chore Looking h = absurd (cc h)
mask_chore Armed h = absurd (cc h)
mask_chore Deferring h = absurd (cc h)
mask_chore Deferred h = absurd (cc h)

-- if no other bit is set, the cards of all other devices need no action
pub only_chore : (devices : List DriverDevice) (bits others id : ℕ) → MarksChores devices bits → length devices ≤ 64 → others ≡ 0
    → ((k : ℕ) → k < 64 → k ≢ id → bit_at others k ≡ bit_at bits k) → id < length devices
    → masks_for_poll (device_at devices id).stage ≡ true → OnlyMask id devices
only_chore devices bits others id marks few zero same range mask = record {
  range = range;
  mask = mask;
  others = λ k lt ne.
      let small : k < 64 = omega (arith, lt, few) in
      let none : bit_at bits k ≡ 0 = sym (same k small ne) ∙ ap (λ (n : ℕ). bit_at n k) zero ∙ bit_at-zero k in
      no-chore (chore_at (device_at devices k).stage) (flag-none (has_chore (device_at devices k)) (sym none ∙ marks k small));
}

-- if no card needs an action, none has to be masked
pub no_only : (devices : List DriverDevice) → All (λ (d : DriverDevice). chore_at d.stage ≡ None) devices → (id : ℕ)
    → ¬ OnlyMask id devices
no_only devices none id only =
    let off : has_chore (device_at devices id) ≡ false =
    ap (λ (o : Option Chore). is_some o)
    (All-get_or (λ (d : DriverDevice). chore_at d.stage ≡ None) devices id (in_stage Closed false) only.range none) in
    let on : has_chore (device_at devices id) ≡ true =
    ap (λ (o : Option Chore). is_some o) (mask_chore (device_at devices id).stage only.mask) in
    let both : true ≡ false = sym on ∙ off in
    cc both

-- if another bit is set, more has to be done
pub other_only : (devices : List DriverDevice) (bits others first : ℕ) (chore : Chore) → MarksChores devices bits → others ≢ 0
    → others < 2 ^ 64 → bit_at others first ≡ 0 → ((k : ℕ) → k < 64 → k ≢ first → bit_at others k ≡ bit_at bits k)
    → chore_at (device_at devices first).stage ≡ Some chore → (id : ℕ) → ¬ OnlyMask id devices
other_only devices bits others first chore marks some fits off same found id only =
    let other = other_chore devices bits others first marks (omega (arith, some)) fits off same in
    let one : first ≡ id = only-one devices id first only (ap (λ (o : Option Chore). is_some o) found) in
    let two : other.0 ≡ id = only-one devices id other.0 only other.2 in
    other.1 (two ∙ sym one)

-- if another action is needed at the first card, none has to be masked
pub first_only : (devices : List DriverDevice) (first : ℕ) (chore : Chore) → chore_at (device_at devices first).stage ≡ Some chore
    → masks_for_poll (device_at devices first).stage ≡ false → (id : ℕ) → ¬ OnlyMask id devices
first_only devices first chore found off id only =
    let one : first ≡ id = only-one devices id first only (ap (λ (o : Option Chore). is_some o) found) in
    let both : true ≡ false =
    sym only.mask ∙ ap (λ (n : ℕ). masks_for_poll (device_at devices n).stage) (sym one) ∙ off in
    cc both

-- a number has only bits below one exactly if that power of two is above it
pub all-below : (bits count : ℕ) → (bits / 2 ^ count == 0) ≡ nat_lt bits (2 ^ count)
all-below bits count = elim (cases_lt bits (2 ^ count)) [
  | inl lt ↦
      let zero : bits / 2 ^ count < 1 = div_below bits (2 ^ count) 1 (pow_pos count) (omega (arith, lt)) in
      eq-eqb (bits / 2 ^ count) 0 (omega (arith, zero)) ∙ sym (lt-ltb bits (2 ^ count) lt)
  | inr le ↦
      let some : 1 ≤ bits / 2 ^ count = le-div 1 bits (2 ^ count) (pow_pos count) (omega (arith, le)) in
      ne_eqb (bits / 2 ^ count) 0 (λ zero. absurd (omega (arith, some, zero))) ∙ sym (le-ltb bits (2 ^ count) le)
]
