-- Interrupts that are reported together.
use Rattle.std.proofs.Common.{◌≡◌, ◌≢◌, ◌∙◌, inl, inr, ℕ, ◌+◌, ◌<◌, ◌≤◌, List, [], ◌∷◌, ◌++◌, length, refl, sym, ap, arith, subst}
use Rattle.std.proofs.Common.{cond, Bool}
use Rattle.std.proofs.lemmas.{Bool.cases_eq, List.Sums.sum_by-append, Bool.Decides.{eqb_tells}, Bool.{cases_lt, eq-eqb}}
use Rattle.std.proofs.lemmas.{Nat.Bits.bit_at-zero}
use Rattle.std.proofs.Math.ListN.{length-set}
use Rattle.std.specs.{Prelude.{◌==◌}, Int.{bit_at}}
use Rattle.driver_core.specs.{Device.after_interrupt, Queue.occurs}
use Rattle.driver_core.specs.Driver.{AwaitsNothing, ReportsInterrupts, InterruptsIn, PutsDevice, device_of, driver_devices}
use Rattle.poll_runs.specs.declared.polling_run.PollingRun.{PollingRun}
use Rattle.driver_core.specs.declared.{device.DriverDevice.DriverDevice, driver.Driver.Driver}

-- the interrupts of the bits that are set in `bits` but no longer in `left` were reported
pub record Reported (turns bits left : ℕ) (before after : Driver) : Type 0 where
  pub ids : List ℕ
  pub each : (id : ℕ) → id < length (driver_devices before) → occurs id ids + bit_at left id ≡ bit_at bits id
  pub reports : InterruptsIn ids before after
  pub len : length (driver_devices after) ≡ length (driver_devices before)
  pub few : length (driver_devices before) ≤ 64
  pub free : AwaitsNothing before → AwaitsNothing after
  pub low : (k : ℕ) → k < turns → bit_at left k ≡ 0

occurs-append : (k : ℕ) (xs ys : List ℕ) → occurs k (xs ++ ys) ≡ occurs k xs + occurs k ys
occurs-append k xs ys = sum_by-append (λ x. cond (x == k) 1 0) xs ys

pub occurs-itself : (k id : ℕ) → k ≡ id → occurs k (id ∷ []) ≡ 1
occurs-itself k id e = ap (λ (b : Bool). 0 + cond b 1 0) (eq-eqb id k (sym e))

pub occurs-other : (k id : ℕ) → k ≢ id → occurs k (id ∷ []) ≡ 0
occurs-other k id ne = elim (eqb_tells id k) [
  | inl is ↦ absurd (ne (sym is.1))
  | inr is ↦ ap (λ (b : Bool). 0 + cond b 1 0) is.0
]

pub nothing_reported : (bits : ℕ) (driver : Driver) → length (driver_devices driver) ≤ 64 → Reported 0 bits bits driver driver
nothing_reported bits driver few = record {
  ids = [];
  each = λ id lt. let none : occurs id [] ≡ 0 = refl in omega (arith, none);
  reports = refl;
  low = λ k lt. absurd (omega (arith, lt));
  len = refl;
  few = few;
  free = λ free. free;
}

one-more : (ids : List ℕ) (id : ℕ) (before between after : Driver) → InterruptsIn ids before between
    → id < length (driver_devices between) → PutsDevice id (after_interrupt (device_of between id)) between after
    → InterruptsIn (ids ++ id ∷ []) before after
one-more [] id before between after same lt puts = (
  after,
  subst (λ (d : Driver). id < length (driver_devices d)) same lt,
  subst (λ (d : Driver). PutsDevice id (after_interrupt (device_of d id)) d after) same puts,
  refl,
)
one-more (first ∷ ids) id before between after (next, in-range, one, more) lt puts =
    (next, in-range, one, one-more ids id next between after more lt puts)

still-free : (id : ℕ) (to : DriverDevice) (before after : Driver) → PutsDevice id to before after
    → AwaitsNothing before → AwaitsNothing after
still-free id to before after puts free = (
  elim puts.said [ inl same ↦ same ∙ free.0 | inr none ↦ none ],
  ap (λ (r : PollingRun). r.asked) puts.same.run ∙ free.1,
)

-- the lowest bit was cleared
record Cleared (left left' id : ℕ) : Type 0 where
  on : bit_at left id ≡ 1
  off : bit_at left' id ≡ 0
  others : (k : ℕ) → k < 64 → k ≢ id → bit_at left' k ≡ bit_at left k
  below : (k : ℕ) → k < id → bit_at left k ≡ 0
  small : id < 64

clear-low : (turns left left' id : ℕ) → Cleared left left' id → ((k : ℕ) → k < turns → bit_at left k ≡ 0) → turns < 64
    → (k : ℕ) → k < turns + 1 → bit_at left' k ≡ 0
clear-low turns left left' id c low fits k lt = elim (cases_eq k id) [
  | inl e ↦ rw e c.off
  | inr ne ↦
      let was : bit_at left k ≡ 0 = elim (cases_lt k turns) [
        | inl less ↦ low k less
        | inr more ↦ elim (cases_lt k id) [
          | inl less ↦ c.below k less
          | inr past ↦
              let under : id < turns = omega (arith, lt, more, past, ne) in
              let both : 1 ≡ 0 = sym c.on ∙ low id under in
              absurd (omega (arith, both))
        ]
      ] in
      c.others k (omega (arith, lt, fits)) ne ∙ was
]

reported-known : (turns bits left left' id : ℕ) (before between after : Driver) → Reported turns bits left before between
    → turns < 64 → Cleared left left' id → id < length (driver_devices between)
    → PutsDevice id (after_interrupt (device_of between id)) between after → Reported (turns + 1) bits left' before after
reported-known turns bits left left' id before between after r fits c lt puts = record {
  ids = r.ids ++ id ∷ [];
  each = λ k within. elim (cases_eq k id) [
    | inl e ↦
        let off' : bit_at left' k ≡ 0 = rw e c.off in
        let on' : bit_at left k ≡ 1 = rw e c.on in
        omega (arith, r.each k within, occurs-append k r.ids (id ∷ []), occurs-itself k id e, on', off')
    | inr ne ↦
        omega (arith, r.each k within, occurs-append k r.ids (id ∷ []), occurs-other k id ne, c.others k (omega (arith, within, r.few)) ne)
  ];
  reports = one-more r.ids id before between after r.reports lt puts;
  len = ap (λ (xs : List DriverDevice). length xs) puts.devices
      ∙ length-set (driver_devices between) id (after_interrupt (device_of between id)) ∙ r.len;
  few = r.few;
  free = λ free. still-free id (after_interrupt (device_of between id)) between after puts (r.free free);
  low = clear-low turns left left' id c r.low fits;
}

reported-unknown : (turns bits left left' id : ℕ) (before between : Driver) → Reported turns bits left before between
    → turns < 64 → Cleared left left' id → length (driver_devices between) ≤ id → Reported (turns + 1) bits left' before between
reported-unknown turns bits left left' id before between r fits c past = record {
  ids = r.ids;
  each = λ k within.
      let ne : k ≢ id = λ e. omega (arith, e, within, past, r.len) in
      omega (arith, r.each k within, c.others k (omega (arith, within, r.few)) ne);
  reports = r.reports;
  len = r.len;
  few = r.few;
  free = r.free;
  low = clear-low turns left left' id c r.low fits;
}

-- the lowest bit is cleared, and the interrupt of its device is reported, if there is one
pub one_reported : (turns bits left left' id : ℕ) (before between after : Driver) → Reported turns bits left before between → turns < 64
    → id < 64 → bit_at left id ≡ 1 → ((k : ℕ) → k < id → bit_at left k ≡ 0) → bit_at left' id ≡ 0
    → ((k : ℕ) → k < 64 → k ≢ id → bit_at left' k ≡ bit_at left k)
    → (id < length (driver_devices between) → PutsDevice id (after_interrupt (device_of between id)) between after)
    → (length (driver_devices between) ≤ id → after ≡ between) → Reported (turns + 1) bits left' before after
one_reported turns bits left left' id before between after r fits small on below off others known unknown =
    let c : Cleared left left' id = record { on = on; off = off; others = others; below = below; small = small } in
    elim (cases_lt id (length (driver_devices between))) [
      | inl lt ↦ reported-known turns bits left left' id before between after r fits c lt (known lt)
      | inr past ↦
          subst (λ (d : Driver). Reported (turns + 1) bits left' before d) (sym (unknown past))
          (reported-unknown turns bits left left' id before between r fits c past)
    ]

-- no bit is left
pub all_reported : (turns bits left : ℕ) (before after : Driver) → Reported turns bits left before after → left ≡ 0
    → ReportsInterrupts bits before after
all_reported turns bits left before after r none = record {
  ids = r.ids;
  each = λ id within.
      let off : bit_at left id ≡ 0 = rw none (bit_at-zero id) in
      omega (arith, r.each id within, off);
  reports = r.reports;
}

-- after 64 turns no bit is left
pub all_turns : (bits left : ℕ) (before after : Driver) → Reported 64 bits left before after → ReportsInterrupts bits before after
all_turns bits left before after r = record {
  ids = r.ids;
  each = λ id within.
      let off : bit_at left id ≡ 0 = r.low id (omega (arith, within, r.few)) in
      omega (arith, r.each id within, off);
  reports = r.reports;
}

-- without a bit nothing is reported
pub none_reported : (bits : ℕ) (driver : Driver) → bits ≡ 0 → ReportsInterrupts bits driver driver
none_reported bits driver none = record {
  ids = [];
  each = λ id within.
      let off : bit_at bits id ≡ 0 = rw none (bit_at-zero id) in
      let here : occurs id [] ≡ 0 = refl in
      omega (arith, off, here);
  reports = refl;
}
