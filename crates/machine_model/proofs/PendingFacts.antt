-- The cached values of a processor's queues, after one queue changed.
use Rattle.std.proofs.{Common.{◌≡◌, ◌∙◌, ◌⊎◌, inl, inr, ℕ, zero, suc, ◌+◌, ◌^◌, ◌<◌, ◌≤◌, Bool, true, false, Option, Some, None, List, []}}
use Rattle.std.proofs.{Common.{◌∷◌, ◌++◌, length, replicate, slice_index_or, slice_set, refl, sym, ap, subst, arith, w64}}
use Rattle.std.proofs.lemmas.{Bool.cases_eq, Grind.{common_steps, get_or-set_at}, List.{get_or-set_other, length-set}}
use Rattle.std.{proofs.lemmas.{List.Sums.position_or_len_is, Nat.Bits.{bit_at-trailing_zeros, bit_at-zero}}, specs.Int.bit_at}
use Rattle.std.specs.{Int.trailing_zeros, List.position_or_len, Option.option_map_or, Prelude.{◌==◌, drop, position, slice_get}}
use Rattle.device_places.{proofs.PlaceFacts.at-index, specs.Places.{at, changed, changed_from}}
use Rattle.machine_model.{proofs.WeightFacts.{named, soonest-is}, specs.Device.{QueueView, after_packet, asks, holding, is_masked}}
use Rattle.machine_model.specs.{Device.{new_queue, next_packet, timer_of, without_held, without_next}, Devices.{QueueViews, asks_at}}
use Rattle.machine_model.specs.Devices.{next_held_at}
use Rattle.machine_model.specs.{Devices.{next_packet_at, soonest_from, sooner, timer_at}, Shown.{IsMask, IsPending, earlier, mask_bit}}
use Rattle.machine_model.specs.{Shown.has_timer, declared.devices.{Pending.Pending, Timer.Timer}}
use Rattle.machine_model.specs.declared.settings.MachineSettings.{MachineSettings}

-- ---- the entry that changed

set-same : (xs : QueueViews) (n : ℕ) → slice_set xs n (at n xs) ≡ xs
set-same xs n = grind (arith, common_steps)

changed-length : (change : QueueView → QueueView) (n : ℕ) (xs : QueueViews) → length (changed change n xs) ≡ length xs
changed-length change n xs = grind (arith, common_steps)

changed-set : (change : QueueView → QueueView) (n : ℕ) (xs : QueueViews)
    → changed change n xs ≡ slice_set xs n (at n (changed change n xs))
changed-set change n xs = grind (arith, common_steps, set-same)

placed : (change : QueueView → QueueView) (n : ℕ) (before after : QueueViews) → after ≡ changed change n before
    → after ≡ slice_set before n (at n after)
placed change n before after is = rw is (changed-set change n before)

long : (change : QueueView → QueueView) (n : ℕ) (before after : QueueViews) → after ≡ changed change n before → n < length after
    → n < length before
long change n before after is below = omega (arith, ap (λ (xs : QueueViews). length xs) is, changed-length change n before, below)

at-same : (xs : QueueViews) (n : ℕ) (y : Option QueueView) → n < length xs → at n (slice_set xs n y) ≡ y
at-same xs n y below = get_or-set_at xs n n y None refl below

at-other : (xs : QueueViews) (n m : ℕ) (y : Option QueueView) → (m ≡ n → ⊥) → at m (slice_set xs n y) ≡ at m xs
at-other xs n m y other = get_or-set_other xs n m y None other

-- ---- bit masks

mask_bit-on : (b : Bool) → mask_bit b ≡ 1 → b ≡ true
mask_bit-on true e = refl
mask_bit-on false e = cc e

mask_bit-off : (b : Bool) → mask_bit b ≡ 0 → b ≡ false
mask_bit-off true e = cc e
mask_bit-off false e = refl

module _ (holds : Option QueueView → Bool) where
  pub mask-set : (xs : QueueViews) (n : ℕ) (y : Option QueueView) (old new : ℕ) → n < length xs → bit_at new n ≡ mask_bit (holds y)
      → ((m : ℕ) → m < 64 → (m ≡ n → ⊥) → bit_at new m ≡ bit_at old m)
      → IsMask holds xs old
      → IsMask holds (slice_set xs n y) new
  mask-set xs n y old new below own others mask m small = by (cases_eq m n)
    where
      by : (m ≡ n) ⊎ (m ≡ n → ⊥) → bit_at new m ≡ mask_bit (holds (at m (slice_set xs n y)))
      by (inl same) = rw (same, at-same xs n y below) own
      by (inr other) = rw (at-other xs n m y other) (others m small other ∙ mask m small)

  pub mask-same : (xs : QueueViews) (n : ℕ) (y : Option QueueView) (old : ℕ) → n < length xs → length xs ≤ 64 → holds y ≡ holds (at n xs)
      → IsMask holds xs old
      → IsMask holds (slice_set xs n y) old
  mask-same xs n y old below few same mask =
      mask-set xs n y old old below (mask n (omega (arith, below, few)) ∙ ap mask_bit (sym same)) (λ m small other. refl) mask

  pub mask-changed : (change : QueueView → QueueView) (n : ℕ) (before after : QueueViews) (old new : ℕ) → n < length after
      → after ≡ changed change n before
      → bit_at new n ≡ mask_bit (holds (at n after))
      → ((m : ℕ) → m < 64 → (m ≡ n → ⊥) → bit_at new m ≡ bit_at old m)
      → IsMask holds before old
      → IsMask holds after new
  mask-changed change n before after old new below is own others mask =
      rw (placed change n before after is) (mask-set before n (at n after) old new (long change n before after is below) own others mask)

  within : (xs : QueueViews) (i : ℕ) → holds None ≡ false → holds (at i xs) ≡ true → i < length xs
  within [] i none up = absurd (cc (none, up))
  within (x ∷ xs) zero none up = omega arith
  within (x ∷ xs) (suc i) none up = omega (arith, within xs i none up)

  pub held-at : (xs : QueueViews) (mask n : ℕ) → IsMask holds xs mask → n < 64 → bit_at mask n ≡ 1 → holds (at n xs) ≡ true
  held-at xs mask n is small set = mask_bit-on (holds (at n xs)) (sym (is n small) ∙ set)

  pub clear-at : (xs : QueueViews) (mask n : ℕ) → IsMask holds xs mask → n < 64 → bit_at mask n ≡ 0 → holds (at n xs) ≡ false
  clear-at xs mask n is small clear = mask_bit-off (holds (at n xs)) (sym (is n small) ∙ clear)

  pub inside : (xs : QueueViews) (mask n : ℕ) → holds None ≡ false → IsMask holds xs mask → n < 64 → bit_at mask n ≡ 1 → n < length xs
  inside xs mask n none is small set = within xs n none (held-at xs mask n is small set)

-- ---- the lowest queue that asks for an interrupt

position-at : (xs : QueueViews) (i : ℕ) → position_or_len asks_at xs ≡ i → i < length xs → position asks_at xs ≡ Some i
position-at xs i at below = grind (arith, common_steps)

position-none : (xs : QueueViews) → position_or_len asks_at xs ≡ length xs → position asks_at xs ≡ None
position-none xs all = grind (arith, common_steps)

pub lowest-none : (xs : QueueViews) (mask : ℕ) → mask ≡ 0 → length xs ≤ 64 → IsMask asks_at xs mask → position asks_at xs ≡ None
lowest-none xs mask none few is =
    position-none xs (position_or_len_is asks_at xs (length xs) None (omega arith)
    (λ k below. clear-at asks_at xs mask k is (omega (arith, below, few)) (rw none (bit_at-zero k))) (λ past. absurd (omega (arith, past))))

pub lowest-some : (xs : QueueViews) (mask : ℕ) → 0 < mask → mask < 2 ^ 64 → IsMask asks_at xs mask
    → position asks_at xs ≡ Some (trailing_zeros w64 mask)
lowest-some xs mask some fits is =
    let low = bit_at-trailing_zeros w64 mask some fits in
    let first = trailing_zeros w64 mask in
    let below = inside asks_at xs mask first refl is low.0 low.1 in
    position-at xs first (position_or_len_is asks_at xs first None (omega (arith, below))
    (λ k less. clear-at asks_at xs mask k is (omega (arith, less, low.0)) (low.2 k less))
    (λ _. held-at asks_at xs mask first is low.0 low.1))
    below

-- ---- the timer that expires first

front-some : (a b : Timer) → a.device < b.device → sooner (Some a) (Some b) ≡ earlier (Some b) (Some a)
front-some a b lower = grind (arith, common_steps)

front : (k : ℕ) (t s : Option Timer) → ((a : Timer) → t ≡ Some a → a.device ≡ k) → ((b : Timer) → s ≡ Some b → k + 1 ≤ b.device)
    → sooner t s ≡ earlier s t
front k t s h1 h2 = grind (arith, common_steps, front-some)

behind-some : (t r o : Timer) → t.device < o.device
    → sooner (Some t) (earlier (Some r) (Some o)) ≡ earlier (sooner (Some t) (Some r)) (Some o)
behind-some t r o lower = grind (arith, common_steps)

swap : (t o : Timer) → t.device < o.device → earlier (Some o) (Some t) ≡ earlier (Some t) (Some o)
swap t o lower = grind (arith, common_steps)

earlier-none : (s : Option Timer) → s ≡ earlier s None
earlier-none None = refl
earlier-none (Some s) = refl

behind : (k : ℕ) (t r o : Option Timer) → ((a : Timer) → t ≡ Some a → a.device ≡ k) → ((b : Timer) → o ≡ Some b → k + 1 ≤ b.device)
    → sooner t (earlier r o) ≡ earlier (sooner t r) o
behind k t r o h1 h2 = grind (arith, common_steps, behind-some, earlier-none, front-some)

soonest-from : (k : ℕ) (xs : QueueViews) (n : ℕ) (y : Option QueueView) → n < length xs
    → soonest_from k (slice_set xs n y) ≡ earlier (soonest_from k (slice_set xs n None)) (timer_at (k + n) y)
unfolding soonest_from
soonest-from k [] n y below = absurd (omega (arith, below))
soonest-from k (x ∷ xs) zero y below =
    let first : k ≡ k + 0 = omega arith in
    front k (timer_at k y) (soonest_from (k + 1) xs) (λ a is. named k y a is) (λ b is. (soonest-is (k + 1) xs b is).0)
    ∙ ap (λ (m : ℕ). earlier (soonest_from (k + 1) xs) (timer_at m y)) first
soonest-from k (x ∷ xs) (suc n) y below =
    let same : k + 1 + n ≡ k + suc n = omega arith in
    ap (λ (s : Option Timer). sooner (timer_at k x) s) (soonest-from (k + 1) xs n y (omega (arith, below)))
    ∙ (behind k (timer_at k x) (soonest_from (k + 1) (slice_set xs n None)) (timer_at (k + 1 + n) y) (λ a is. named k x a is)
    (λ b is. omega (arith, named (k + 1 + n) y b is))
    ∙ ap (λ (m : ℕ). earlier (sooner (timer_at k x) (soonest_from (k + 1) (slice_set xs n None))) (timer_at m y)) same)

-- the first of all timers is the first of the others, or that of this queue
soonest-set : (xs : QueueViews) (n : ℕ) (y : Option QueueView) → n < length xs
    → soonest_from 0 (slice_set xs n y) ≡ earlier (soonest_from 0 (slice_set xs n None)) (timer_at n y)
soonest-set xs n y h1 = grind (arith, common_steps, soonest-from)

abbrev pub is_of : Option Timer → ℕ → Bool
is_of timer n = option_map_or (λ t. t.device == n) timer false

-- before, a queue's timer was `was`, and now it is `own`: the first of all timers now, if the first one before wasn't that of
-- the queue
renewed : (n : ℕ) (old rest was own : Option Timer) → old ≡ earlier rest was → ((a : Timer) → was ≡ Some a → a.device ≡ n)
    → is_of old n ≡ false
    → earlier rest own ≡ earlier old own
renewed n old rest was own h1 h2 h3 = grind (arith, common_steps)

-- if the queue's timer was the first of all timers and still is, the first timer stays the same
stays-by : (rest was : Option Timer) → earlier rest (earlier rest was) ≡ earlier rest was
stays-by rest was = grind (arith, common_steps)

soonest-before : (xs : QueueViews) (n : ℕ) → n < length xs
    → soonest_from 0 xs ≡ earlier (soonest_from 0 (slice_set xs n None)) (timer_at n (at n xs))
soonest-before xs n below = ap (λ (ys : QueueViews). soonest_from 0 ys) (sym (set-same xs n)) ∙ soonest-set xs n (at n xs) below

pub soonest-other : (change : QueueView → QueueView) (n : ℕ) (before after : QueueViews) (old own : Option Timer) → n < length after
    → own ≡ timer_at n (at n after)
    → is_of old n ≡ false
    → after ≡ changed change n before
    → old ≡ soonest_from 0 before
    → earlier old own ≡ soonest_from 0 after
soonest-other change n before after old own below timer other is was =
    let inside = long change n before after is below in
    let rest = soonest_from 0 (slice_set before n None) in
    let one = timer_at n (at n before) in
    let same = renewed n old rest one own (was ∙ soonest-before before n inside) (λ a some. named n (at n before) a some) other in
    let now : soonest_from 0 after ≡ earlier rest (timer_at n (at n after)) =
    ap (λ (xs : QueueViews). soonest_from 0 xs) (placed change n before after is) ∙ soonest-set before n (at n after) inside in
    sym (now ∙ (ap (λ (t : Option Timer). earlier rest t) (sym timer) ∙ same))

pub soonest-stays : (change : QueueView → QueueView) (n : ℕ) (before after : QueueViews) (old own : Option Timer) → n < length after
    → own ≡ timer_at n (at n after)
    → own ≡ old
    → after ≡ changed change n before
    → old ≡ soonest_from 0 before
    → old ≡ soonest_from 0 after
soonest-stays change n before after old own below timer stays is was =
    let inside = long change n before after is below in
    let rest = soonest_from 0 (slice_set before n None) in
    let one = timer_at n (at n before) in
    let came : old ≡ earlier rest one = was ∙ soonest-before before n inside in
    let now : soonest_from 0 after ≡ earlier rest (timer_at n (at n after)) =
    ap (λ (xs : QueueViews). soonest_from 0 xs) (placed change n before after is) ∙ soonest-set before n (at n after) inside in
    let same : earlier rest old ≡ old = ap (λ (t : Option Timer). earlier rest t) came ∙ (stays-by rest one ∙ sym came) in
    sym (now ∙ (ap (λ (t : Option Timer). earlier rest t) (sym timer ∙ stays) ∙ same))

-- ---- changes after which the cached values stay the same

-- the entry asks for an interrupt exactly as before, and its timer is the same
pending-same : (xs : QueueViews) (n : ℕ) (y : Option QueueView) (p : Pending) → n < length xs → length xs ≤ 64
    → asks_at y ≡ asks_at (at n xs)
    → has_timer y ≡ has_timer (at n xs)
    → timer_at n y ≡ timer_at n (at n xs)
    → IsPending xs p
    → IsPending (slice_set xs n y) p
pending-same xs n y p below few asks timed timer was = record {
  asking = mask-same asks_at xs n y p.asking below few asks was.asking;
  timed = mask-same has_timer xs n y p.timed below few timed was.timed;
  soonest =
      was.soonest ∙ sym (soonest-set xs n y below
      ∙ (ap (λ (t : Option Timer). earlier (soonest_from 0 (slice_set xs n None)) t) timer ∙ sym (soonest-before xs n below)));
}

-- the value that was read from the entry is the queue there
there : (xs : QueueViews) (n : ℕ) (x : Option QueueView) (d : QueueView) → n < length xs → x ≡ slice_index_or xs n x → x ≡ Some d
    → at n xs ≡ Some d
there xs n x d below found some = at-index xs n x below (sym found) ∙ some

-- what has to be shown for all queues, after the one in this entry changed
pub changed-kept : (f : QueueView → QueueView) (xs : QueueViews) (n : ℕ) (x : Option QueueView) (d e : QueueView)
    → n < length xs
    → x ≡ slice_index_or xs n x
    → x ≡ Some d
    → e ≡ f d
    → (old new : Pending) (now : QueueViews)
    → ((change : QueueView → QueueView) (before : QueueViews) → now ≡ changed change n before → IsPending before old → IsPending now new)
    → now ≡ slice_set xs n (Some e)
    → (length xs ≤ 64) × IsPending xs old
    → (length (slice_set xs n (Some e)) ≤ 64) × IsPending (slice_set xs n (Some e)) new
changed-kept f xs n x d e below found some is old new now after now_is kept =
    let here = there xs n x d below found some in
    let change : slice_set xs n (Some e) ≡ changed f n xs =
    ap (λ (v : QueueView). slice_set xs n (Some v)) is ∙ sym (ap (λ (o : Option QueueView). changed_from f n o xs) here) in (
      omega (arith, length-set xs n (Some e), kept.0),
      subst (λ (ys : QueueViews). IsPending ys new) now_is
          (after f xs (now_is ∙ change) kept.1),
    )

-- what has to be shown for all queues is the same if the changed queue asks for an interrupt exactly as before, with the same timer
pub asks-kept : (xs : QueueViews) (n : ℕ) (x : Option QueueView) (d e : QueueView) (old : Pending)
    → n < length xs
    → x ≡ slice_index_or xs n x
    → x ≡ Some d
    → asks e.phase ≡ asks d.phase
    → timer_of e.phase ≡ timer_of d.phase
    → (length xs ≤ 64) × IsPending xs old
    → (length (slice_set xs n (Some e)) ≤ 64) × IsPending (slice_set xs n (Some e)) old
asks-kept xs n x d e old below found some same timer kept =
    let here = there xs n x d below found some in (
      omega (arith, length-set xs n (Some e), kept.0),
      pending-same xs n (Some e) old below kept.0 (rw (here, same) refl) (rw (here, timer) refl) (rw (here, timer) refl) kept.1,
    )

pub phase-kept : (xs : QueueViews) (n : ℕ) (x : Option QueueView) (d e : QueueView) (old : Pending)
    → n < length xs
    → x ≡ slice_index_or xs n x
    → x ≡ Some d
    → e.phase ≡ d.phase
    → (length xs ≤ 64) × IsPending xs old
    → (length (slice_set xs n (Some e)) ≤ 64) × IsPending (slice_set xs n (Some e)) old
phase-kept xs n x d e old below found some same kept =
    asks-kept xs n x d e old below found some (ap asks same) (ap timer_of same) kept

pub phase-holding : (d : QueueView) → (holding d).phase ≡ d.phase
phase-holding d = grind (arith, common_steps)

pub phase-next : (backlog : Bool) (d : QueueView) → (without_next backlog d).phase ≡ d.phase
phase-next backlog d = grind (arith, common_steps)

-- without polling, a queue that has no packet stays as it is when its next one is taken
front-none : (xs : List ℕ) → slice_get xs 0 ≡ None → drop 1 xs ≡ xs
front-none [] none = refl
front-none (x ∷ xs) none = cc none

taken-one : (d : QueueView) → next_packet false d ≡ None → without_next false d ≡ d
taken-one d none = ap (λ (ring : List ℕ). record d { ring = ring }) (front-none d.ring none)

pub taken-none : (n : ℕ) (xs : QueueViews) → next_packet_at false (at n xs) ≡ None → changed (without_next false) n xs ≡ xs
taken-none n xs h1 = grind (arith, common_steps, set-same, taken-one)

-- a queue of which GRO holds no packet stays as it is when its next one is handed over
pub held-none : (n : ℕ) (xs : QueueViews) → next_held_at (at n xs) ≡ None → changed without_held n xs ≡ xs
held-none n xs h1 = grind (arith, common_steps, front-none, set-same)

pub phase-masked : (moment : ℕ) (s : MachineSettings) (d : QueueView) → is_masked d.phase ≡ true → (after_packet moment s d).phase ≡ d.phase
unfolding after_packet
phase-masked moment s d masked = grind (arith, common_steps)

-- a new queue doesn't ask for an interrupt and has no timer
pub opened-kept : (xs : QueueViews) (n capacity : ℕ) (e : QueueView) (old : Pending)
    → n < length xs
    → at n xs ≡ None
    → e ≡ new_queue capacity
    → length xs ≤ 64
    → IsPending xs old
    → (length (slice_set xs n (Some e)) ≤ 64) × IsPending (slice_set xs n (Some e)) old
opened-kept xs n capacity e old below none is few kept = (
  omega (arith, length-set xs n (Some e), few),
  pending-same xs n (Some e) old below few (rw (none, is) refl) (rw (none, is) refl) (rw (none, is) refl) kept,
)

-- empty entries are added
no-timer : (k count : ℕ) → soonest_from k (replicate count None) ≡ None
unfolding soonest_from
no-timer k zero = refl
no-timer k (suc count) = no-timer (k + 1) count

soonest-more : (k : ℕ) (xs : QueueViews) (count : ℕ) → soonest_from k (xs ++ replicate count None) ≡ soonest_from k xs
unfolding soonest_from
soonest-more k [] count = no-timer k count
soonest-more k (x ∷ xs) count = ap (λ (s : Option Timer). sooner (timer_at k x) s) (soonest-more (k + 1) xs count)

at-none : (count m : ℕ) → let xs : QueueViews = replicate count None in at m xs ≡ None
at-none count m = grind (arith, common_steps)

at-more : (xs : QueueViews) (count m : ℕ) → at m (xs ++ replicate count None) ≡ at m xs
at-more xs count m = grind (arith, common_steps, at-none)

pub pending-more : (xs : QueueViews) (count : ℕ) (p : Pending) → IsPending xs p → IsPending (xs ++ replicate count None) p
pending-more xs count p h1 = grind (arith, common_steps, at-more, soonest-more)

pub pending-none : (p : Pending) → p.asking ≡ 0 → p.timed ≡ 0 → p.soonest ≡ None → IsPending [] p
unfolding soonest_from
pending-none p asking timed soonest = record {
  asking = λ n small. rw asking (bit_at-zero n);
  timed = λ n small. rw timed (bit_at-zero n);
  soonest = soonest;
}

-- the cached values after this change of one queue
pub pending-changed : (change : QueueView → QueueView) (n : ℕ) (before after : QueueViews) (old new : Pending) → n < length after
    → after ≡ changed change n before
    → (bit_at new.asking n ≡ mask_bit (asks_at (at n after))) × ((m : ℕ) → m < 64 → (m ≡ n → ⊥) → bit_at new.asking m ≡ bit_at old.asking m)
    → (bit_at new.timed n ≡ mask_bit (has_timer (at n after))) × ((m : ℕ) → m < 64 → (m ≡ n → ⊥) → bit_at new.timed m ≡ bit_at old.timed m)
    → (IsMask has_timer after new.timed → new.soonest ≡ soonest_from 0 after)
    → IsPending before old
    → IsPending after new
pending-changed change n before after old new below is asking timed soonest was =
    let mask = mask-changed has_timer change n before after old.timed new.timed below is timed.0 timed.1 was.timed in
    record {
      asking = mask-changed asks_at change n before after old.asking new.asking below is asking.0 asking.1 was.asking;
      timed = mask;
      soonest = soonest mask;
    }
