-- How many devices wait on the poll list: each call changes this number as it changes the list.
use Rattle.std.proofs.Common.{◌≡◌, ℕ, suc, ◌+◌, ◌<◌, ◌≤◌, Bool, true, false, Option, Some, None, [], ◌∷◌, length, get_or, slice_set, map}
use Rattle.std.{proofs.{Common.{ap, refl, arith}, lemmas.List.Sums.{sum_by-cons, sum_by-set}}, specs.Prelude.{sum_by, if◌then◌else◌}}
use Rattle.{napi_model.specs.{Step.is_handed, declared.state.Kind.Kind}, device_bench.specs.Bench.{BenchDevices, all_settled, settled_at}}
use Rattle.device_bench.specs.{Device.new_device, DeviceView.DeviceView, Kept.{IsKept, is_sound_at}, Waiting.{waiting, waits_on_list}}
use Rattle.device_bench.proofs.DeviceFacts.{settle-keeps}
use Rattle.device_places.specs.Places.{at, empty}
use Rattle.device_places.proofs.PlaceFacts.{below-some}

pub waiting-empty : waiting empty ≡ 0
unfolding waiting
waiting-empty = refl

-- an entry of the table counts at most once
waits-one : (o : Option DeviceView) → waits_on_list o ≤ 1
waits-one None = omega arith
waits-one (Some d) = by (is_handed Kind.List d.side.napi.place)
  where
    by : (b : Bool) → if◌then◌else◌ {A = ℕ} b 1 0 ≤ 1
    by true = omega arith
    by false = omega arith

one-each : (xs : BenchDevices) → sum_by waits_on_list xs ≤ length xs
one-each [] = omega arith
one-each (o ∷ xs) = omega (arith, sum_by-cons waits_on_list o xs, waits-one o, one-each xs)

pub waiting-most : (xs : BenchDevices) → length xs ≡ 17 → waiting xs ≤ 17
unfolding waiting
waiting-most xs places = omega (arith, one-each xs, places)

set-one : (xs : BenchDevices) (n : ℕ) (d e : DeviceView) → at n xs ≡ Some d
    → waiting (slice_set xs n (Some e)) + waits_on_list (Some d) ≡ waiting xs + waits_on_list (Some e)
unfolding waiting
set-one xs n d e here =
    let sums = sum_by-set waits_on_list xs n (Some e) None (below-some xs n d here) in
    let was : waits_on_list (get_or xs n None) ≡ waits_on_list (Some d) = ap waits_on_list here in
    omega (arith, sums, was)

-- if one entry is replaced, the number of waiting devices changes by as much as that entry
pub waiting-more : (xs : BenchDevices) (n more : ℕ) (d e : DeviceView) → at n xs ≡ Some d
    → waits_on_list (Some d) + more ≡ waits_on_list (Some e)
    → waiting xs + more ≤ waiting (slice_set xs n (Some e))
waiting-more xs n more d e here listed = omega (arith, set-one xs n d e here, listed)

pub waiting-same : (xs : BenchDevices) (n : ℕ) (d e : DeviceView) → at n xs ≡ Some d → waits_on_list (Some e) ≡ waits_on_list (Some d)
    → waiting (slice_set xs n (Some e)) ≡ waiting xs
waiting-same xs n d e here listed = omega (arith, set-one xs n d e here, listed)

pub waiting-less : (xs : BenchDevices) (n less : ℕ) (d e : DeviceView) → at n xs ≡ Some d
    → waits_on_list (Some d) ≤ waits_on_list (Some e) + less
    → waiting xs ≤ waiting (slice_set xs n (Some e)) + less
waiting-less xs n less d e here listed = omega (arith, set-one xs n d e here, listed)

pub waiting-added : (xs : BenchDevices) (n capacity : ℕ) → n < length xs → at n xs ≡ None
    → waiting (slice_set xs n (Some (new_device capacity))) ≡ waiting xs
unfolding waiting
waiting-added xs n capacity below here =
    let sums = sum_by-set waits_on_list xs n (Some (new_device capacity)) None below in
    let was : waits_on_list (get_or xs n None) ≡ 0 = ap waits_on_list here in
    omega (arith, sums, was)

settle-one : (o : Option DeviceView) → is_sound_at o ≡ true → waits_on_list (settled_at o) ≡ waits_on_list o
settle-one None sound = refl
settle-one (Some d) sound = (settle-keeps d sound).listed

settle-each : (xs : BenchDevices) → ((n : ℕ) → is_sound_at (at n xs) ≡ true)
    → sum_by waits_on_list (map settled_at xs) ≡ sum_by waits_on_list xs
settle-each [] sound = refl
settle-each (o ∷ xs) sound =
    omega (
      arith,
      sum_by-cons waits_on_list (settled_at o) (map settled_at xs),
      sum_by-cons waits_on_list o xs,
      settle-one o (sound 0),
      settle-each xs
          (λ n. sound (suc n)),
    )

pub waiting-settled : (u : Bool) (xs : BenchDevices) → IsKept u xs → waiting (all_settled xs) ≡ waiting xs
unfolding waiting
waiting-settled u xs k = settle-each xs k.sound
