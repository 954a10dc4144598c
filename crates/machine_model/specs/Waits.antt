-- The waits of packets, and how they are counted.
use Rattle.std.specs.Prelude.{ℕ, ◌+◌, ◌-◌, ◌*◌, ◌/◌, ◌^◌, ◌==◌, nat_le, min, max, List, [], ◌∷◌, ◌++◌, length, replicate, slice_index_or}
use Rattle.std.specs.{Prelude.{slice_set, if◌then◌else◌}, Int.{leading_zeros, w64}}
use Rattle.machine_model.specs.declared.waits.WaitCounts.{WaitCounts}

-- a time or a sum, limited to the largest 64-bit number
abbrev pub saturated : ℕ → ℕ
saturated sum = min sum (2 ^ 64 - 1)

pub record WaitsView : Type 0 where
  -- the number of waits; the next fields are their sum, and the longest wait
  pub count : ℕ
  pub sum : ℕ
  pub most : ℕ
  -- the number of waits in each bucket, up to the bucket of the longest wait
  pub buckets : List ℕ

unfoldable pub no_waits : WaitsView
no_waits = record { count = 0; sum = 0; most = 0; buckets = [] }

-- The bucket of a wait depends on its first ten significant bits. The first 1024 buckets have one wait each; each further group
-- of 512 buckets has waits with one bit more.
abbrev pub bucket_of : ℕ → ℕ
bucket_of wait = let rest = 54 - leading_zeros w64 wait in 512 * rest + wait / 2 ^ rest

-- the least wait of a bucket
abbrev pub least_of : ℕ → ℕ
least_of bucket = let rest = bucket / 512 - 1 in (bucket - 512 * rest) * 2 ^ rest

-- the buckets, extended by empty ones up to this one
abbrev pub up_to : ℕ → List ℕ → List ℕ
up_to bucket buckets = buckets ++ replicate (bucket + 1 - length buckets) 0

-- the buckets, with one more wait in this one
abbrev pub bucket_one_more : ℕ → List ℕ → List ℕ
bucket_one_more bucket buckets = slice_set buckets bucket (saturated (slice_index_or buckets bucket 0 + 1))

unfoldable pub counted : ℕ → WaitsView → WaitsView
counted wait w = record {
  count = saturated (w.count + 1);
  sum = min (w.sum + wait) (2 ^ 128 - 1);
  most = max w.most wait;
  buckets = bucket_one_more (bucket_of wait) (up_to (bucket_of wait) w.buckets);
}

-- the first bucket such that it and the buckets before it have at least this many waits
unfoldable pub first_with : ℕ → ℕ → List ℕ → ℕ
first_with rank bucket [] = 0
first_with rank bucket (count ∷ more) = if nat_le rank count then bucket else first_with (rank - count) (bucket + 1) more

-- a percentile: the least wait of the first bucket such that it and those below it have at least this many of 1000 waits
abbrev pub wait_at : ℕ → WaitsView → ℕ
wait_at share w = if w.count == 0 then 0 else least_of (first_with ((share * w.count + 999) / 1000) 0 w.buckets)

-- what the report shows of these waits
abbrev pub summary_of : WaitsView → WaitCounts
summary_of w =
    let mean = if w.count == 0 then 0 else saturated (w.sum / w.count) in
    let wait = λ (share : ℕ). wait_at share w in
    record { count = w.count; mean = mean; wait50 = wait 500; wait90 = wait 900; wait99 = wait 990; wait999 = wait 999; most = w.most }
