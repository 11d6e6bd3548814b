-- How many of a list of times are in each bucket: a time is in the bucket of the least bound that isn't below it.
use Rattle.std.specs.Prelude.{◌≡◌, ℕ, ◌+◌, ◌==◌, List, [], ◌∷◌, count_by, get_or, nat_lt, if◌then◌else◌}
use Rattle.fp_counters.specs.Counted.{capped}
use Rattle.fp_counters.specs.declared.histogram.Histogram.{Histogram}

-- the bounds, in microseconds
abbrev pub bounds : List ℕ
bounds = 50 ∷ 100 ∷ 200 ∷ 500 ∷ 1000 ∷ 2000 ∷ 5000 ∷ 10000 ∷ 20000 ∷ 50000 ∷ 100000 ∷ 200000 ∷ 500000 ∷ 1000000 ∷ 2000000 ∷ 5000000 ∷ 10000000 ∷ []

-- the number of bounds below a time
abbrev pub bucket_of : ℕ → ℕ
bucket_of time = count_by (λ bound. nat_lt bound time) bounds

-- how many times are in a bucket
abbrev pub times_in : ℕ → List ℕ → ℕ
times_in bucket [] = 0
times_in bucket (time ∷ times) = times_in bucket times + (if bucket == bucket_of time then 1 else 0)

abbrev pub sum_of : List ℕ → ℕ
sum_of [] = 0
sum_of (time ∷ times) = sum_of times + time

abbrev pub number_in : Histogram → ℕ → ℕ
number_in histogram bucket = get_or histogram.numbers bucket 0

abbrev pub sum_in : Histogram → ℕ
sum_in histogram = histogram.sum

-- the histogram has these times
pub record Observed (histogram : Histogram) (times : List ℕ) : Type 0 where
  pub numbers : (bucket : ℕ) → number_in histogram bucket ≡ capped (times_in bucket times)
  pub total : sum_in histogram ≡ capped (sum_of times)
