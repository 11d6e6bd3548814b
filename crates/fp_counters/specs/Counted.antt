-- The numbers of the counters: each is the sum of the increases of that counter, as far as 64 bits hold it.
use Rattle.std.specs.Prelude.{◌≡◌, ℕ, ◌+◌, ◌-◌, ◌^◌, ◌==◌, List, [], ◌∷◌, get_or, min, if◌then◌else◌}
use Rattle.fp_counters.specs.declared.counter.Counter.{Counter}
use Rattle.fp_counters.specs.declared.counters.Counters.{Counters}
use Rattle.fp_counters.specs.Counter.{place_of}

-- an event of a counter, this many times
pub record Increase : Type 0 where
  pub counter : Counter
  pub amount : ℕ

-- an event
abbrev pub once : Counter → Increase
once counter = record { counter = counter; amount = 1 }

-- the number of a counter
abbrev pub number_of : Counters → Counter → ℕ
number_of counters counter = get_or counters.numbers (place_of counter) 0

-- a number as far as 64 bits hold it
abbrev pub capped : ℕ → ℕ
capped n = min n (2 ^ 64 - 1)

-- the number of a counter once this one had this many events more
abbrev pub increased : Counter → ℕ → Counter → ℕ → ℕ
increased counter amount other number = if place_of other == place_of counter then capped (number + amount) else number

-- how many events of a counter these are
abbrev pub amount_of : Counter → List Increase → ℕ
amount_of counter [] = 0
amount_of counter (increase ∷ others) =
    amount_of counter others + (if place_of counter == place_of increase.counter then increase.amount else 0)

-- the counters have the numbers of these events
pub record Counted (counters : Counters) (events : List Increase) : Type 0 where
  pub numbers : (counter : Counter) → number_of counters counter ≡ capped (amount_of counter events)
