-- The numbers of the counters after one more event.
use Rattle.std.proofs.Common.{◌≡◌, ℕ, ◌+◌, Bool, true, false, List, [], ◌∷◌, ◌++◌, if◌then◌else◌, ap, sym, arith, ◌∙◌}
use Rattle.std.specs.Bool.{◌==◌}
use Rattle.fp_counters.specs.declared.counter.Counter.{Counter}
use Rattle.fp_counters.specs.declared.counters.Counters.{Counters}
use Rattle.fp_counters.specs.Counter.{place_of}
use Rattle.fp_counters.specs.Counted.{Counted, Increase, amount_of, capped, increased, number_of}

-- a number that is capped may be capped before it grows
pub capped_more : (same : Bool) (amount n : ℕ) → (if same then capped (capped n + amount) else capped n) ≡ capped (n + (if same then amount else 0))
capped_more true amount n = omega arith
capped_more false amount n = omega arith

-- where one counter is raised there is one increase more
pub counted_more : (old new : Counters) (events : List Increase) (counter : Counter) (amount : ℕ)
    → ((other : Counter) → number_of new other ≡ increased counter amount other (number_of old other))
    → Counted old events → Counted new (record { counter = counter; amount = amount } ∷ events)
counted_more old new events counter amount raised was = record {
  numbers = λ other. raised other ∙ ap (increased counter amount other) (was.numbers other)
      ∙ capped_more (place_of other == place_of counter) amount (amount_of other events);
}

-- the events of two lists
amount_of-append : (counter : Counter) (a b : List Increase) → amount_of counter (a ++ b) ≡ amount_of counter a + amount_of counter b
amount_of-append counter [] b = omega arith
amount_of-append counter (increase ∷ a) b = omega (arith, amount_of-append counter a b)

-- a sum that is capped may be capped before
capped_both : (m n : ℕ) → capped (capped m + capped n) ≡ capped (m + n)
capped_both m n = omega arith

-- the numbers of two lists of events, added up
pub counted_both : (old other new : Counters) (own others : List Increase)
    → ((counter : Counter) → number_of new counter ≡ capped (number_of old counter + number_of other counter))
    → Counted old own → Counted other others → Counted new (own ++ others)
counted_both old other new own others sums was is = record {
  numbers = λ counter. sums counter
      ∙ ap (λ m. capped (m + number_of other counter)) (was.numbers counter)
      ∙ ap (λ n. capped (capped (amount_of counter own) + n)) (is.numbers counter)
      ∙ capped_both (amount_of counter own) (amount_of counter others)
      ∙ ap capped (sym (amount_of-append counter own others));
}
