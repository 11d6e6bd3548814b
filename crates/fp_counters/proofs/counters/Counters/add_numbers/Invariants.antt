use Rattle.std.proofs.Common.{◌≡◌, ℕ, ◌+◌, ◌<◌, ◌≤◌, length, get_or}
use Rattle.fp_counters.specs.Counted.{capped}
use Rattle.fp_counters.proofs.counters.Counters.add_numbers.Given as goal

-- the numbers before a place were added up, the others are unchanged
abbrev pub invariant-loop-place : goal.invariant-loop-place
invariant-loop-place l = record {
  all : length l.self.numbers ≡ 74;
  added : (k : ℕ) → k < l.place → get_or l.self.numbers k 0 ≡ capped (get_or l.initial.self.numbers k 0 + get_or l.other.numbers k 0);
  left : (k : ℕ) → l.place ≤ k → get_or l.self.numbers k 0 ≡ get_or l.initial.self.numbers k 0;
}
