-- Laws of the definitions that contracts cite.
use Rattle.std.specs.Prelude.{ℕ, ◌≤◌, List, ◌∷◌, All}
use Rattle.fp_ism.specs.Due.{least}

-- the least of some numbers is at most each of them
abbrev pub LeastIsAtMostEach : Type 0
LeastIsAtMostEach = (first : ℕ) (numbers : List ℕ) → All (λ other. least first numbers ≤ other) (first ∷ numbers)
