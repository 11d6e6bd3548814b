-- What holds of all deadlines.
use Rattle.std.specs.Prelude.{◌≡◌, ℕ, Option}
use Rattle.std.specs.Ordering.{nat_cmp}
use Rattle.std.specs.FinMap.{FinMap}
use Rattle.fp_timers.specs.Deadlines.{IsEarliestDue, IsEarliestDueAfter}
use Rattle.fp_timers.specs.declared.timers.Timer.{Timer}

-- the earliest that is due at a moment is one identifier, or none
abbrev pub EarliestDueIsOne : Type 0
EarliestDueIsOne = (deadlines : FinMap nat_cmp ℕ) (moment : ℕ) (a b : Option ℕ) → IsEarliestDue deadlines moment a → IsEarliestDue deadlines moment b → a ≡ b

-- so is the earliest that is due after another one
abbrev pub EarliestDueAfterIsOne : Type 0
EarliestDueAfterIsOne = (deadlines : FinMap nat_cmp ℕ) (last : Option Timer) (moment : ℕ) (a b : Option Timer) → IsEarliestDueAfter deadlines last moment a → IsEarliestDueAfter deadlines last moment b → a ≡ b
