-- Rows by local transaction identifier (ITU-T Q.773, 4.2.1.3): a finite map.
use Rattle.std.specs.Prelude.{◌≡◌, ℕ, ◌≤◌, ◌==◌, nat_lt, Bool, false, true, IsTrue, Option, Some, None, count_by, if◌then◌else◌, length}
use Rattle.std.specs.List.{sum_by}
use Rattle.std.specs.Ordering.{nat_cmp}
use Rattle.std.specs.FinMap.{FinMap, contains_key, entries, get, insert}
use Rattle.fp_row.specs.declared.ending.Ending.TheVariants.{Closed}
use Rattle.fp_row.specs.declared.row.Row.{Row}
use Rattle.fp_row.specs.Calls.{Ends}
use Rattle.fp_row.specs.Row.{is_due, is_held}

-- how many dialogues are due at a moment
abbrev pub count_due : FinMap nat_cmp Row → ℕ → ℕ
count_due rows moment = count_by (λ (entry : ℕ × Row). is_due entry.1 moment) (entries rows)

-- how many entries the dialogues accepted
abbrev pub entry_count : FinMap nat_cmp Row → ℕ
entry_count rows = sum_by (λ (entry : ℕ × Row). length entry.1.accepted) (entries rows)

-- an identifier is above this one, as each is above none
abbrev pub is_above : Option ℕ → ℕ → Bool
is_above None other = true
is_above (Some local) other = nat_lt local other

-- the least identifier of a row above one, and the least of all above none
abbrev pub IsAfter : FinMap nat_cmp Row → Option ℕ → Option ℕ → Type 0
-- none: no row has an identifier above it
IsAfter rows local None = (other : ℕ) → IsTrue (contains_key rows other) → is_above local other ≡ false
-- an identifier: a row has it, it is above, and no other that is above is smaller
IsAfter rows local (Some next) =
    IsTrue (contains_key rows next) × (is_above local next ≡ true) × ((other : ℕ) → IsTrue (contains_key rows other) → is_above local other ≡ true → next ≤ other)

-- the least identifier above one is one identifier, or none
abbrev pub AfterIsOne : Type 0
AfterIsOne = (rows : FinMap nat_cmp Row) (local a b : Option ℕ) → IsAfter rows local a → IsAfter rows local b → a ≡ b

-- to put back the row that was there changes nothing
abbrev pub PuttingBackChangesNothing : Type 0
PuttingBackChangesNothing = (rows : FinMap nat_cmp Row) (local : ℕ) (row : Row) → get rows local ≡ Some row → insert rows local row ≡ rows

-- DOWN: all dialogues are ended from outside

-- a dialogue is closed, and stays if something of it is left
pub record Closes (sending : Bool) (row : Row) (left : Option Row) : Type 0 where
  pub after : Row
  pub ends : Ends Closed sending row after
  pub left_is : left ≡ (if is_held after then Some after else None)

-- so is any under an identifier, if one is there
abbrev pub ClosesAt : Bool → Option Row → Option Row → Type 0
ClosesAt sending None left = left ≡ None
ClosesAt sending (Some row) left = Closes sending row left

-- a frame of this dialogue is being sent, by the dialogue of which one is
abbrev pub is_sent : Option ℕ → ℕ → Bool
is_sent None local = false
is_sent (Some sending) local = sending == local
