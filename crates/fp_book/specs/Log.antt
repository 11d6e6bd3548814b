-- The log of a link: what its steps were, the oldest first, and gaps where some are lost.
use Rattle.std.specs.Prelude.{◌≡◌, ℕ, ◌+◌, ◌-◌, ◌≤◌, List, [], ◌∷◌, ◌++◌, length, take, drop, map, min, nat_lt, Option, Some, None, IsSome, if◌then◌else◌}
use Rattle.std.specs.List.{slice_get}
use Rattle.std.specs.Option.{option_and_then}
use Rattle.fp_book.specs.Limits.{most_lines}
use Rattle.fp_book.specs.declared.line.Line.{Line}
use Rattle.fp_book.specs.declared.line.Line.TheVariants.{Step}
use Rattle.fp_book.specs.declared.line.LoggedStep.{LoggedStep}
use Rattle.fp_book.specs.declared.line.LoggedStep.TheVariants as steps

-- how many steps a gap counts; no other step counts any
abbrev pub lost_in : LoggedStep → Option ℕ
lost_in (steps.Gap lost) = Some lost
lost_in _ = None

-- how many steps the last line counts, if it is a gap
abbrev pub gap_at_end : List LoggedStep → Option ℕ
gap_at_end list = option_and_then lost_in (slice_get list (length list - 1))

-- one more lost step, as far as that can be counted: up to 2^64 - 1
abbrev pub one_more : ℕ → ℕ
one_more lost = min (lost + 1) 18446744073709551615

-- one step is lost: if the last line is no gap, a gap of one comes after the others
abbrev pub lose_behind : List LoggedStep → Option ℕ → List LoggedStep
lose_behind list None = list ++ steps.Gap 1 ∷ []
-- if it is a gap, it counts one more
lose_behind list (Some lost) = take (length list - 1) list ++ steps.Gap (one_more lost) ∷ []

-- one step is lost
abbrev pub lose : List LoggedStep → List LoggedStep
lose list = lose_behind list (gap_at_end list)

-- a step comes after the others while a place is left before the last one; from then on it is lost
abbrev pub logged : List LoggedStep → LoggedStep → List LoggedStep
logged list step = if nat_lt (length list) (most_lines - 1) then list ++ step ∷ [] else lose list

-- what each log keeps: at most `most_lines` steps, in the last place a gap, and memory for as many
pub record IsKept (list : List LoggedStep) (capacity : ℕ) : Type 0 where
  pub most : length list ≤ most_lines
  pub gap_in_last_place : length list ≡ most_lines → IsSome (gap_at_end list)
  pub room : most_lines ≤ capacity

-- steps as lines of a link
abbrev pub lines_of : ℕ → List LoggedStep → List Line
lines_of link steps = map (Step link) steps

-- the oldest steps, as many as `lines` has room for, come after `lines` as lines of this link, and the others stay
pub record Drains (link : ℕ) (old : List LoggedStep) (lines : List Line) (room : ℕ) (new : List LoggedStep) (more : List Line) : Type 0 where
  pub moved : more ≡ lines ++ lines_of link (take room old)
  pub left : new ≡ drop room old
