-- Timers in the order of their local identifiers, or of their deadlines, and what a search finds among them.
use Rattle.std.specs.Prelude.{◌≡◌, ◌≢◌, ℕ, ◌<◌, ◌≤◌, ◌==◌, nat_lt, Bool, false, true, ◌&&◌, ◌||◌, cond, List, ◌∷◌, ◌++◌, All, map, length, slice_index_or, Option, Some, None}
use Rattle.fp_timers.specs.Limits.{most_deadlines}
use Rattle.fp_timers.specs.declared.timers.Timer.{Timer}

-- the identifiers, each with its deadline
abbrev pub entries : List Timer → List (ℕ × ℕ)
entries timers = map (λ timer. (timer.local, timer.deadline)) timers

-- the timer at a place
abbrev pub timer_at : List Timer → ℕ → Timer
timer_at timers place = slice_index_or timers place (record { local = 0; deadline = 0 })

-- the identifiers rise, so none comes twice
abbrev pub IsInOrder : List Timer → Type 0
IsInOrder timers = (i j : ℕ) → i < j → j < length timers → (timer_at timers i).local < (timer_at timers j).local

-- the deadline is earlier, or the same with a smaller identifier
abbrev pub comes_before : Timer → Timer → Bool
comes_before timer other = nat_lt timer.deadline other.deadline || ((timer.deadline == other.deadline) && nat_lt timer.local other.local)

-- each timer comes before all that follow it
abbrev pub IsInTimeOrder : List Timer → Type 0
IsInTimeOrder timers = (i j : ℕ) → i < j → j < length timers → comes_before (timer_at timers i) (timer_at timers j) ≡ true

-- no identifier comes twice
abbrev pub AreApart : List Timer → Type 0
AreApart timers = (i j : ℕ) → i < j → j < length timers → (timer_at timers i).local ≢ (timer_at timers j).local

-- what a list by identifier keeps: its timers in order, at most `most_deadlines`, and memory for as many
pub record IsKept (timers : List Timer) (capacity : ℕ) : Type 0 where
  pub in_order : IsInOrder timers
  pub most : length timers ≤ most_deadlines
  pub room : most_deadlines ≤ capacity

-- what a lane keeps: its timers in the order of deadlines, and memory for `most_deadlines`
pub record IsKeptInTime (timers : List Timer) (capacity : ℕ) : Type 0 where
  pub in_order : IsInTimeOrder timers
  pub room : most_deadlines ≤ capacity

-- the timers of four lanes
abbrev pub joined : List Timer → List Timer → List Timer → List Timer → List Timer
joined first second third fourth = first ++ (second ++ (third ++ fourth))

-- what all lanes together keep: each timer is of another identifier, and there are at most `most_deadlines`
pub record AreFew (timers : List Timer) : Type 0 where
  pub apart : AreApart timers
  pub most : length timers ≤ most_deadlines

-- these are the others and one timer more, at any place
pub record IsWith (others : List Timer) (timer : Timer) (timers : List Timer) : Type 0 where
  pub before : List Timer
  pub after : List Timer
  pub without : others ≡ before ++ after
  pub whole : timers ≡ before ++ timer ∷ after

-- the timer is at this place
pub record IsTimerAt (timers : List Timer) (timer : Timer) (place : ℕ) : Type 0 where
  pub in_range : place < length timers
  pub is_timer : timer_at timers place ≡ timer

-- the one of two timers that comes before the other, if there is one
abbrev pub earlier : Option Timer → Option Timer → Option Timer
earlier None other = other
earlier (Some timer) None = Some timer
earlier (Some timer) (Some other) = cond (comes_before other timer) (Some other) (Some timer)

-- whether a timer comes after another one, the last; each does, if there is no last
abbrev pub is_after : Option Timer → Timer → Bool
is_after None timer = true
is_after (Some last) timer = comes_before last timer

-- the timer that comes before all others of those after the last, if there is one
abbrev pub IsEarliestAfter : Option Timer → List Timer → Option Timer → Type 0
IsEarliestAfter last timers None = All (λ other. is_after last other ≡ false) timers
IsEarliestAfter last timers (Some timer) =
    ((place : ℕ) × IsTimerAt timers timer place)
    × (is_after last timer ≡ true)
    × All (λ other. is_after last other ≡ true → comes_before other timer ≡ false) timers

-- the identifier's timer is at this place
pub record IsAt (timers : List Timer) (local place : ℕ) : Type 0 where
  pub in_range : place < length timers
  pub has_local : (timer_at timers place).local ≡ local

-- a timer of the identifier would go at this place: smaller identifiers before it, and greater ones from it on
pub record IsGapFor (timers : List Timer) (local place : ℕ) : Type 0 where
  pub in_range : place ≤ length timers
  pub smaller_before : (i : ℕ) → i < place → (timer_at timers i).local < local
  pub greater_after : (i : ℕ) → place ≤ i → i < length timers → local < (timer_at timers i).local

-- the timer is, or would go, at this place in the order of deadlines: all that come before it are before this place
pub record IsPlaceFor (timers : List Timer) (timer : Timer) (place : ℕ) : Type 0 where
  pub in_range : place ≤ length timers
  pub earlier_before : (i : ℕ) → i < place → comes_before (timer_at timers i) timer ≡ true
  pub none_after : (i : ℕ) → place ≤ i → i < length timers → comes_before (timer_at timers i) timer ≡ false

-- the timers that come after the last begin at this place
pub record IsPlaceAfter (timers : List Timer) (last : Option Timer) (place : ℕ) : Type 0 where
  pub in_range : place ≤ length timers
  pub none_before : (i : ℕ) → i < place → is_after last (timer_at timers i) ≡ false
  pub all_after : (i : ℕ) → place ≤ i → i < length timers → is_after last (timer_at timers i) ≡ true
