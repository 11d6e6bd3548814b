-- What was counted in a period: the difference of what had been counted when it ended and when it began, by what was noted.
-- Times are milliseconds since the run began, and a period of a width begins at each multiple of it.
use Rattle.std.specs.Prelude.{◌≡◌, ◌<◌, ◌≤◌, ◌==◌, Bool, ℕ, ◌+◌, ◌-◌, ◌/◌, List, [], ◌∷◌, nat_lt, slice_index, if◌then◌else◌}
use Rattle.std.specs.Vec.{vec_len}
use Rattle.fp_page.specs.declared.spans.Span.{Span}

-- at this time so much had been counted
pub record Note : Type 0 where
  pub time : ℕ
  pub total : ℕ

-- the period of the newest note, which is the first; 0 if there is none
abbrev pub newest : ℕ → List Note → ℕ
newest width [] = 0
newest width (note ∷ earlier) = note.time / width

-- what had been counted when a period began: by the newest note before it
abbrev pub total_at : ℕ → List Note → ℕ → ℕ
total_at width [] period = 0
total_at width (note ∷ earlier) period =
    if nat_lt (note.time / width) period then note.total else total_at width earlier period

-- a note at this time comes after all of these
abbrev pub IsNext : ℕ → List Note → Type 0
IsNext time [] = 0 ≤ time
IsNext time (note ∷ earlier) = note.time ≤ time

-- how many milliseconds a period of a span has
abbrev pub width_of : Span → ℕ
width_of span = span.width

-- how many periods are kept before the one that goes on
abbrev pub most_of : Span → ℕ
most_of span = vec_len span.totals - 2

-- the first period goes on, and none is over
abbrev pub is_in_its_first_period : Span → Bool
is_in_its_first_period span = span.period == 0

-- a span of periods of this many milliseconds, of which this many are kept before the one that goes on
abbrev pub IsSpan : Span → ℕ → ℕ → Type 0
IsSpan span width most = (width_of span ≡ width) × (most_of span ≡ most)

-- what was counted in the period that is this many before the one that goes on; before the run nothing was
abbrev pub counted : Span → List Note → ℕ → ℕ
counted span notes age =
    total_at span.width notes (span.period + 1 - age) - total_at span.width notes (span.period - age)

-- the span has what had been counted when its periods ended, and the one before them
pub record Shows (span : Span) (notes : List Note) : Type 0 where
  pub period : span.period ≡ newest span.width notes
  pub totals : (place : ℕ) → place < vec_len span.totals
      → slice_index span.totals.items place ≡ total_at span.width notes (span.period + 1 - place)
