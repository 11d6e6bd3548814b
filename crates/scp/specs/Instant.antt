-- The moment of an instant.
use Rattle.std.specs.Prelude.{ℕ, ◌/◌, ℤ, pos, negsuc, Option, Some, None, Result, Ok, Err, nat_lt, if◌then◌else◌}
use Rattle.fp_digits.specs.declared.moment.TheConstants.Moment.{END}

-- the whole milliseconds of an instant in nanoseconds since 1970-01-01T00:00:00Z, from then on and before
-- 2100-01-01T00:00:00Z
abbrev pub moment_at : ℤ → Option ℕ
moment_at (pos nanoseconds) = if nat_lt (nanoseconds / 1000000) END then Some (nanoseconds / 1000000) else None
moment_at (negsuc n) = None

-- the moment of an instant that was read
abbrev pub moment_in : {E : Type 0} → Result ℤ E → Option ℕ
moment_in (Ok instant) = moment_at instant
moment_in (Err e) = None
