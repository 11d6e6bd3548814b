-- The weekday and the minute of a civil time are those of the arithmetic.
use Rattle.std.proofs.Common.{◌≡◌, ◌+◌, ◌*◌, ◌<◌, ℕ, ℤ, pos, ◌+ℤ◌, ◌*ℤ◌, arith, refl, sym, ◌∙◌}
use Rattle.std.specs.Int.{int_div_euclid}
use Rattle.jiff_core.proofs.DateTimeLemmas.{civil_nanos-parts}
use Rattle.jiff_core.proofs.SignedLemmas.{signed_arith}
use Rattle.jiff_core.specs.Calendar.{weekday_number}
use Rattle.jiff_core.specs.Date.{epoch_day}
use Rattle.jiff_core.specs.DateTime.{civil_nanos}
use Rattle.jiff_core.specs.declared.civil.datetime.DateTime.{DateTime}
use Rattle.fp_records.specs.Calendar.{day_of, local_minutes, minute_of_day, weekday_of}

-- the local minutes are the minutes of whole days and those of the day
minutes-parts : (moment hour minute second nanosecond : ℕ) (offset day : ℤ) → hour < 24 → minute < 60 → second < 60 → nanosecond < 1000000000
    → pos (moment * 1000000) +ℤ (pos 60 *ℤ offset) *ℤ pos 1000000000 ≡ day *ℤ pos 86400000000000 +ℤ pos ((hour * 3600 + minute * 60 + second) * 1000000000 + nanosecond)
    → local_minutes moment offset ≡ day *ℤ pos 1440 +ℤ pos (60 * hour + minute)
minutes-parts moment hour minute second nanosecond offset day h m s n same = omega (arith, signed_arith)

minute-parts : (minutes day : ℤ) (minute : ℕ) → minute < 1440 → minutes ≡ day *ℤ pos 1440 +ℤ pos minute → minute_of_day minutes ≡ minute
minute-parts minutes day minute below same = omega (arith, signed_arith)

day-parts : (minutes day : ℤ) (minute : ℕ) → minute < 1440 → minutes ≡ day *ℤ pos 1440 +ℤ pos minute → int_div_euclid minutes (pos 1440) ≡ day
day-parts minutes day minute below same = omega (arith, signed_arith)

-- what a clock shows at a moment, by its nanoseconds and its offset
pub record Shows (moment : ℕ) (offset : ℤ) (dt : DateTime) : Type 0 where
  pub nanos : civil_nanos dt ≡ pos (moment * 1000000) +ℤ (pos 60 *ℤ offset) *ℤ pos 1000000000

shown-minutes : (moment : ℕ) (offset : ℤ) (dt : DateTime) → Shows moment offset dt → local_minutes moment offset ≡ epoch_day dt.date *ℤ pos 1440 +ℤ pos (60 * dt.time.hour + dt.time.minute)
shown-minutes moment offset dt shows =
    minutes-parts moment dt.time.hour dt.time.minute dt.time.second dt.time.subsec_nanosecond offset (epoch_day dt.date) dt.time.hour_in dt.time.minute_in dt.time.second_in dt.time.subsec_in (sym shows.nanos ∙ civil_nanos-parts dt)

pub shown-minute : (moment : ℕ) (offset : ℤ) (dt : DateTime) → Shows moment offset dt → minute_of_day (local_minutes moment offset) ≡ 60 * dt.time.hour + dt.time.minute
shown-minute moment offset dt shows =
    minute-parts (local_minutes moment offset) (epoch_day dt.date) (60 * dt.time.hour + dt.time.minute) (omega (arith, dt.time.hour_in, dt.time.minute_in)) (shown-minutes moment offset dt shows)

pub shown-day : (moment : ℕ) (offset : ℤ) (dt : DateTime) → Shows moment offset dt → day_of (local_minutes moment offset) ≡ epoch_day dt.date
shown-day moment offset dt shows =
    day-parts (local_minutes moment offset) (epoch_day dt.date) (60 * dt.time.hour + dt.time.minute) (omega (arith, dt.time.hour_in, dt.time.minute_in)) (shown-minutes moment offset dt shows)

pub shown-weekday : (moment : ℕ) (offset : ℤ) (dt : DateTime) → Shows moment offset dt → weekday_of (local_minutes moment offset) ≡ weekday_number (epoch_day dt.date) + 1
unfolding weekday_number
shown-weekday moment offset dt shows = rw (shown-day moment offset dt shows) refl
