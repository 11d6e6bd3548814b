use Rattle.std.proofs.Common.{◌≡◌, ◌+◌, ◌*◌, FitsSigned, w32, pos, ◌*ℤ◌, arith, rules, sym, ap, ◌∙◌}
use Rattle.std.proofs.lemmas.Int.{ints, to_z-of_z}
use Rattle.std.proofs.lemmas.Result.{IfOk-at_ok}
use Rattle.fp_records.proofs.Calendar.{Shows, shown-day, shown-minute, shown-weekday}
use Rattle.fp_records.proofs.local_time.local_time.Goals as goal

shows : (c : goal.After-from-3) → Shows c.args.moment c.args.offset c.to_datetime-local.result
shows c =
    let seconds = IfOk-at_ok _ c.unwrap-offset.ensures c.from_seconds.ensures.value in
    let nanos = IfOk-at_ok _ c.unwrap-instant.ensures c.from_millisecond.ensures.value in
    let seconds_is : c.unwrap-offset.result.seconds ≡ pos 60 *ℤ c.args.offset = omega (arith, ints) in
    let nanos_is : c.unwrap-instant.result.nanosecond ≡ pos (c.args.moment * 1000000) = omega (arith, ints) in
    record { nanos = rw (← nanos_is, ← seconds_is) c.to_datetime-local.ensures }

pub returns-clause-minute : goal.returns-clause-minute
returns-clause-minute c =
    let hour_is : c.from-2.result ≡ c.to_datetime-local.result.time.hour = omega (arith, ints) in
    let minute_is : c.from-3.result ≡ c.to_datetime-local.result.time.minute = omega (arith, ints) in
    rw (hour_is, minute_is) (sym (shown-minute c.args.moment c.args.offset c.to_datetime-local.result (shows c)))

pub returns-clause-weekday : goal.returns-clause-weekday
returns-clause-weekday c =
    ap (λ n. n + 1) c.weekday.ensures ∙ sym (shown-weekday c.args.moment c.args.offset c.to_datetime-local.result (shows c))

pub returns-clause-day : goal.returns-clause-day
returns-clause-day c =
    let plain = rw (c.to_plain.ensures, c.date.ensures) at c.to_unix_epoch_day.ensures.value in
    let fits : FitsSigned w32 c.to_unix_epoch_day.result = search rules in
    to_z-of_z w32 c.to_unix_epoch_day.result fits ∙ plain ∙ sym (shown-day c.args.moment c.args.offset c.to_datetime-local.result (shows c))
