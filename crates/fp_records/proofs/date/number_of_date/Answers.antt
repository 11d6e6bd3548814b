use Rattle.std.proofs.Common.{◌≤◌, FitsSigned, w32, pos, arith, rules, sym}
use Rattle.std.proofs.lemmas.Bool.Decides.{nat_tests}
use Rattle.std.proofs.lemmas.Int.{ints, to_z-of_z}
use Rattle.jiff_core.specs.Date.{IsYmd}
use Rattle.fp_records.proofs.Dates.{number_of_date-is}
use Rattle.fp_records.proofs.date.number_of_date.Goals as goal

pub returns : goal.returns
returns c =
    let low : 1969 ≤ c.args.year = grind (arith, nat_tests, c.if-year-lt1969.false) in
    let high : c.args.year ≤ 2100 = grind (arith, nat_tests, c.if-year-gt2100.false) in
    let parts = c.in-Ok.ensures.value in
    let ymd : IsYmd (pos c.args.year) (pos c.args.month) (pos c.args.day) c.in-Ok.date = (omega (arith, ints), omega (arith, ints), omega (arith, ints)) in
    let fits : FitsSigned w32 c.to_unix_epoch_day.result = search rules in
    rw (to_z-of_z w32 c.to_unix_epoch_day.result fits)
    (sym (number_of_date-is c.args.year c.args.month c.args.day c.in-Ok.date c.to_unix_epoch_day.result low high ymd (rw c.to_plain.ensures at c.to_unix_epoch_day.ensures.value)))
