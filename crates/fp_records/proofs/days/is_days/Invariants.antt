use Rattle.std.proofs.Common.{◌≡◌, drop}
use Rattle.fp_records.specs.Days.{rising_from}
use Rattle.fp_records.proofs.days.is_days.Given as goal

abbrev pub invariant-loop-octet : goal.invariant-loop-octet
invariant-loop-octet l = rising_from l.last (drop l.octet-index l.text) ≡ rising_from 48 l.text
