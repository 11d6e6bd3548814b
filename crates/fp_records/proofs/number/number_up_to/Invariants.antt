use Rattle.std.proofs.Common.{◌≡◌, ◌≤◌, drop}
use Rattle.fp_records.proofs.Digits.{up_to}
use Rattle.fp_records.proofs.number.number_up_to.Given as goal

abbrev pub invariant-loop-octet : goal.invariant-loop-octet
invariant-loop-octet l = record {
  low : l.number ≤ l.most;
  so_far : up_to l.most l.number (drop l.octet-index l.text) ≡ up_to l.most 0 l.text;
}
