use Rattle.std.proofs.Common.{◌≡◌, ◌≤◌, length, take}
use Rattle.std.specs.List.{count_by}
use Rattle.memchr.specs.Find.{is_byte}
use Rattle.fp_logtext.proofs.unwritten.few_line_count.Given as goal

-- the line feeds so far
abbrev pub invariant-loop-octet : goal.invariant-loop-octet
invariant-loop-octet l = record {
  fits : length l.text ≤ 240;
  few : l.count ≤ l.octet-index;
  so_far : l.count ≡ count_by (is_byte 10) (take l.octet-index l.text);
}
