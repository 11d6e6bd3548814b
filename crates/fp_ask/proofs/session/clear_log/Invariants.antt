use Rattle.std.proofs.Common.{◌≡◌, length, vec_capacity}
use Rattle.fp_ask.proofs.session.clear_log.Given as goal

abbrev pub invariant-loop : goal.invariant-loop
invariant-loop l = record {
  book : l.book ≡ record l.fn.book { log = l.book.log };
  capacity : vec_capacity l.lines ≡ vec_capacity l.fn.lines;
}

abbrev pub decreases-loop : goal.decreases-loop
decreases-loop l = length l.book.log
