use Rattle.fp_book.proofs.Names.{Drains, deque_capacity, vec_capacity, vec_len, ◌+◌, ◌≡◌}
use Rattle.fp_book.proofs.log.move_steps.Given as goal

abbrev pub invariant-loop-moved : goal.invariant-loop-moved
invariant-loop-moved l = record {
  so_far : Drains l.link l.fn.steps.items l.fn.lines.items l._moved l.steps.items l.lines.items;
  count : vec_len l.lines ≡ vec_len l.fn.lines + l._moved;
  places : deque_capacity l.steps ≡ deque_capacity l.fn.steps;
  capacity : vec_capacity l.lines ≡ vec_capacity l.fn.lines;
}
