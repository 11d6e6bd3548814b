-- The frames so far wait after the others.
use Rattle.fp_book.proofs.Names.{deque_capacity, waiting_frames, ◌++◌, ◌≡◌}
use Rattle.fp_book.proofs.outbox.push_all.Given as goal

abbrev pub invariant-loop-frame : goal.invariant-loop-frame
invariant-loop-frame l = record {
  items : l.waiting.items ≡ l.fn.waiting.items ++ waiting_frames l.local l.birth l.yielded;
  capacity : deque_capacity l.waiting ≡ deque_capacity l.fn.waiting;
}
