use Rattle.std.proofs.Common.{◌≡◌}
use Rattle.std.specs.VecDeque.{deque_capacity}
use Rattle.fp_book.specs.Shelf.{Sound}
use Rattle.fp_hub.proofs.Chains.{Returning}
use Rattle.fp_hub.proofs.kept.Kept.return_front.Given as goal

-- this number of turns came back
abbrev pub invariant-loop-count : goal.invariant-loop-count
invariant-loop-count g l = record {
  returning : Returning l._count l.fn.self l.self l.fn.work.items l.work.items l.fn.seat l.seat l.has_queued;
  capacity : deque_capacity l.work ≡ deque_capacity l.fn.work;
  sound : Sound l.self;
}
