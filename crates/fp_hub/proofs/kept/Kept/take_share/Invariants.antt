use Rattle.std.proofs.Common.{◌≡◌}
use Rattle.std.specs.VecDeque.{deque_capacity}
use Rattle.fp_book.specs.Shelf.{Sound}
use Rattle.fp_hub.proofs.Chains.{Taking}
use Rattle.fp_hub.proofs.kept.Kept.take_share.Given as goal

-- this number of turns was taken
abbrev pub invariant-loop-count : goal.invariant-loop-count
invariant-loop-count g l = record {
  taking : Taking l._count l.fn.self l.self l.fn.work.items l.work.items;
  capacity : deque_capacity l.work ≡ deque_capacity l.fn.work;
  sound : Sound l.self;
}
