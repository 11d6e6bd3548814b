use Rattle.fp_book.specs.Shelf.{Sound}
use Rattle.fp_hub.proofs.Chains.{Posting}
use Rattle.fp_hub.proofs.kept.Kept.post_front.Given as goal

-- this number of messages was posted
abbrev pub invariant-loop-count : goal.invariant-loop-count
invariant-loop-count g l = record {
  posting : Posting l._count l.fn.self l.self l.fn.came.items l.came.items l.fn.seat l.seat l.has_aborted;
  sound : Sound l.self;
}
