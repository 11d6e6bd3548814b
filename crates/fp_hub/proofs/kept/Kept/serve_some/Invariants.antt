use Rattle.fp_book.specs.Shelf.{Sound}
use Rattle.fp_hub.proofs.Chains.{InPlaces}
use Rattle.fp_hub.proofs.kept.Kept.serve_some.Given as goal

-- this number of turns was served
abbrev pub invariant-loop-count : goal.invariant-loop-count
invariant-loop-count g l = record {
  so_far : InPlaces l._count l.fn.self l.self l.fn.seat l.seat l.has_queued;
  sound : Sound l.self;
}
