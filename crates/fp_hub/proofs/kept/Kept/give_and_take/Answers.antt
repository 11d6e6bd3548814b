use Rattle.std.proofs.Common.{length, ap, ◌∙◌}
use Rattle.fp_book.specs.Shelf.{Shelf}
use Rattle.fp_hub.proofs.kept.Kept.give_and_take.Goals as goal

pub returns-clause-works : goal.returns-clause-works
returns-clause-works g c = record {
  between = c.return_front-is_queued.new.self;
  left = c.return_front-is_queued.new.work.items;
  returns = c.return_front-is_queued.ensures.returns;
  takes = rw (← c.return_front-is_queued.ensures.capacity) c.take_share-stopped.ensures.takes;
  ready_is = c.ready_count.ensures.value ∙ ap (λ (s : Shelf). length s.ready) c.self.view_is;
}
