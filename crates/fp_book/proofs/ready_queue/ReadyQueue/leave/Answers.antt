use Rattle.fp_book.proofs.Names.{ap, filter, filter_same, is_other, rules, ◌∙◌}
use Rattle.fp_book.proofs.ready_queue.ReadyQueue.leave.Goals as goal

-- the closure keeps each other identifier
pub returns : goal.returns
returns c =
    filter_same _ (is_other c.args.local) _ (λ x kept f called. search rules) _ _ c.retain.ensures.filtered
    ∙ ap (filter (is_other c.args.local)) c.self.view_is
