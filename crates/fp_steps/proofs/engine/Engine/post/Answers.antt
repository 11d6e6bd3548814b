use Rattle.fp_steps.proofs.Names.{Follows, subst, verdict}
use Rattle.fp_book.specs.Receipt.{treated_as}
use Rattle.fp_steps.proofs.TokensKept.{follows_untouched, holds_untouched}
use Rattle.fp_steps.proofs.engine.Engine.post.Goals as goal

pub returns-clause-makes : goal.returns-clause-makes
returns-clause-makes c =
    let old = c.args.self.now.book in let new = c.post_with_receipt-receipt.new.self in
    let posted = c.post_with_receipt-receipt.result.posted in
    let receipt = c.post_with_receipt-receipt.ensures.receipt in (
      receipt.components,
      subst (λ lost. Follows (verdict old (treated_as lost c.args.came)) old (treated_as lost c.args.came) posted new) c.if-receipt.false receipt.follows,
      c.post_with_receipt-receipt.ensures.totals,
    )

pub returns-clause-holds : goal.returns-clause-holds
returns-clause-holds c = holds_untouched (follows_untouched _ _ _ _ _ c.requires.sound c.post_with_receipt-receipt.ensures.receipt.follows) c.requires.holds

pub returns-then-receipt-clause-holds : goal.returns-then-receipt-clause-holds
returns-then-receipt-clause-holds c = holds_untouched (follows_untouched _ _ _ _ _ c.requires.sound c.post_with_receipt-receipt.ensures.receipt.follows) c.requires.holds
