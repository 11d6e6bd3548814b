use Rattle.fp_steps.proofs.Names.{IsLost, IsPrepared, IsReadBy, None, Some, subst, sym, ◌∙◌}
use Rattle.fp_steps.proofs.BookLog.{table_there}
use Rattle.fp_steps.proofs.LoggedLines.{if_ok}
use Rattle.fp_steps.proofs.engine.Engine.make.Goals as goal

pub returns-else-is_lost-clause-makes : goal.returns-else-is_lost-clause-makes
returns-else-is_lost-clause-makes c =
    let there = table_there c.args.tables.now c.in-Post.table c.index-tables-table.result (sym c.is_handed_in.ensures ∙ c.if-not-is_handed_in.false) c.index-tables-table.is in
    let read = subst (λ frame. IsPrepared c.index-tables-table.result c.args.contexts.now frame c.in-Post.moment c.read-came.result) c.in_ok-try_clone-in-Post.ensures c.read-came.ensures.is in
    let came = subst (λ o. IsReadBy o c.args.contexts.now c.in-Post.frame c.in-Post.moment (Some c.read-came.result)) (sym there) (read, sym c.is_lost.ensures ∙ c.if-is_lost.false) in
    rw c.in-Post.is (if_ok _ _ c.post.result (λ output g. (Some c.read-came.result, came, g)) c.post.ensures.makes)

pub returns-in_ok-try_clone-in-Lost-clause-makes : goal.returns-in_ok-try_clone-in-Lost-clause-makes
returns-in_ok-try_clone-in-Lost-clause-makes c =
    let lost = subst (λ frame. IsLost frame c.in-Lost.moment c.lost-came.result) c.in_ok-try_clone-in-Lost.ensures c.lost-came.ensures in
    rw c.in-Lost.is (if_ok _ _ c.post-in-Lost.result (λ output g. (Some c.lost-came.result, lost, g)) c.post-in-Lost.ensures.makes)

pub returns-in-Tick-clause-makes : goal.returns-in-Tick-clause-makes
returns-in-Tick-clause-makes c = rw c.in-Tick.is (if_ok _ _ c.tick.result (λ output g. (None, tt, g)) c.tick.ensures.makes)

pub returns-in-Take-clause-makes : goal.returns-in-Take-clause-makes
returns-in-Take-clause-makes c = rw c.in-Take.is (if_ok _ _ c.take.result (λ output g. (None, tt, g)) c.take.ensures.makes)

pub returns-in-Give-clause-makes : goal.returns-in-Give-clause-makes
returns-in-Give-clause-makes c = rw c.in-Give.is (if_ok _ _ c.give.result (λ output g. (None, tt, g)) c.give.ensures.makes)

pub returns-in-Pick-clause-makes : goal.returns-in-Pick-clause-makes
returns-in-Pick-clause-makes c = rw c.in-Pick.is (if_ok _ _ c.pick.result (λ output g. (None, tt, g)) c.pick.ensures.makes)

pub returns-in-PutBack-clause-makes : goal.returns-in-PutBack-clause-makes
returns-in-PutBack-clause-makes c = rw c.in-PutBack.is (None, tt, c.put_back.ensures.makes)

pub returns-in-Sent-clause-makes : goal.returns-in-Sent-clause-makes
returns-in-Sent-clause-makes c = rw c.in-Sent.is (None, tt, c.sent.ensures.makes)

pub returns-in-Unsent-clause-makes : goal.returns-in-Unsent-clause-makes
returns-in-Unsent-clause-makes c = rw c.in-Unsent.is (None, tt, c.unsent.ensures.makes)

pub returns-in-Down-clause-makes : goal.returns-in-Down-clause-makes
returns-in-Down-clause-makes c = rw c.in-Down.is (None, tt, c.down.ensures.down)
