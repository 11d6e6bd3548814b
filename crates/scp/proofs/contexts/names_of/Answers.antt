use Rattle.std.proofs.Common.{arith}
use Rattle.scp.proofs.Listing.{none_at, one_more}
use Rattle.scp.proofs.contexts.names_of.Goals as goal

pub returns-in_default : goal.returns-in_default
returns-in_default c =
    let none = rw c.in_default.is at c.in_ok-name.ensures in
    none_at c.args.texts.now c.loop-text.text-index _ (omega arith) none

pub loop-text-preserved : goal.loop-text-preserved
loop-text-preserved c =
    let next = rw c.in-Some.is at c.in_ok-name.ensures in
    let more = one_more c.args.texts.now c.loop-text.names.items c.loop-text.text-index _ c.in-Some.name (omega arith) c.loop-text.invariant next in
    rw c.in_ok-push.ensures.items more
