-- What an End, a Continue and an Abort bring is the same for all names that are accepted.
use Rattle.fp_entry.proofs.message.incoming_of.Goals as goal

pub returns-in_ok-of_end-in-End-clause-ok : goal.returns-in_ok-of_end-in-End-clause-ok
returns-in_ok-of_end-in-End-clause-ok c = rw c.in-End.is (c.in_ok-of_end-in-End.ensures.ok c.args.contexts.now)

pub returns-in_ok-of_continue-in-Continue-clause-ok : goal.returns-in_ok-of_continue-in-Continue-clause-ok
returns-in_ok-of_continue-in-Continue-clause-ok c = rw c.in-Continue.is (c.in_ok-of_continue-in-Continue.ensures.ok c.args.contexts.now)

pub returns-in_ok-of_abort-in-Abort-clause-ok : goal.returns-in_ok-of_abort-in-Abort-clause-ok
returns-in_ok-of_abort-in-Abort-clause-ok c =
    rw c.in-Abort.is (c.in_ok-of_abort-in-Abort.ensures c.args.lookup.now c.args.contexts.now)
