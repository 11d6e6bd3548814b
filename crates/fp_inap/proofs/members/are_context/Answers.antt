use Rattle.std.proofs.Common.{rules, tests}
use Rattle.fp_inap.proofs.Sequences.{context_first, context_all}
use Rattle.fp_inap.proofs.members.are_context.Goals as goal

pub members-preserved : goal.members-preserved
members-preserved c = record {
  all = λ rest. c.members.invariant.all (context_all _ _ _ c.in-Some.ensures (search (rules, tests)) rest);
  rest = λ all. (context_first _ _ _ c.in-Some.ensures (c.members.invariant.rest all)).1;
}

pub returns-then-ne-clause-no : goal.returns-then-ne-clause-no
returns-then-ne-clause-no c = λ all.
    let here = (context_first _ _ _ c.in-Some.ensures (c.members.invariant.rest all)).0 in search (rules, tests, here)
