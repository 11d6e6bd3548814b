use Rattle.fp_steps.proofs.Names.{IfOk, LogsRun, base_of, subst}
use Rattle.fp_steps.proofs.whole_run.run_with_tag.Goals as goal

pub make_all-outputs-requires : goal.make_all-outputs-requires
make_all-outputs-requires c = c.in_ok-made.ensures.after c.handed_in-tables.result.now c.args.contexts.now

pub returns-clause-log : goal.returns-clause-log
returns-clause-log c =
    subst (λ ts. IfOk c.make_all-outputs.result (λ outputs. LogsRun ts c.args.contexts.now (base_of c.args.link c.args.tag) c.args.steps.now outputs.items)) c.handed_in-tables.ensures
    (subst (λ n. IfOk c.make_all-outputs.result (λ outputs. LogsRun c.handed_in-tables.result.now c.args.contexts.now n c.args.steps.now outputs.items))
    (λ i. base_of (c.in_ok-made.ensures.link i) (c.in_ok-made.ensures.tag i)) c.make_all-outputs.ensures)
