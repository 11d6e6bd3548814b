use Rattle.fp_steps.proofs.Names.{Holds, Shelf, ap, subst, turn_local, ◌∙◌}
use Rattle.fp_steps.proofs.TurnsOut.{local_found}
use Rattle.fp_steps.proofs.link_run.LinkRun.local_of.Goals as goal

pub returns : goal.returns
returns c = λ tables contexts h f.
    c.local_in.ensures ∙ ap (λ ts. turn_local ts c.args.birth) c.deref.ensures.value
    ∙ local_found c.rows_keep_their_order.ensures c.args.birth f.leads.tied (subst (λ (s : Shelf). Holds c.self.inside.engine.turns.items c.self.inside.engine.parcel s) c.self.view_is c.self.invariant.holds)
