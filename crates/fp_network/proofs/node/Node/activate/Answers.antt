use Rattle.std.proofs.Common.{◌++◌, sym, subst}
use Rattle.fp_adaptor.specs.declared.adaptor.Adaptor.{Adaptor}
use Rattle.fp_adaptor.specs.Adaptor.{Led}
use Rattle.fp_network.specs.Node.{ended_at}
use Rattle.fp_network.proofs.Ending.{closes_as}
use Rattle.fp_network.proofs.Waits.{stays_more, waits_same}
use Rattle.fp_network.proofs.Tallied.{counts_active}
use Rattle.fp_network.proofs.node.Node.activate.Goals as goal

pub returns-clause-came : goal.returns-clause-came
returns-clause-came c setting history led =
    let r = c.replace.ensures.came setting history led in (
      r.0,
      r.1,
      r.2,
      subst (λ (own : Adaptor). Led own setting (ended_at c.args.self.now r.0 ++ (r.1 ++ history))) (sym c.note_active.ensures.adaptor) r.3,
      closes_as _ r.0 _ _ _ c.note_active.ensures.places r.4,
    )

pub returns-clause-rest : goal.returns-clause-rest
returns-clause-rest c =
    stays_more _ _ _ c.replace.ensures.rest
    (waits_same c.replace.new.self c.note_active.new.self (λ place. rw c.note_active.ensures.places))

pub returns-clause-reads : goal.returns-clause-reads
returns-clause-reads c = rw c.note_active.ensures.places c.replace.ensures.reads

pub returns-clause-counted : goal.returns-clause-counted
returns-clause-counted c =
    let replace = c.replace.ensures in
    let note = c.note_active.ensures in
    counts_active c.args.unit c.args.place c.args.self.now c.replace.new.self c.note_active.new.self replace.link.names replace.link.count
    replace.counted note.places note.tally note.news
