-- One more entry, that of a faulty component, and those of all components.
use Rattle.std.proofs.Common.{◌∙◌, sym, arith}
use Rattle.std.proofs.lemmas.List.{drop_all}
use Rattle.fp_entry.proofs.Deliveries.{Continues-more, Delivers-all, Delivers-faulty}
use Rattle.fp_entry.proofs.message.deliver.Goals as goal

pub returns-then-is_faulty-clause-entries : goal.returns-then-is_faulty-clause-entries
returns-then-is_faulty-clause-entries c =
    let item = c.component-item in
    let kind = rw c.components.invariant.same at c.in_ok-kind.ensures.kind in
    rw c.in_ok-push.ensures.ok
    (Delivers-faulty c.args.lookup.now c.args.moment c.args.components.now c.components.component-index item.result _ c.args.before c.components.entries
    c.components-test.true item.is (sym c.is_faulty.ensures ∙ c.if-is_faulty.true) kind c.components.invariant.entries)

pub components-preserved : goal.components-preserved
components-preserved c =
    let item = c.component-item in
    let kind = rw c.components.invariant.same at c.in_ok-kind.ensures.kind in
    record {
      entries =
          rw c.in_ok-push.ensures.ok
          (Continues-more c.args.lookup.now c.args.moment c.args.components.now c.components.component-index item.result _ c.args.before c.components.entries
          c.components-test.true item.is (sym c.is_faulty.ensures ∙ c.if-is_faulty.false) kind c.components.invariant.entries);
      same = c.in_ok-kind.ensures.same ∙ c.components.invariant.same;
    }

pub returns-clause-entries : goal.returns-clause-entries
returns-clause-entries c =
    Delivers-all c.args.lookup.now c.args.moment c.args.components.now c.components.component-index c.args.before c.components.entries
    (drop_all c.components.component-index c.args.components.now (omega arith)) c.components.invariant.entries
