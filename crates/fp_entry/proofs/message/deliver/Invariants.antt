-- The entries so far, and those of the components that are left.
use Rattle.std.proofs.Common.{◌≡◌}
use Rattle.fp_entry.proofs.Deliveries.{Continues}
use Rattle.fp_entry.proofs.message.deliver.Given as goal

abbrev pub invariant-components : goal.invariant-components
invariant-components l = record {
  entries : Continues l.fn.lookup l.moment l.components l.component-index l.fn.before l.entries;
  same : l.lookup ≡ l.fn.lookup;
}
