-- The entries that come from components are as many as those that are delivered.
use Rattle.fp_entry.proofs.Counts.{are_counted}
use Rattle.fp_entry.proofs.laws.components_are_counted.Goals as goal

pub returns : goal.returns
returns c = are_counted
