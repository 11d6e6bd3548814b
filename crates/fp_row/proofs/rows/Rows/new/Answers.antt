use Rattle.std.proofs.Common.{ap}
use Rattle.std.specs.FinMap as map
use Rattle.std.specs.Map.{lookup}
use Rattle.std.specs.Prelude.{nat_eq}
use Rattle.slab.specs.Slab.{values}
use Rattle.fp_row.proofs.Led.{leads_empty}
use Rattle.fp_row.proofs.rows.Rows.new.Goals as goal

-- nothing is in the slab, and nothing in the index
pub invariant_of-result : goal.invariant_of-result
invariant_of-result c = leads_empty _ c.new.result (λ q. ap (lookup (nat_eq q)) c.with_hasher.ensures.empty) c.new.ensures.empty

pub returns : goal.returns
returns c = ap (λ slots. map.from_entries (values (record { slots = slots; vacant_key = 0; capacity = 0 }))) c.new.ensures.empty
