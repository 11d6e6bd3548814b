-- The list of all counters.
use Rattle.std.proofs.Common.{refl}
use Rattle.fp_counters.specs.Counter.{AreListed}
use Rattle.fp_counters.specs.declared.counter.Counter.TheVariants as counters

pub listed : AreListed
listed counters.Begins = refl
listed counter = refl
