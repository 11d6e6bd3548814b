use Rattle.std.proofs.Common.{refl}
use Rattle.fp_records.proofs.Orders.{keys-seen}
use Rattle.fp_records.proofs.groups.Groups.new.Goals as goal

pub returns : goal.returns
returns c = record {
  count = refl;
  each = λ digits. rw c.new.ensures.empty refl;
  once = rw (keys-seen (λ rules. rules.items) c.new.result.entries) c.new.ensures.ordered;
}
