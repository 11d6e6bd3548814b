use Rattle.fp_tids.proofs.Serials.{kept_new, new_view}
use Rattle.fp_tids.proofs.local_ids.LocalIds.with_tag.Goals as goal

pub invariant_of-result : goal.invariant_of-result
invariant_of-result c = kept_new c.args.link c.args.tag _ c.in_ok-with_capacity.field-0.items c.requires.links c.requires.tags c.in_ok-with_capacity.ensures.items c.in_ok-with_capacity.ensures.exact

pub returns : goal.returns
returns c = rw c.in_ok-with_capacity.ensures.items (new_view c.args.link c.args.tag)
