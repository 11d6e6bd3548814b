-- Where nothing is passed over no identifier is read.
use Rattle.std.proofs.Common.{inr, refl, arith}
use Rattle.fp_q773.proofs.Lengths.{front_one}
use Rattle.fp_q773.proofs.Spellings.{ids_by}
use Rattle.fp_q773.proofs.ids.ids_of.Goals as goal

pub returns-in_default-contents_of : goal.returns-in_default-contents_of
returns-in_default-contents_of c = ids_by _ _ _ _ _ _ (front_one c.args.octets.now (omega arith)) (c.of-kind.ensures, inr (c.in_default-contents_of.ensures.none, refl, refl))
