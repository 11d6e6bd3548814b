-- The text of a tag: its first octet is made of the three parts that were read from it.
use Rattle.std.proofs.Common.{arith}
use Rattle.fp_ber.proofs.Octets.{first_octet-parts, low_tag, high_tag}
use Rattle.fp_ber.proofs.tag.tag_at.Goals as goal

pub returns-then-low-eq31-clause-ok : goal.returns-then-low-eq31-clause-ok
returns-then-low-eq31-clause-ok c =
    let first = rw c.if-low-eq31.true at (first_octet-parts _ _ c.class_of-class.ensures) in
    high_tag c.args.octets.now _ _ _ _ (omega arith) first (c.in_ok-number.ensures.ok _ _)

pub returns-clause-ok : goal.returns-clause-ok
returns-clause-ok c =
    rw c.from-number.ensures (low_tag c.args.octets.now _ _ _ (omega arith) (first_octet-parts _ _ c.class_of-class.ensures) (omega arith) (omega arith))
