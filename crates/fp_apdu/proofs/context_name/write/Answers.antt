use Rattle.std.proofs.Common.{sym}
use Rattle.fp_ber.specs.Tree.{none, more}
use Rattle.fp_apdu.specs.ObjectIdentifier.{object_identifier}
use Rattle.fp_ber.specs.Putting.{alone}
use Rattle.fp_apdu.proofs.context_name.write.Goals as goal

pub returns-clause-ok : goal.returns-clause-ok
returns-clause-ok c =
    let identifier = object_identifier c.args.name.now in
    c.put_constructed.ensures.ok (more identifier none) c.args.out.now (alone identifier _ _ c.in_ok-write.ensures.ok) (sym c.len-behind.ensures.value)
