use Rattle.std.proofs.Common.{sym}
use Rattle.fp_ber.specs.declared.element.Class.TheVariants.{Context}
use Rattle.fp_ber.specs.Tree.{constructed, none, more}
use Rattle.fp_apdu.specs.Aare.{integer}
use Rattle.fp_apdu.specs.Verdict.{diagnostic, source}
use Rattle.fp_ber.specs.Putting.{alone}
use Rattle.fp_apdu.proofs.aare.write_diagnostic.Goals as goal

pub returns-clause-ok : goal.returns-clause-ok
returns-clause-ok c =
    let sourced = constructed Context (source c.args.verdict) (more (integer (diagnostic c.args.verdict)) none) in
    c.put_constructed.ensures.ok (more sourced none) c.args.out.now (alone sourced _ _ c.in_ok-write_source.ensures.ok) (sym c.len-behind.ensures.value)
