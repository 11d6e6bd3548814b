use Rattle.std.proofs.Common.{rules, sym}
use Rattle.fp_ber.specs.declared.element.Class.TheVariants.{Context}
use Rattle.fp_ber.specs.Tree.{constructed, none, more}
use Rattle.fp_apdu.specs.Aare.{integer}
use Rattle.fp_apdu.specs.Name.{application_context_name}
use Rattle.fp_apdu.specs.ProtocolVersion.{protocol_version, version_1}
use Rattle.fp_apdu.specs.Verdict.{associate_result, diagnostic, source}
use Rattle.fp_ber.specs.Putting.{alone, before_others, end_of_end}
use Rattle.fp_apdu.proofs.aare.write_apdu.Goals as goal

pub returns-clause-ok : goal.returns-clause-ok
returns-clause-ok c =
    let verdict = c.args.verdict in
    let sourced = constructed Context (source verdict) (more (integer (diagnostic verdict)) none) in
    let told = constructed Context 3 (more sourced none) in
    let judged = constructed Context 2 (more (integer (associate_result verdict)) none) in
    let named = application_context_name c.args.name.now in
    let rest = c.args.out.now in
    let one = alone told rest _ c.in_ok-write_diagnostic.ensures.ok in
    let two = before_others judged (more told none) rest _ _ c.in_ok-write_result.ensures.ok one in
    let three = before_others named (more judged (more told none)) rest _ _ c.in_ok-write.ensures.ok two in
    let four = before_others (protocol_version version_1) (more named (more judged (more told none))) rest _ _ c.in_ok-write-2.ensures.ok three in
    c.put_constructed.ensures.ok (more (protocol_version version_1) (more named (more judged (more told none)))) rest four (sym c.len-behind.ensures.value)

pub returns-in_err-write-2-clause-stays : goal.returns-in_err-write-2-clause-stays
returns-in_err-write-2-clause-stays c = search (rules, end_of_end)

pub returns-clause-stays : goal.returns-clause-stays
returns-clause-stays c = search (rules, end_of_end)
