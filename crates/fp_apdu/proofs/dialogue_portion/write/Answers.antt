use Rattle.std.proofs.Common.{arith, rules}
use Rattle.fp_ber.specs.declared.element.Class.TheVariants.{Context}
use Rattle.fp_ber.specs.Tree.{constructed, none, more}
use Rattle.fp_apdu.specs.DialoguePortion.{dialogue_as, external}
use Rattle.fp_apdu.specs.ObjectIdentifier.{object_identifier}
use Rattle.fp_ber.specs.Putting.{alone, before_others, end_of_end, still_behind}
use Rattle.fp_apdu.proofs.dialogue_portion.write.Goals as goal

pub put_constructed-requires-2-clause-behind : goal.put_constructed-requires-2-clause-behind
put_constructed-requires-2-clause-behind c =
    let apdu = c.requires.0 in
    let rest = c.requires.1 in
    let encoding = constructed Context 0 (more apdu none) in
    let encoded = c.in_ok-put_constructed.ensures.ok (more apdu none) rest (alone apdu rest _ c.requires.2) c.requires.3 in
    still_behind (object_identifier dialogue_as) _ _ _ c.in_ok-write.ensures.ok
    (still_behind encoding _ rest _ encoded (omega (arith, c.requires.3)))

pub put_constructed-requires-3-clause-behind : goal.put_constructed-requires-3-clause-behind
put_constructed-requires-3-clause-behind c =
    let apdu = c.requires.0 in
    let rest = c.requires.1 in
    let reference = object_identifier dialogue_as in
    let encoding = constructed Context 0 (more apdu none) in
    let encoded = c.in_ok-put_constructed.ensures.ok (more apdu none) rest (alone apdu rest _ c.requires.2) c.requires.3 in
    let referred = before_others reference (more encoding none) rest _ _ c.in_ok-write.ensures.ok (alone encoding rest _ encoded) in
    let whole = c.in_ok-put_constructed-2.ensures.ok (more reference (more encoding none)) rest referred c.requires.3 in
    still_behind (external apdu) _ rest _ whole (omega (arith, c.requires.3))

pub returns-clause-ok : goal.returns-clause-ok
returns-clause-ok c = λ apdu rest were long.
    let reference = object_identifier dialogue_as in
    let encoding = constructed Context 0 (more apdu none) in
    let encoded = c.in_ok-put_constructed.ensures.ok (more apdu none) rest (alone apdu rest _ were) long in
    let referred = before_others reference (more encoding none) rest _ _ c.in_ok-write.ensures.ok (alone encoding rest _ encoded) in
    let whole = c.in_ok-put_constructed-2.ensures.ok (more reference (more encoding none)) rest referred long in
    c.put_constructed-3.ensures.ok (more (external apdu) none) rest (alone (external apdu) rest _ whole) long

pub returns-clause-stays : goal.returns-clause-stays
returns-clause-stays c = search (rules, end_of_end)
