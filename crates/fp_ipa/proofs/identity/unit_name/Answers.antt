use Rattle.std.proofs.Common.{rules}
use Rattle.fp_ipa.specs.Identity.{item_of}
use Rattle.fp_ipa.proofs.UnitNames.{back, forward, none_first, nothing}
use Rattle.fp_ipa.proofs.identity.unit_name.Goals as goal

pub returns-in_default-clause-none : goal.returns-in_default-clause-none
returns-in_default-clause-none c = λ value says.
    none_first c.loop-rest.rest.now value c.in_default.ensures (c.loop-rest.invariant.back value says)

pub loop-rest-preserved : goal.loop-rest-preserved
loop-rest-preserved c =
    let rest = c.loop-rest.rest.now in
    let after = c.in-Some.first.after.now in
    let item = item_of c.in-Some.first.tag c.in-Some.first.value.now in
    record {
      forward = λ value says.
          c.loop-rest.invariant.forward value (forward rest after value item c.in-Some.ensures c.if-first-eq-UNIT_NAME.false says);
      back = λ value says.
          back rest after value item c.in-Some.ensures c.if-first-eq-UNIT_NAME.false (c.loop-rest.invariant.back value says);
    }

pub returns-clause-none : goal.returns-clause-none
returns-clause-none c = λ value says.
    nothing c.loop-rest.rest.now value (search rules) (c.loop-rest.invariant.back value says)
