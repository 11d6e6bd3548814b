use Rattle.std.proofs.Common.{◌&&◌, true, ap, subst, sym, ◌∙◌, rules}
use Rattle.fp_sccp.specs.OptionalPart.{SaysWhole, parameter_of}
use Rattle.fp_sccp.proofs.Parameters.{and_assoc, and_true, at_end, back, forward, none_first, nothing}
use Rattle.fp_sccp.proofs.optional_part.says_whole.Goals as goal

pub returns-then-rest-eq-END-clause-found : goal.returns-then-rest-eq-END-clause-found
returns-then-rest-eq-END-clause-found c =
    subst (λ b. SaysWhole c.args.octets.now b) (and_true c.loop-rest.whole)
    (c.loop-rest.invariant.forward true (at_end c.loop-rest.rest.now (search rules) c.if-rest-eq-END.true))

pub returns-in_default-clause-none : goal.returns-in_default-clause-none
returns-in_default-clause-none c = λ whole says.
    let rest = c.loop-rest.invariant.back whole says in
    none_first c.loop-rest.rest.now rest.0 c.if-rest-eq-END.false c.in_default.ensures rest.1

pub loop-rest-preserved : goal.loop-rest-preserved
loop-rest-preserved c =
    let rest = c.loop-rest.rest.now in
    let after = c.in-Some.first.after.now in
    let first = parameter_of c.in-Some.first.name c.in-Some.first.contents.now in
    let named = c.if-rest-eq-END.false in
    record {
      forward = λ whole says.
          subst (λ b. SaysWhole c.args.octets.now b)
          (ap (λ b. c.loop-rest.whole && (b && whole)) (sym c.allows-whole.ensures) ∙ sym (and_assoc c.loop-rest.whole c.allows-whole.result whole))
          (c.loop-rest.invariant.forward _ (forward rest after first whole named c.in-Some.ensures says));
      back = λ whole says.
          let left = c.loop-rest.invariant.back whole says in
          back rest after first left.0 named c.in-Some.ensures left.1;
    }

pub returns-clause-none : goal.returns-clause-none
returns-clause-none c = λ whole says.
    let rest = c.loop-rest.invariant.back whole says in
    nothing c.loop-rest.rest.now rest.0 (search rules) rest.1
