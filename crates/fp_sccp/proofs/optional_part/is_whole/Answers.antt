use Rattle.std.proofs.Common.{drop, ◌+◌, rules, sym, subst, ap, ◌∙◌}
use Rattle.std.proofs.lemmas.List.{take_rest}
use Rattle.fp_sccp.specs.OptionalPart.{SaysWhole}
use Rattle.fp_sccp.proofs.Parameters.{no_optional_part, past_the_end}
use Rattle.fp_sccp.proofs.optional_part.is_whole.Goals as goal

pub returns-then-octets-pointer-clause-none : goal.returns-then-octets-pointer-clause-none
returns-then-octets-pointer-clause-none c = λ whole.
    no_optional_part c.args.octets.now whole (search rules) (λ other. past_the_end c.args.octets.now other (search rules))

pub returns-in_default-clause-none : goal.returns-in_default-clause-none
returns-in_default-clause-none c = λ whole.
    let place = 6 + c.from-pointer.result in
    no_optional_part c.args.octets.now whole (search rules) (λ other says.
    c.in_default.ensures.none other (subst (λ o. SaysWhole o other)
    (ap (λ n. drop (6 + n) c.args.octets.now) (sym c.from-pointer.ensures) ∙ sym (take_rest c.args.octets.now place)) says))
