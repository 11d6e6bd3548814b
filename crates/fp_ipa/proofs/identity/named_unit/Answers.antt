use Rattle.std.proofs.Common.{◌∙◌, ap, sym}
use Rattle.std.specs.Prelude.{Some}
use Rattle.fp_ipa.proofs.UnitNames.{names_none}
use Rattle.fp_ipa.proofs.identity.named_unit.Goals as goal

pub returns-in_default : goal.returns-in_default
returns-in_default c = λ unit named. c.in_default.ensures.none named.0 named.1

pub returns-in_default-place_of : goal.returns-in_default-place_of
returns-in_default-place_of c = λ unit named.
    names_none c.args.names.now c.args.contents.now c.in-Some.value.now unit c.in-Some.ensures.found
    (λ place e. c.in_default-place_of.ensures place (e ∙ ap Some (sym c.without_octet_at_end.ensures))) named
