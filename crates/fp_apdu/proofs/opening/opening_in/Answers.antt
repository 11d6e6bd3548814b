use Rattle.std.proofs.Common.{ap, option_map}
use Rattle.fp_ber.specs.Lent.{lent_tree}
use Rattle.fp_apdu.proofs.Requests.{opens_nothing, opens_nothing_without}
use Rattle.fp_apdu.proofs.opening.opening_in.Goals as goal

pub returns-in_default-read-clause-only : goal.returns-in_default-read-clause-only
returns-in_default-read-clause-only c = λ opening h.
    absurd (opens_nothing _ _ _ (ap (option_map lent_tree) c.in-Some.is)
    (λ apdu version name e aarq. c.in_default-read.ensures apdu e) opening h)

pub returns-in_default-read-2-clause-only : goal.returns-in_default-read-2-clause-only
returns-in_default-read-2-clause-only c = λ opening h.
    absurd (opens_nothing_without _ _ _ _ (ap (option_map lent_tree) c.in-Some.is) c.in-Some-read.ensures
    c.in_default-read-2.ensures opening h)
