-- A constructed element has no octets: its tree says so.
use Rattle.std.proofs.Common.{rules}
use Rattle.fp_ber.specs.View.{forest_of}
use Rattle.fp_ber.specs.declared.element.Element.{the_lemmas}
use Rattle.fp_ber.proofs.element.Element.octets.Goals as goal

pub returns-in-Constructed : goal.returns-in-Constructed
returns-in-Constructed c =
    (forest_of c.in-Constructed.field-0.items, rw c.in-Constructed.is (search (rules, the_lemmas)))
