-- The element that is lent is that of the nodes.
use Rattle.std.proofs.Common.{sym, subst}
use Rattle.fp_entry.specs.Prepared.{IsElement}
use Rattle.fp_entry.proofs.Placed.{brought, failed}
use Rattle.fp_entry.proofs.prepared.read_placed.Goals as goal

pub returns-clause-ok : goal.returns-clause-ok
returns-clause-ok c = λ octets is.
    brought _ _ _ octets _ _ (subst (λ t. IsElement octets t) (sym c.of_nodes-element.ensures) is) c.read_element.ensures.ok

pub returns-clause-err : goal.returns-clause-err
returns-clause-err c = λ octets is. failed _ _ octets _ (subst (λ t. IsElement octets t) (sym c.of_nodes-element.ensures) is) c.read_element.ensures.err
