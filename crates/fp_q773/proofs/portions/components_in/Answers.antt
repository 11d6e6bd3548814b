-- One more component, and none left.
use Rattle.std.proofs.Common.{[], ◌∷◌, map, append-nil, subst}
use Rattle.std.proofs.lemmas.List.Elements.{All-append, All-cons, All-nil}
use Rattle.fp_ber.specs.Lent.{lent_trees}
use Rattle.fp_q773.specs.Grammar.{AreComponents}
use Rattle.fp_q773.specs.Named.{HasNamedProblem}
use Rattle.fp_q773.specs.View.{component_of}
use Rattle.fp_q773.proofs.Parts.{one_more_component}
use Rattle.fp_q773.proofs.portions.components_in.Goals as goal

pub members-preserved : goal.members-preserved
members-preserved c =
    let so_far = c.members.invariant in
    let one = c.read.ensures in record {
      found = rw c.in_ok-push.ensures.items (λ rest all.
          one_more_component _ _ _ rest (so_far.found (component_of _ ∷ rest) (rw c.in-Some.ensures (one.found, all))));
      named = rw c.in_ok-push.ensures.items
          (All-append HasNamedProblem _ _ so_far.named (All-cons HasNamedProblem _ [] one.named (All-nil HasNamedProblem)));
    }

pub returns-clause-found : goal.returns-clause-found
returns-clause-found c =
    subst (λ values. AreComponents (lent_trees c.args.members.now) values) (append-nil (map component_of c.members.components.items))
    (c.members.invariant.found [] (rw c.in_default.ensures tt))
