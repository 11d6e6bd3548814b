-- The nesting of the elements of a message that is sent.
use Rattle.std.proofs.Common.{ℕ, ◌≤◌, List, [], ◌∷◌, map, Option, Some, None, arith}
use Rattle.std.proofs.Math.Nat.{max-le}
use Rattle.std.specs.Prelude.{⊤}
use Rattle.fp_ber.specs.Tree.{HasTags, InRange, Tree, nesting, nesting_of_all}
use Rattle.fp_q773.specs.declared.problem.Problem.TheVariants as problems
use Rattle.fp_q773.specs.Value.{ComponentValue}
use Rattle.fp_q773.specs.Written.{component_tree, component_trees, portions_trees, written}
use Rattle.fp_reply.specs.Reply.{acceptance_portion, component_value, reply}
use Rattle.fp_service.specs.declared.component.Component.{Component}
use Rattle.fp_service.specs.declared.component.Component.TheVariants.{Invoke, Reject}
use Rattle.fp_service.specs.declared.instruction.Instruction.TheVariants as instructions
use Rattle.fp_service.specs.declared.request.AbortPortion.TheVariants.{Absent}
use Rattle.fp_service.specs.declared.request.Request.{Request}
use Rattle.fp_service.specs.declared.request.Request.TheVariants as requests

-- at most eight of a component, and of components one after another
nested_component : (c : Component) → nesting (component_tree (component_value c)) ≤ 8
nested_component (Invoke identifier (instructions.Connect destination)) = omega arith
nested_component (Reject None (problems.General p)) = omega arith
nested_component (Reject (Some identifier) (problems.General p)) = omega arith
nested_component other = omega arith

nested_components : (cs : List Component) → nesting_of_all (component_trees (map component_value cs)) ≤ 8
nested_components [] = omega arith
nested_components (c ∷ cs) = max-le (nested_component c) (nested_components cs)

-- at most eight of a dialogue portion
abbrev IsNested : Option Tree → Type 0
IsNested None = ⊤
IsNested (Some t) = nesting t ≤ 8

nested_acceptance : (name : Option (List ℕ)) → IsNested (acceptance_portion name)
nested_acceptance None = tt
nested_acceptance (Some name) = omega arith

-- at most nine of the portions
nested_portions : (dialogue : Option Tree) (values : List ComponentValue) → IsNested dialogue → nesting_of_all (component_trees values) ≤ 8
    → nesting_of_all (portions_trees dialogue values) ≤ 9
nested_portions None [] d c = omega arith
nested_portions None (value ∷ values) d c = omega (arith, c)
nested_portions (Some t) [] d c = omega (arith, d)
nested_portions (Some t) (value ∷ values) d c = omega (arith, d, c)

-- sixteen may lie inside each other, and fewer do
nested : (request : Request) (local : ℕ) (peer : List ℕ) → nesting (written (reply request local peer)) ≤ 16
nested (requests.Continue acceptance components) local peer =
    let portions = nested_portions (acceptance_portion acceptance) (map component_value components) (nested_acceptance acceptance) (nested_components components) in
    omega (arith, portions)
nested (requests.End acceptance components) local peer =
    let portions = nested_portions (acceptance_portion acceptance) (map component_value components) (nested_acceptance acceptance) (nested_components components) in
    omega (arith, portions)
nested (requests.Abort Absent) local peer = omega arith
nested other local peer = omega arith

-- so it is in range, if its tags are in range
pub reply_in_range : (request : Request) (local : ℕ) (peer : List ℕ) → HasTags (written (reply request local peer)) → InRange (written (reply request local peer))
reply_in_range request local peer tags = record {
  nested = nested request local peer;
  tags = tags;
}
