-- How many octets the parts of a message take.
use Rattle.std.proofs.Common.{◌≡◌, ℕ, ◌+◌, ◌<◌, ◌≤◌, Bool, true, false, List, [], ◌∷◌, ◌++◌, length, map, Option, Some, None, arith, length-append, if◌then◌else◌}
use Rattle.std.specs.Prelude.{⊤}
use Rattle.fp_ber.specs.declared.element.Class.{Class}
use Rattle.fp_ber.specs.declared.element.Class.TheVariants.{Application, Context}
use Rattle.fp_ber.specs.Canon.{canon, canon_of_all, with_header}
use Rattle.fp_ber.specs.Tree.{Tree, Trees, constructed, more, primitive}
use Rattle.fp_inap.specs.declared.operation_error.OperationError.TheVariants as errors
use Rattle.fp_inap.specs.Connect.{connect}
use Rattle.fp_inap.specs.Operation.{code_of}
use Rattle.fp_q773.specs.declared.problem.Problem.TheVariants as problems
use Rattle.fp_q773.specs.Room.{tree_room}
use Rattle.fp_q773.specs.Tid.{IsTid}
use Rattle.fp_q773.specs.Value.{ComponentValue, local}
use Rattle.fp_q773.specs.Written.{coded_trees, component_tree, component_trees, identifier_tree, portion_trees, portions_trees}
use Rattle.fp_reply.specs.Part.{AreComponents, IsArgument}
use Rattle.fp_reply.specs.Reply.{component_value}
use Rattle.fp_service.specs.Answer.{operation_of}
use Rattle.fp_service.specs.Components.{OneRequestsReport, requests_report}
use Rattle.fp_service.specs.declared.component.Component.{Component}
use Rattle.fp_service.specs.declared.component.Component.TheVariants.{Invoke, ReturnError, Reject}
use Rattle.fp_service.specs.declared.instruction.Instruction.TheVariants as instructions

-- a tag below 31 takes one octet, a length below 128 one, and a length below 256 at most two
short : (class : Class) (form : Bool) (number : ℕ) (contents : List ℕ) → number < 31 → length contents < 128
    → length (with_header class form number contents) ≡ 2 + length contents
short class form number contents small fits = grind (arith, length-append)

long : (class : Class) (form : Bool) (number : ℕ) (contents : List ℕ) → number < 31 → length contents < 256
    → length (with_header class form number contents) ≤ 3 + length contents
long class form number contents small fits = grind (arith, length-append)

-- an Invoke has its argument
abbrev pub HasArgument : Component → Type 0
HasArgument (Invoke identifier instruction) = IsArgument instruction
HasArgument other = ⊤

-- how many octets a component takes
pub component_size : (c : Component) → HasArgument c → length (canon (component_tree (component_value c))) ≤ (if requests_report c then 77 else 24)
component_size (Invoke identifier (instructions.Connect destination)) h =
    let inside = canon_of_all (more (identifier_tree identifier) (coded_trees (local (code_of (operation_of (instructions.Connect destination)))) (Some (connect destination)))) in
    let argument = length-append (canon (connect destination)) [] in
    let size = h.size in
    let whole = short Context true 1 inside (omega arith) (omega (arith, argument, size)) in omega (arith, argument, size, whole)
component_size (ReturnError identifier errors.MissingParameter) h = omega arith
component_size (Reject None (problems.General p)) h = omega arith
component_size (Reject (Some identifier) (problems.General p)) h = omega arith
component_size other h = omega arith

-- a component that may be a RequestReportBCSMEvent
either : (b : Bool) (n : ℕ) → n ≤ (if b then 77 else 24) → n ≤ 77
either true n h = h
either false n h = omega (arith, h)

-- the components of a message
pub components_size : (cs : List Component) → AreComponents cs → OneRequestsReport cs → length cs ≤ 2
    → length (canon_of_all (component_trees (map component_value cs))) ≤ 101
components_size [] sound one two = omega arith
components_size (c ∷ []) sound one two =
    let first = either (requests_report c) _ sound.0.size in
    let whole = length-append (canon (component_tree (component_value c))) [] in omega (arith, first, whole)
components_size (c ∷ d ∷ []) sound one two =
    let first = either (requests_report c) _ sound.0.size in
    let second = rw one at sound.1.0.size in
    let last = length-append (canon (component_tree (component_value d))) [] in
    let whole = length-append (canon (component_tree (component_value c))) (canon (component_tree (component_value d)) ++ []) in
    omega (arith, first, second, last, whole)
components_size (c ∷ d ∷ e ∷ others) sound one two = absurd (omega (arith, two))

-- perhaps a dialogue portion, and perhaps a component portion
portion_size : (cs : List ComponentValue) → length (canon_of_all (component_trees cs)) ≤ 101 → length (canon_of_all (portion_trees cs)) ≤ 103
portion_size [] h = omega arith
portion_size (c ∷ cs) h =
    let inside = canon_of_all (component_trees (c ∷ cs)) in
    let portion = short Application true 12 inside (omega arith) (omega (arith, h)) in
    let whole = length-append (with_header Application true 12 inside) [] in omega (arith, h, portion, whole)

pub portions_size : (dialogue : Option Tree) (cs : List ComponentValue) → tree_room dialogue ≤ 101 → length (canon_of_all (component_trees cs)) ≤ 101
    → length (canon_of_all (portions_trees dialogue cs)) ≤ 204
portions_size None cs d h = let portion = portion_size cs h in omega (arith, portion)
portions_size (Some t) cs d h =
    let portion = portion_size cs h in
    let both = length-append (canon t) (canon_of_all (portion_trees cs)) in omega (arith, d, portion, both)

-- a transaction identifier and other elements
pub identifier_size : (number : ℕ) (octets : List ℕ) (ts : Trees) (n : ℕ) → number < 31 → IsTid octets → length (canon_of_all ts) ≤ n
    → length (canon_of_all (more (primitive Application number octets) ts)) ≤ 6 + n
identifier_size number octets ts n small tid h =
    let most = tid.1 in
    let first = short Application false number octets small (omega (arith, most)) in
    let both = length-append (canon (primitive Application number octets)) (canon_of_all ts) in omega (arith, most, first, both, h)

-- the element of a message
pub message_size : (number : ℕ) (ts : Trees) → number < 31 → length (canon_of_all ts) ≤ 216 → length (canon (constructed Application number ts)) ≤ 219
message_size number ts small h = let whole = long Application true number (canon_of_all ts) small (omega (arith, h)) in omega (arith, h, whole)
