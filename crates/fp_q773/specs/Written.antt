-- The element that a message is written as (Q.773, 4.2). Where the grammar leaves a choice: the code of an operation or
-- of an error, an integer, has as few octets as it takes (X.690, 8.3.2: the first nine bits are not all equal), no
-- components are no component portion, and a Unidirectional holds nothing.
use Rattle.std.specs.Prelude.{ℕ, ℤ, List, [], ◌∷◌, map, Option, Some, None}
use Rattle.fp_ber.specs.declared.element.Class.TheVariants.{Universal, Application, Context}
use Rattle.fp_ber.specs.Tree.{Tree, Trees, primitive, constructed, none, more}
use Rattle.fp_ber.specs.View.{trees_of}
use Rattle.fp_q773.specs.TwosComplement.{octets_in, least_octets}
use Rattle.fp_q773.specs.Value.{CodeValue, ProblemValue, ResultValue, ComponentValue, ReasonValue, MessageValue, local, global, tagged, returned, invoke, return_result_last, return_error, reject, return_result_not_last, faulty, provider, user, unidirectional, begin, end, continuing, abort}
use Rattle.fp_q773.specs.Grammar.{IsComponent}
use Rattle.fp_q773.specs.Writable.{only}

-- an invoke identifier: an integer of one octet
abbrev pub identifier_tree : ℤ → Tree
identifier_tree identifier = primitive Universal 2 (octets_in 1 identifier)

-- a linked identifier: the same with the tag 80
abbrev pub linked_tree : ℤ → Tree
linked_tree identifier = primitive Context 0 (octets_in 1 identifier)

-- a code: an integer, or an object identifier
abbrev pub code_tree : CodeValue → Tree
code_tree (local number) = primitive Universal 2 (least_octets number)
code_tree (global octets) = primitive Universal 6 octets

-- a code, and perhaps a parameter
abbrev pub coded_trees : CodeValue → Option Tree → Trees
coded_trees code parameter = more (code_tree code) (only parameter)

-- perhaps a linked identifier, and then a code and perhaps a parameter
abbrev pub asked_trees : Option ℤ → CodeValue → Option Tree → Trees
asked_trees None code parameter = coded_trees code parameter
asked_trees (Some linked) code parameter = more (linked_tree linked) (coded_trees code parameter)

-- nothing, or a sequence, tag 30, of a code and perhaps a parameter
abbrev pub returned_trees : Option ResultValue → Trees
returned_trees None = none
returned_trees (Some (returned code parameter)) = more (constructed Universal 16 (coded_trees code parameter)) none

-- an invoke identifier, or null, 05 00
abbrev pub rejected_tree : Option ℤ → Tree
rejected_tree None = primitive Universal 5 []
rejected_tree (Some identifier) = identifier_tree identifier

-- a problem: one octet, with a tag of 80 to 83
abbrev pub problem_tree : ProblemValue → Tree
problem_tree (tagged group code) = primitive Context group (code ∷ [])

-- what a ReturnResult holds
abbrev pub return_result_trees : ℤ → Option ResultValue → Trees
return_result_trees identifier result = more (identifier_tree identifier) (returned_trees result)

-- what a ReturnError holds
abbrev pub return_error_trees : ℤ → CodeValue → Option Tree → Trees
return_error_trees identifier code parameter = more (identifier_tree identifier) (coded_trees code parameter)

-- what a Reject holds
abbrev pub reject_trees : Option ℤ → ProblemValue → Trees
reject_trees identifier problem = more (rejected_tree identifier) (more (problem_tree problem) none)

-- a component: A1 Invoke, A2 ReturnResultLast, A3 ReturnError, A4 Reject, A7 ReturnResultNotLast. No faulty component
-- is written: what stands for it here, null, says nothing.
abbrev pub component_tree : ComponentValue → Tree
component_tree (invoke identifier linked code parameter) = constructed Context 1 (more (identifier_tree identifier) (asked_trees linked code parameter))
component_tree (return_result_last identifier result) = constructed Context 2 (return_result_trees identifier result)
component_tree (return_error identifier code parameter) = constructed Context 3 (return_error_trees identifier code parameter)
component_tree (reject identifier problem) = constructed Context 4 (reject_trees identifier problem)
component_tree (return_result_not_last identifier result) = constructed Context 7 (return_result_trees identifier result)
component_tree (faulty identifier problem) = primitive Universal 5 []

-- what is written for a component is read as that component
abbrev pub IsReadBack : ComponentValue → Type 0
IsReadBack component = IsComponent (component_tree component) component

-- components one after another
abbrev pub component_trees : List ComponentValue → Trees
component_trees components = trees_of (map component_tree components)

-- a component portion, tag 6C, or none, if there are no components
abbrev pub portion_trees : List ComponentValue → Trees
portion_trees [] = none
portion_trees (component ∷ others) = more (constructed Application 12 (component_trees (component ∷ others))) none

-- perhaps a dialogue portion, and perhaps a component portion
abbrev pub portions_trees : Option Tree → List ComponentValue → Trees
portions_trees None components = portion_trees components
portions_trees (Some dialogue) components = more dialogue (portion_trees components)

-- transaction identifiers: the originating one, tag 48, and the destination one, tag 49
abbrev pub originating_tree : List ℕ → Tree
originating_tree octets = primitive Application 8 octets

abbrev pub destination_tree : List ℕ → Tree
destination_tree octets = primitive Application 9 octets

-- nothing, a cause of one octet, tag 4A, or a dialogue portion
abbrev pub reason_trees : Option ReasonValue → Trees
reason_trees None = none
reason_trees (Some (provider cause)) = more (primitive Application 10 (cause ∷ [])) none
reason_trees (Some (user dialogue)) = more dialogue none

-- a message: 61 Unidirectional, which holds nothing, 62 Begin, 64 End, 65 Continue, 67 Abort
abbrev pub written : MessageValue → Tree
written unidirectional = constructed Application 1 none
written (begin originating dialogue components) = constructed Application 2 (more (originating_tree originating) (portions_trees dialogue components))
written (end destination dialogue components) = constructed Application 4 (more (destination_tree destination) (portions_trees dialogue components))
written (continuing originating destination dialogue components) =
    constructed Application 5 (more (originating_tree originating) (more (destination_tree destination) (portions_trees dialogue components)))
written (abort destination reason) = constructed Application 7 (more (destination_tree destination) (reason_trees reason))
