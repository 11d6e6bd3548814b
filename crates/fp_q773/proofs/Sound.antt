-- What is written is read as what it was written for.
use Rattle.std.proofs.Common.{ℕ, ℤ, suc, List, [], ◌∷◌, Option, Some, None, All, inl, inr, refl, arith}
use Rattle.fp_ber.specs.Tree.{Tree, none}
use Rattle.fp_q773.specs.Tid.{IsTid}
use Rattle.fp_q773.specs.Value.{CodeValue, ResultValue, ComponentValue, returned, return_result_last, return_result_not_last, unidirectional, begin, end, continuing}
use Rattle.fp_q773.specs.Writable.{only, IsWritableDialogue}
use Rattle.fp_q773.specs.Written.{code_tree, linked_tree, coded_trees, asked_trees, returned_trees, return_result_trees, component_trees, portion_trees, portions_trees, written, IsReadBack}
use Rattle.fp_q773.specs.Grammar.{IsLinked, IsCode, IsParameter, IsCoded, IsAsked, IsReturned, IsReturnResult, AreComponents, IsPortion, ArePortions, IsMessage}

parameter_sound : (parameter : Option Tree) → IsParameter (only parameter) parameter
parameter_sound None = refl
parameter_sound (Some t) = refl

-- a code, and perhaps a parameter
pub coded_sound : (code : CodeValue) (parameter : Option Tree) → IsCode (code_tree code) code → IsCoded (coded_trees code parameter) code parameter
coded_sound code parameter is = (code_tree code, only parameter, refl, is, parameter_sound parameter)

-- a linked identifier before them
pub asked_sound : (linked : ℤ) (code : CodeValue) → IsLinked (linked_tree linked) linked → IsCode (code_tree code) code → (parameter : Option Tree)
    → IsAsked (asked_trees (Some linked) code parameter) (Some linked) code parameter
asked_sound linked code is code_is parameter = (linked_tree linked, coded_trees code parameter, refl, is, coded_sound code parameter code_is)

-- a sequence of them
pub returned_sound : (code : CodeValue) (parameter : Option Tree) → IsCoded (coded_trees code parameter) code parameter
    → IsReturned (returned_trees (Some (returned code parameter))) (Some (returned code parameter))
returned_sound code parameter is = (coded_trees code parameter, refl, is)

-- what a ReturnResult holds, under either tag
pub return_result_last_sound : (identifier : ℤ) (result : Option ResultValue) → IsReturnResult (return_result_trees identifier result) identifier result
    → IsReadBack (return_result_last identifier result)
return_result_last_sound identifier result is = (return_result_trees identifier result, refl, is)

pub return_result_not_last_sound : (identifier : ℤ) (result : Option ResultValue) → IsReturnResult (return_result_trees identifier result) identifier result
    → IsReadBack (return_result_not_last identifier result)
return_result_not_last_sound identifier result is = (return_result_trees identifier result, refl, is)

components_sound : (components : List ComponentValue) → All IsReadBack components → AreComponents (component_trees components) components
components_sound [] all = tt
components_sound (first ∷ others) all = (all 0 first (omega arith), components_sound others (λ k d h. all (suc k) d (omega arith)))

portion_sound : (components : List ComponentValue) → All IsReadBack components → IsPortion (portion_trees components) components
portion_sound [] all = inl (refl, refl)
portion_sound (first ∷ others) all = inr (component_trees (first ∷ others), refl, components_sound (first ∷ others) all)

portions_sound : (dialogue : Option Tree) (components : List ComponentValue) → IsWritableDialogue dialogue → All IsReadBack components
    → ArePortions (portions_trees dialogue components) dialogue components
portions_sound None components w all = portion_sound components all
portions_sound (Some dialogue) components w all = (portion_trees components, refl, w, portion_sound components all)

-- a Unidirectional
pub unidirectional_sound : IsMessage (written unidirectional) unidirectional
unidirectional_sound = (none, refl)

-- a Begin
pub begin_sound : (originating : List ℕ) → IsTid originating → (dialogue : Option Tree) (components : List ComponentValue) → IsWritableDialogue dialogue
    → All IsReadBack components → IsMessage (written (begin originating dialogue components)) (begin originating dialogue components)
begin_sound originating tid dialogue components w all =
    (_, refl, (portions_trees dialogue components, (refl, tid), portions_sound dialogue components w all))

-- an End
pub end_sound : (destination : List ℕ) → IsTid destination → (dialogue : Option Tree) (components : List ComponentValue) → IsWritableDialogue dialogue
    → All IsReadBack components → IsMessage (written (end destination dialogue components)) (end destination dialogue components)
end_sound destination tid dialogue components w all =
    (_, refl, (portions_trees dialogue components, (refl, tid), portions_sound dialogue components w all))

-- a Continue
pub continue_sound : (originating destination : List ℕ) → IsTid originating → IsTid destination → (dialogue : Option Tree) (components : List ComponentValue)
    → IsWritableDialogue dialogue → All IsReadBack components
    → IsMessage (written (continuing originating destination dialogue components)) (continuing originating destination dialogue components)
continue_sound originating destination tid tid' dialogue components w all = (
  _,
  refl,
  (_, (refl, tid), (portions_trees dialogue components, (refl, tid'), portions_sound dialogue components w all)),
)
