-- An element with a tag of the table of components and other contents than its own is a mistyped component.
use Rattle.std.proofs.Common.{◌≡◌, ℤ, Option, inl, inr, refl, sym, subst}
use Rattle.fp_ber.specs.declared.element.Class.TheVariants.{Context}
use Rattle.fp_ber.specs.Tree.{Tree, Trees, constructed}
use Rattle.fp_q773.specs.declared.problem.GeneralProblem.TheVariants.{MistypedComponent}
use Rattle.fp_q773.specs.Value.{CodeValue, ProblemValue, ResultValue, ComponentValue, invoke, return_result_last, return_error, reject, return_result_not_last, faulty}
use Rattle.fp_q773.specs.Grammar.{IsInvoke, IsReturnResult, IsReturnError, IsReject, IsRow, BeginsWith, IsComponent}

-- elements that no invoke holds are none under its tag
no_invoke : (ts : Trees) → ((identifier : ℤ) (linked : Option ℤ) (code : CodeValue) (parameter : Option Tree) → IsInvoke ts identifier linked code parameter → ⊥) → (row : ComponentValue)
    → IsRow (constructed Context 1 ts) row → ⊥
no_invoke ts isnt (invoke identifier linked code parameter) h =
    let same : h.0 ≡ ts = cc (h.1) in isnt identifier linked code parameter (subst (λ u. IsInvoke u identifier linked code parameter) same h.2)
no_invoke ts isnt (return_result_last identifier result) h = cc (h.1)
no_invoke ts isnt (return_error identifier code parameter) h = cc (h.1)
no_invoke ts isnt (reject identifier problem) h = cc (h.1)
no_invoke ts isnt (return_result_not_last identifier result) h = cc (h.1)
no_invoke ts isnt (faulty identifier problem) h = h

-- and so the element is a mistyped component
pub mistyped_invoke : (ts : Trees) (value : ComponentValue) → ((identifier : ℤ) (linked : Option ℤ) (code : CodeValue) (parameter : Option Tree) → IsInvoke ts identifier linked code parameter → ⊥)
    → ((identifier : Option ℤ) × BeginsWith ts identifier × (value ≡ faulty identifier MistypedComponent))
    → IsComponent (constructed Context 1 ts) value
mistyped_invoke ts value isnt is =
    let it : IsComponent (constructed Context 1 ts) (faulty is.0 MistypedComponent) = inr (ts, (1, refl, inl refl), no_invoke ts isnt, is.1, refl) in
    subst (λ v. IsComponent (constructed Context 1 ts) v) (sym is.2) it

-- elements that no return result last holds are none under its tag
no_return_result_last : (ts : Trees) → ((identifier : ℤ) (result : Option ResultValue) → IsReturnResult ts identifier result → ⊥) → (row : ComponentValue)
    → IsRow (constructed Context 2 ts) row → ⊥
no_return_result_last ts isnt (invoke identifier linked code parameter) h = cc (h.1)
no_return_result_last ts isnt (return_result_last identifier result) h =
    let same : h.0 ≡ ts = cc (h.1) in isnt identifier result (subst (λ u. IsReturnResult u identifier result) same h.2)
no_return_result_last ts isnt (return_error identifier code parameter) h = cc (h.1)
no_return_result_last ts isnt (reject identifier problem) h = cc (h.1)
no_return_result_last ts isnt (return_result_not_last identifier result) h = cc (h.1)
no_return_result_last ts isnt (faulty identifier problem) h = h

-- and so the element is a mistyped component
pub mistyped_return_result_last : (ts : Trees) (value : ComponentValue) → ((identifier : ℤ) (result : Option ResultValue) → IsReturnResult ts identifier result → ⊥)
    → ((identifier : Option ℤ) × BeginsWith ts identifier × (value ≡ faulty identifier MistypedComponent))
    → IsComponent (constructed Context 2 ts) value
mistyped_return_result_last ts value isnt is =
    let it : IsComponent (constructed Context 2 ts) (faulty is.0 MistypedComponent) = inr (ts, (2, refl, inr (inl refl)), no_return_result_last ts isnt, is.1, refl) in
    subst (λ v. IsComponent (constructed Context 2 ts) v) (sym is.2) it

-- elements that no return error holds are none under its tag
no_return_error : (ts : Trees) → ((identifier : ℤ) (code : CodeValue) (parameter : Option Tree) → IsReturnError ts identifier code parameter → ⊥) → (row : ComponentValue)
    → IsRow (constructed Context 3 ts) row → ⊥
no_return_error ts isnt (invoke identifier linked code parameter) h = cc (h.1)
no_return_error ts isnt (return_result_last identifier result) h = cc (h.1)
no_return_error ts isnt (return_error identifier code parameter) h =
    let same : h.0 ≡ ts = cc (h.1) in isnt identifier code parameter (subst (λ u. IsReturnError u identifier code parameter) same h.2)
no_return_error ts isnt (reject identifier problem) h = cc (h.1)
no_return_error ts isnt (return_result_not_last identifier result) h = cc (h.1)
no_return_error ts isnt (faulty identifier problem) h = h

-- and so the element is a mistyped component
pub mistyped_return_error : (ts : Trees) (value : ComponentValue) → ((identifier : ℤ) (code : CodeValue) (parameter : Option Tree) → IsReturnError ts identifier code parameter → ⊥)
    → ((identifier : Option ℤ) × BeginsWith ts identifier × (value ≡ faulty identifier MistypedComponent))
    → IsComponent (constructed Context 3 ts) value
mistyped_return_error ts value isnt is =
    let it : IsComponent (constructed Context 3 ts) (faulty is.0 MistypedComponent) = inr (ts, (3, refl, inr (inr (inl refl))), no_return_error ts isnt, is.1, refl) in
    subst (λ v. IsComponent (constructed Context 3 ts) v) (sym is.2) it

-- elements that no reject holds are none under its tag
no_reject : (ts : Trees) → ((identifier : Option ℤ) (problem : ProblemValue) → IsReject ts identifier problem → ⊥) → (row : ComponentValue)
    → IsRow (constructed Context 4 ts) row → ⊥
no_reject ts isnt (invoke identifier linked code parameter) h = cc (h.1)
no_reject ts isnt (return_result_last identifier result) h = cc (h.1)
no_reject ts isnt (return_error identifier code parameter) h = cc (h.1)
no_reject ts isnt (reject identifier problem) h =
    let same : h.0 ≡ ts = cc (h.1) in isnt identifier problem (subst (λ u. IsReject u identifier problem) same h.2)
no_reject ts isnt (return_result_not_last identifier result) h = cc (h.1)
no_reject ts isnt (faulty identifier problem) h = h

-- and so the element is a mistyped component
pub mistyped_reject : (ts : Trees) (value : ComponentValue) → ((identifier : Option ℤ) (problem : ProblemValue) → IsReject ts identifier problem → ⊥)
    → ((identifier : Option ℤ) × BeginsWith ts identifier × (value ≡ faulty identifier MistypedComponent))
    → IsComponent (constructed Context 4 ts) value
mistyped_reject ts value isnt is =
    let it : IsComponent (constructed Context 4 ts) (faulty is.0 MistypedComponent) = inr (ts, (4, refl, inr (inr (inr (inl refl)))), no_reject ts isnt, is.1, refl) in
    subst (λ v. IsComponent (constructed Context 4 ts) v) (sym is.2) it

-- elements that no return result not last holds are none under its tag
no_return_result_not_last : (ts : Trees) → ((identifier : ℤ) (result : Option ResultValue) → IsReturnResult ts identifier result → ⊥) → (row : ComponentValue)
    → IsRow (constructed Context 7 ts) row → ⊥
no_return_result_not_last ts isnt (invoke identifier linked code parameter) h = cc (h.1)
no_return_result_not_last ts isnt (return_result_last identifier result) h = cc (h.1)
no_return_result_not_last ts isnt (return_error identifier code parameter) h = cc (h.1)
no_return_result_not_last ts isnt (reject identifier problem) h = cc (h.1)
no_return_result_not_last ts isnt (return_result_not_last identifier result) h =
    let same : h.0 ≡ ts = cc (h.1) in isnt identifier result (subst (λ u. IsReturnResult u identifier result) same h.2)
no_return_result_not_last ts isnt (faulty identifier problem) h = h

-- and so the element is a mistyped component
pub mistyped_return_result_not_last : (ts : Trees) (value : ComponentValue) → ((identifier : ℤ) (result : Option ResultValue) → IsReturnResult ts identifier result → ⊥)
    → ((identifier : Option ℤ) × BeginsWith ts identifier × (value ≡ faulty identifier MistypedComponent))
    → IsComponent (constructed Context 7 ts) value
mistyped_return_result_not_last ts value isnt is =
    let it : IsComponent (constructed Context 7 ts) (faulty is.0 MistypedComponent) = inr (ts, (7, refl, inr (inr (inr (inr refl)))), no_return_result_not_last ts isnt, is.1, refl) in
    subst (λ v. IsComponent (constructed Context 7 ts) v) (sym is.2) it
