-- An element says one thing.
use Rattle.std.proofs.Common.{◌≡◌, ℕ, ℤ, List, [], ◌∷◌, Option, Some, None, inl, inr, refl, sym, ◌∙◌, ap, subst}
use Rattle.fp_ber.specs.Tree.{Tree, Trees, none, more}
use Rattle.fp_ber.specs.Integer.{integer, signed}
use Rattle.fp_q773.specs.declared.problem.GeneralProblem.{GeneralProblem}
use Rattle.fp_q773.specs.Value.{CodeValue, ProblemValue, ResultValue, ComponentValue, ReasonValue, MessageValue, local, global, tagged, returned, invoke, return_result_last, return_error, reject, return_result_not_last, faulty, provider, user, unidirectional, begin, end, continuing, abort}
use Rattle.fp_q773.specs.Grammar.{IsIdentifier, IsLinked, IsCode, IsParameter, IsCoded, IsAsked, IsReturned, IsRejected, IsProblem, IsInvoke, IsReturnResult, IsReturnError, IsReject, IsRow, IsTabled, BeginsWith, IsFaulty, IsComponent, AreComponents, IsPortion, ArePortions, IsReason, IsEnd, IsMessage}
use Rattle.fp_q773.proofs.Fronts.{code_not_linked}
use Rattle.fp_q773.proofs.Parts.{portion_no_dialogue}

-- an element is one identifier
identifier_same : (t u : Tree) (m n : ℤ) → t ≡ u → IsIdentifier t m → IsIdentifier u n → m ≡ n
identifier_same t u m n is g h =
    let octets : g.0 ≡ h.0 = cc (is, g.1, h.1) in sym g.2 ∙ ap signed octets ∙ h.2

-- and one linked identifier
linked_same : (t u : Tree) (m n : ℤ) → t ≡ u → IsLinked t m → IsLinked u n → m ≡ n
linked_same t u m n is g h =
    let octets : g.0 ≡ h.0 = cc (is, g.1, h.1) in sym g.2 ∙ ap signed octets ∙ h.2

-- and one code
code_same : (t u : Tree) (c d : CodeValue) → t ≡ u → IsCode t c → IsCode u d → c ≡ d
code_same t u (local m) (local n) is g h =
    let octets : g.0 ≡ h.0 = cc (is, g.1, h.1) in
    let numbers : Some m ≡ Some n = sym g.2 ∙ ap integer octets ∙ h.2 in cc
code_same t u (local m) (global o) is g h = cc (is, g.1, h)
code_same t u (global o) (local n) is g h = cc (is, g, h.1)
code_same t u (global o) (global p) is g h = cc (is, g, h)

-- elements are one parameter
parameter_same : (ts us : Trees) (p q : Option Tree) → ts ≡ us → IsParameter ts p → IsParameter us q → p ≡ q
parameter_same ts us None None is g h = refl
parameter_same ts us None (Some q) is g h = cc (is, g, h)
parameter_same ts us (Some p) None is g h = cc (is, g, h)
parameter_same ts us (Some p) (Some q) is g h = cc (is, g, h)

-- what two readings of a code and a parameter say
record SameCoded (c d : CodeValue) (p q : Option Tree) : Type 0 where
  codes : c ≡ d
  parameters : p ≡ q

coded_same : (ts us : Trees) (c d : CodeValue) (p q : Option Tree) → ts ≡ us → IsCoded ts c p → IsCoded us d q → SameCoded c d p q
coded_same ts us c d p q is g h =
    let firsts : g.0 ≡ h.0 = cc (is, g.2, h.2) in
    let rests : g.1 ≡ h.1 = cc (is, g.2, h.2) in record {
      codes = code_same g.0 h.0 c d firsts g.3 h.3;
      parameters = parameter_same g.1 h.1 p q rests g.4 h.4;
    }

-- the same with a linked identifier
record SameAsked (l m : Option ℤ) (c d : CodeValue) (p q : Option Tree) : Type 0 where
  linked : l ≡ m
  codes : c ≡ d
  parameters : p ≡ q

asked_same : (ts us : Trees) (l m : Option ℤ) (c d : CodeValue) (p q : Option Tree) → ts ≡ us → IsAsked ts l c p → IsAsked us m d q → SameAsked l m c d p q
asked_same ts us None None c d p q is g h =
    let coded = coded_same ts us c d p q is g h in record { linked = refl; codes = coded.codes; parameters = coded.parameters }
asked_same ts us None (Some m) c d p q is g h =
    let firsts : g.0 ≡ h.0 = cc (is, g.2, h.2) in absurd (code_not_linked h.0 c m (subst (λ t. IsCode t c) firsts g.3) h.3)
asked_same ts us (Some l) None c d p q is g h =
    let firsts : h.0 ≡ g.0 = cc (is, g.2, h.2) in absurd (code_not_linked g.0 d l (subst (λ t. IsCode t d) firsts h.3) g.3)
asked_same ts us (Some l) (Some m) c d p q is g h =
    let firsts : g.0 ≡ h.0 = cc (is, g.2, h.2) in
    let rests : g.1 ≡ h.1 = cc (is, g.2, h.2) in
    let coded = coded_same g.1 h.1 c d p q rests g.4 h.4 in record {
      linked = ap (λ (z : ℤ). Some z) (linked_same g.0 h.0 l m firsts g.3 h.3);
      codes = coded.codes;
      parameters = coded.parameters;
    }

-- elements return one thing
returned_same : (ts us : Trees) (r s : Option ResultValue) → ts ≡ us → IsReturned ts r → IsReturned us s → r ≡ s
returned_same ts us None None is g h = refl
returned_same ts us None (Some (returned d q)) is g h = cc (is, g, h.1)
returned_same ts us (Some (returned c p)) None is g h = cc (is, g.1, h)
returned_same ts us (Some (returned c p)) (Some (returned d q)) is g h =
    let inside : g.0 ≡ h.0 = cc (is, g.1, h.1) in
    let coded = coded_same g.0 h.0 c d p q inside g.2 h.2 in
    let codes = coded.codes in
    let parameters = coded.parameters in cc

-- an element is one rejected identifier
rejected_same : (t u : Tree) (m n : Option ℤ) → t ≡ u → IsRejected t m → IsRejected u n → m ≡ n
rejected_same t u None None is g h = refl
rejected_same t u None (Some n) is g h = cc (is, g, h.1)
rejected_same t u (Some m) None is g h = cc (is, g.1, h)
rejected_same t u (Some m) (Some n) is g h = ap (λ (z : ℤ). Some z) (identifier_same t u m n is g h)

-- and one problem
problem_same : (t u : Tree) (p q : ProblemValue) → t ≡ u → IsProblem t p → IsProblem u q → p ≡ q
problem_same t u (tagged group code) (tagged group' code') is g h = cc (is, g.0, h.0)

-- one identifier stands first, or none does
begins_same : (ts us : Trees) (m n : Option ℤ) → ts ≡ us → BeginsWith ts m → BeginsWith us n → m ≡ n
begins_same ts us None None is g h = refl
begins_same ts us None (Some n) is g h = absurd (g h.0 h.1 n (is ∙ h.2) h.3)
begins_same ts us (Some m) None is g h = absurd (h g.0 g.1 m (sym is ∙ g.2) g.3)
begins_same ts us (Some m) (Some n) is g h =
    let firsts : g.0 ≡ h.0 = cc (is, g.2, h.2) in ap (λ (z : ℤ). Some z) (identifier_same g.0 h.0 m n firsts g.3 h.3)

-- an Invoke says one thing
invoke_same : (ts us : Trees) (i j : ℤ) (l m : Option ℤ) (c d : CodeValue) (p q : Option Tree) → ts ≡ us → IsInvoke ts i l c p → IsInvoke us j m d q
    → invoke i l c p ≡ invoke j m d q
invoke_same ts us i j l m c d p q is g h =
    let firsts : g.0 ≡ h.0 = cc (is, g.2, h.2) in
    let rests : g.1 ≡ h.1 = cc (is, g.2, h.2) in
    let identifiers = identifier_same g.0 h.0 i j firsts g.3 h.3 in
    let asked = asked_same g.1 h.1 l m c d p q rests g.4 h.4 in
    let linked = asked.linked in
    let codes = asked.codes in
    let parameters = asked.parameters in cc

-- what two readings of a ReturnResult say
record SameResult (i j : ℤ) (r s : Option ResultValue) : Type 0 where
  identifiers : i ≡ j
  results : r ≡ s

result_same : (ts us : Trees) (i j : ℤ) (r s : Option ResultValue) → ts ≡ us → IsReturnResult ts i r → IsReturnResult us j s → SameResult i j r s
result_same ts us i j r s is g h =
    let firsts : g.0 ≡ h.0 = cc (is, g.2, h.2) in
    let rests : g.1 ≡ h.1 = cc (is, g.2, h.2) in record {
      identifiers = identifier_same g.0 h.0 i j firsts g.3 h.3;
      results = returned_same g.1 h.1 r s rests g.4 h.4;
    }

-- a ReturnError says one thing
error_same : (ts us : Trees) (i j : ℤ) (c d : CodeValue) (p q : Option Tree) → ts ≡ us → IsReturnError ts i c p → IsReturnError us j d q
    → return_error i c p ≡ return_error j d q
error_same ts us i j c d p q is g h =
    let firsts : g.0 ≡ h.0 = cc (is, g.2, h.2) in
    let rests : g.1 ≡ h.1 = cc (is, g.2, h.2) in
    let identifiers = identifier_same g.0 h.0 i j firsts g.3 h.3 in
    let coded = coded_same g.1 h.1 c d p q rests g.4 h.4 in
    let codes = coded.codes in
    let parameters = coded.parameters in cc

-- a Reject says one thing
reject_same : (ts us : Trees) (i j : Option ℤ) (p q : ProblemValue) → ts ≡ us → IsReject ts i p → IsReject us j q → reject i p ≡ reject j q
reject_same ts us i j p q is g h =
    let firsts : g.0 ≡ h.0 = cc (is, g.2, h.2) in
    let seconds : g.1 ≡ h.1 = cc (is, g.2, h.2) in
    let identifiers = rejected_same g.0 h.0 i j firsts g.3 h.3 in
    let problems = problem_same g.1 h.1 p q seconds g.4 h.4 in cc

-- a row of the table has one of its tags
tabled : (t : Tree) (row : ComponentValue) → IsRow t row → (ts : Trees) × IsTabled t ts
tabled t (invoke identifier linked code parameter) h = (h.0, (1, h.1, inl refl))
tabled t (return_result_last identifier result) h = (h.0, (2, h.1, inr (inl refl)))
tabled t (return_error identifier code parameter) h = (h.0, (3, h.1, inr (inr (inl refl))))
tabled t (reject identifier problem) h = (h.0, (4, h.1, inr (inr (inr (inl refl)))))
tabled t (return_result_not_last identifier result) h = (h.0, (7, h.1, inr (inr (inr (inr refl)))))
tabled t (faulty identifier problem) h = absurd h

-- a row of the table is no faulty component
row_not_faulty : (t : Tree) (row : ComponentValue) (identifier : Option ℤ) (problem : GeneralProblem) → IsRow t row → IsFaulty t identifier problem → ⊥
row_not_faulty t row identifier problem h (inl f) =
    let at = tabled t row h in f.0 at.0 at.1
row_not_faulty t row identifier problem h (inr f) = f.2 row h

-- a faulty component says one thing
faulty_same : (t : Tree) (i j : Option ℤ) (p q : GeneralProblem) → IsFaulty t i p → IsFaulty t j q → faulty i p ≡ faulty j q
faulty_same t i j p q (inl g) (inl h) = cc (g.1, g.2, h.1, h.2)
faulty_same t i j p q (inl g) (inr h) = absurd (g.0 h.0 h.1)
faulty_same t i j p q (inr g) (inl h) = absurd (h.0 g.0 g.1)
faulty_same t i j p q (inr g) (inr h) =
    let inside : g.0 ≡ h.0 = cc (g.1.1, h.1.1) in
    let identifiers = begins_same g.0 h.0 i j inside g.3 h.3 in cc (g.4, h.4)

-- an element is one component
pub component_same : (t : Tree) (x y : ComponentValue) → IsComponent t x → IsComponent t y → x ≡ y
component_same t (invoke i l c p) (invoke j m d q) g h =
    let inside : g.0 ≡ h.0 = cc (g.1, h.1) in invoke_same g.0 h.0 i j l m c d p q inside g.2 h.2
component_same t (invoke i l c p) (return_result_last j s) g h = cc (g.1, h.1)
component_same t (invoke i l c p) (return_error j d q) g h = cc (g.1, h.1)
component_same t (invoke i l c p) (reject j q) g h = cc (g.1, h.1)
component_same t (invoke i l c p) (return_result_not_last j s) g h = cc (g.1, h.1)
component_same t (invoke i l c p) (faulty j' q') g h = absurd (row_not_faulty t (invoke i l c p) j' q' g h)
component_same t (return_result_last i r) (invoke j m d q) g h = cc (g.1, h.1)
component_same t (return_result_last i r) (return_result_last j s) g h =
    let inside : g.0 ≡ h.0 = cc (g.1, h.1) in
    let same = result_same g.0 h.0 i j r s inside g.2 h.2 in
    let identifiers = same.identifiers in
    let results = same.results in cc
component_same t (return_result_last i r) (return_error j d q) g h = cc (g.1, h.1)
component_same t (return_result_last i r) (reject j q) g h = cc (g.1, h.1)
component_same t (return_result_last i r) (return_result_not_last j s) g h = cc (g.1, h.1)
component_same t (return_result_last i r) (faulty j' q') g h = absurd (row_not_faulty t (return_result_last i r) j' q' g h)
component_same t (return_error i c p) (invoke j m d q) g h = cc (g.1, h.1)
component_same t (return_error i c p) (return_result_last j s) g h = cc (g.1, h.1)
component_same t (return_error i c p) (return_error j d q) g h =
    let inside : g.0 ≡ h.0 = cc (g.1, h.1) in error_same g.0 h.0 i j c d p q inside g.2 h.2
component_same t (return_error i c p) (reject j q) g h = cc (g.1, h.1)
component_same t (return_error i c p) (return_result_not_last j s) g h = cc (g.1, h.1)
component_same t (return_error i c p) (faulty j' q') g h = absurd (row_not_faulty t (return_error i c p) j' q' g h)
component_same t (reject i p) (invoke j m d q) g h = cc (g.1, h.1)
component_same t (reject i p) (return_result_last j s) g h = cc (g.1, h.1)
component_same t (reject i p) (return_error j d q) g h = cc (g.1, h.1)
component_same t (reject i p) (reject j q) g h =
    let inside : g.0 ≡ h.0 = cc (g.1, h.1) in reject_same g.0 h.0 i j p q inside g.2 h.2
component_same t (reject i p) (return_result_not_last j s) g h = cc (g.1, h.1)
component_same t (reject i p) (faulty j' q') g h = absurd (row_not_faulty t (reject i p) j' q' g h)
component_same t (return_result_not_last i r) (invoke j m d q) g h = cc (g.1, h.1)
component_same t (return_result_not_last i r) (return_result_last j s) g h = cc (g.1, h.1)
component_same t (return_result_not_last i r) (return_error j d q) g h = cc (g.1, h.1)
component_same t (return_result_not_last i r) (reject j q) g h = cc (g.1, h.1)
component_same t (return_result_not_last i r) (return_result_not_last j s) g h =
    let inside : g.0 ≡ h.0 = cc (g.1, h.1) in
    let same = result_same g.0 h.0 i j r s inside g.2 h.2 in
    let identifiers = same.identifiers in
    let results = same.results in cc
component_same t (return_result_not_last i r) (faulty j' q') g h = absurd (row_not_faulty t (return_result_not_last i r) j' q' g h)
component_same t (faulty i' p') (invoke j m d q) g h = absurd (row_not_faulty t (invoke j m d q) i' p' h g)
component_same t (faulty i' p') (return_result_last j s) g h = absurd (row_not_faulty t (return_result_last j s) i' p' h g)
component_same t (faulty i' p') (return_error j d q) g h = absurd (row_not_faulty t (return_error j d q) i' p' h g)
component_same t (faulty i' p') (reject j q) g h = absurd (row_not_faulty t (reject j q) i' p' h g)
component_same t (faulty i' p') (return_result_not_last j s) g h = absurd (row_not_faulty t (return_result_not_last j s) i' p' h g)
component_same t (faulty i p) (faulty j q) g h = faulty_same t i j p q g h

-- elements are one list of components
components_same : (ts us : Trees) (xs ys : List ComponentValue) → ts ≡ us → AreComponents ts xs → AreComponents us ys → xs ≡ ys
components_same none none [] [] is g h = refl
components_same none none [] (y ∷ ys) is g h = absurd h
components_same none none (x ∷ xs) ys is g h = absurd g
components_same none (more u us) xs ys is g h = cc
components_same (more t ts) none xs ys is g h = cc
components_same (more t ts) (more u us) [] ys is g h = absurd g
components_same (more t ts) (more u us) (x ∷ xs) [] is g h = absurd h
components_same (more t ts) (more u us) (x ∷ xs) (y ∷ ys) is g h =
    let firsts : u ≡ t = cc in
    let rests : ts ≡ us = cc in
    let first = component_same t x y g.0 (subst (λ z. IsComponent z y) firsts h.0) in
    let others = components_same ts us xs ys rests g.1 h.1 in cc

-- elements are one component portion
portion_same : (ts us : Trees) (xs ys : List ComponentValue) → ts ≡ us → IsPortion ts xs → IsPortion us ys → xs ≡ ys
portion_same ts us xs ys is (inl g) (inl h) = g.1 ∙ sym h.1
portion_same ts us xs ys is (inl g) (inr h) = cc (is, g.0, h.1)
portion_same ts us xs ys is (inr g) (inl h) = cc (is, g.1, h.0)
portion_same ts us xs ys is (inr g) (inr h) =
    let inside : g.0 ≡ h.0 = cc (is, g.1, h.1) in components_same g.0 h.0 xs ys inside g.2 h.2

-- what two readings of portions say
record SamePortions (d e : Option Tree) (xs ys : List ComponentValue) : Type 0 where
  dialogues : d ≡ e
  components : xs ≡ ys

portions_same : (ts us : Trees) (d e : Option Tree) (xs ys : List ComponentValue) → ts ≡ us → ArePortions ts d xs → ArePortions us e ys → SamePortions d e xs ys
portions_same ts us None None xs ys is g h = record { dialogues = refl; components = portion_same ts us xs ys is g h }
portions_same ts us None (Some e) xs ys is g h = absurd (portion_no_dialogue ts h.0 e (is ∙ h.1) h.2 xs g)
portions_same ts us (Some d) None xs ys is g h = absurd (portion_no_dialogue us g.0 d (sym is ∙ g.1) g.2 ys h)
portions_same ts us (Some d) (Some e) xs ys is g h =
    let rests : g.0 ≡ h.0 = cc (is, g.1, h.1) in record {
      dialogues = cc (is, g.1, h.1);
      components = portion_same g.0 h.0 xs ys rests g.3 h.3;
    }

-- what two readings of an End say
record SameEnd (a b : List ℕ) (d e : Option Tree) (xs ys : List ComponentValue) : Type 0 where
  identifiers : a ≡ b
  dialogues : d ≡ e
  components : xs ≡ ys

end_same : (ts us : Trees) (a b : List ℕ) (d e : Option Tree) (xs ys : List ComponentValue) → ts ≡ us → IsEnd ts a d xs → IsEnd us b e ys
    → SameEnd a b d e xs ys
end_same ts us a b d e xs ys is g h =
    let rests : g.0 ≡ h.0 = cc (is, g.1.0, h.1.0) in
    let portions = portions_same g.0 h.0 d e xs ys rests g.2 h.2 in record {
      identifiers = cc (is, g.1.0, h.1.0);
      dialogues = portions.dialogues;
      components = portions.components;
    }

-- elements are one reason
reason_same : (ts us : Trees) (r s : Option ReasonValue) → ts ≡ us → IsReason ts r → IsReason us s → r ≡ s
reason_same ts us None None is g h = refl
reason_same ts us None (Some (provider d)) is g h = cc (is, g, h)
reason_same ts us None (Some (user d)) is g h = cc (is, g, h.0)
reason_same ts us (Some (provider c)) None is g h = cc (is, g, h)
reason_same ts us (Some (user c)) None is g h = cc (is, g.0, h)
reason_same ts us (Some (provider c)) (Some (provider d)) is g h = cc (is, g, h)
reason_same ts us (Some (provider c)) (Some (user d)) is g h = cc (is, g, h.0, h.1.1)
reason_same ts us (Some (user c)) (Some (provider d)) is g h = cc (is, g.0, g.1.1, h)
reason_same ts us (Some (user c)) (Some (user d)) is g h = cc (is, g.0, h.0)

-- an element is one message
pub message_same : (t : Tree) (x y : MessageValue) → IsMessage t x → IsMessage t y → x ≡ y
message_same t unidirectional unidirectional g h = refl
message_same t unidirectional (begin b e ys) g h = cc (g.1, h.1)
message_same t unidirectional (end b e ys) g h = cc (g.1, h.1)
message_same t unidirectional (continuing b b' e ys) g h = cc (g.1, h.1)
message_same t unidirectional (abort b s) g h = cc (g.1, h.1)
message_same t (begin a d xs) unidirectional g h = cc (g.1, h.1)
message_same t (begin a d xs) (begin b e ys) g h =
    let inside : g.0 ≡ h.0 = cc (g.1, h.1) in
    let k = g.2 in
    let l = h.2 in
    let identifiers : a ≡ b = cc (inside, k.1.0, l.1.0) in
    let rests : k.0 ≡ l.0 = cc (inside, k.1.0, l.1.0) in
    let portions = portions_same k.0 l.0 d e xs ys rests k.2 l.2 in
    let dialogues = portions.dialogues in
    let components = portions.components in cc
message_same t (begin a d xs) (end b e ys) g h = cc (g.1, h.1)
message_same t (begin a d xs) (continuing b b' e ys) g h = cc (g.1, h.1)
message_same t (begin a d xs) (abort b s) g h = cc (g.1, h.1)
message_same t (end a d xs) unidirectional g h = cc (g.1, h.1)
message_same t (end a d xs) (begin b e ys) g h = cc (g.1, h.1)
message_same t (end a d xs) (end b e ys) g h =
    let inside : g.0 ≡ h.0 = cc (g.1, h.1) in
    let same = end_same g.0 h.0 a b d e xs ys inside g.2 h.2 in
    let identifiers = same.identifiers in
    let dialogues = same.dialogues in
    let components = same.components in cc
message_same t (end a d xs) (continuing b b' e ys) g h = cc (g.1, h.1)
message_same t (end a d xs) (abort b s) g h = cc (g.1, h.1)
message_same t (continuing a a' d xs) unidirectional g h = cc (g.1, h.1)
message_same t (continuing a a' d xs) (begin b e ys) g h = cc (g.1, h.1)
message_same t (continuing a a' d xs) (end b e ys) g h = cc (g.1, h.1)
message_same t (continuing a a' d xs) (continuing b b' e ys) g h =
    let inside : g.0 ≡ h.0 = cc (g.1, h.1) in
    let k = g.2 in
    let l = h.2 in
    let identifiers : a ≡ b = cc (inside, k.1.0, l.1.0) in
    let rests : k.0 ≡ l.0 = cc (inside, k.1.0, l.1.0) in
    let same = end_same k.0 l.0 a' b' d e xs ys rests k.2 l.2 in
    let destinations = same.identifiers in
    let dialogues = same.dialogues in
    let components = same.components in cc
message_same t (continuing a a' d xs) (abort b s) g h = cc (g.1, h.1)
message_same t (abort a r) unidirectional g h = cc (g.1, h.1)
message_same t (abort a r) (begin b e ys) g h = cc (g.1, h.1)
message_same t (abort a r) (end b e ys) g h = cc (g.1, h.1)
message_same t (abort a r) (continuing b b' e ys) g h = cc (g.1, h.1)
message_same t (abort a r) (abort b s) g h =
    let inside : g.0 ≡ h.0 = cc (g.1, h.1) in
    let k = g.2 in
    let l = h.2 in
    let identifiers : a ≡ b = cc (inside, k.1.0, l.1.0) in
    let rests : k.0 ≡ l.0 = cc (inside, k.1.0, l.1.0) in
    let reasons = reason_same k.0 l.0 r s rests k.2 l.2 in cc
