-- What stands first among elements, and what can't stand there.
use Rattle.std.proofs.Common.{◌≡◌, ℕ, ℤ, false, List, [], Option, Some, None, IfSome, IfNone, sym, subst}
use Rattle.fp_ber.specs.declared.element.Class.TheVariants.{Universal}
use Rattle.fp_ber.specs.Tree.{Tree, Trees, primitive, constructed, none, more, are_none}
use Rattle.fp_q773.specs.declared.coded.Coded.{Coded}
use Rattle.fp_q773.specs.Value.{CodeValue, ResultValue, ReasonValue, local, global, returned, provider, user}
use Rattle.fp_q773.specs.Grammar.{IsIdentifier, IsLinked, IsCode, IsCoded, IsAsked, IsReturned, IsRejected, IsReason}
use Rattle.fp_q773.proofs.Forests.{some_trees}

-- what isn't first doesn't stand first
pub not_first : (P : Tree → Type 0) (ts us : Trees) (a : Tree) → ts ≡ more a us → (P a → ⊥) → (first : Tree) (rest : Trees) → ts ≡ more first rest → P first → ⊥
not_first P ts us a is isnt first rest same h =
    let one : first ≡ a = cc in isnt (subst P one h)

-- what follows the first element
pub rest_same : (ts us : Trees) (a : Tree) → ts ≡ more a us → (first : Tree) (rest : Trees) → ts ≡ more first rest → rest ≡ us
rest_same ts us a is first rest same = cc

-- no identifier stands first
pub no_identifier : (ts us : Trees) (a : Tree) → ts ≡ more a us → ((identifier : ℤ) → IsIdentifier a identifier → ⊥)
    → (first : Tree) (rest : Trees) (identifier : ℤ) → ts ≡ more first rest → IsIdentifier first identifier → ⊥
no_identifier ts us a is isnt first rest identifier same h = not_first (λ t. IsIdentifier t identifier) ts us a is (isnt identifier) first rest same h

-- no linked identifier stands first
pub no_linked : (ts us : Trees) (a : Tree) → ts ≡ more a us → ((identifier : ℤ) → IsLinked a identifier → ⊥)
    → (first : Tree) (rest : Trees) (identifier : ℤ) → ts ≡ more first rest → IsLinked first identifier → ⊥
no_linked ts us a is isnt first rest identifier same h = not_first (λ t. IsLinked t identifier) ts us a is (isnt identifier) first rest same h

-- three elements are not two
pub three_are_not_two : (ts us : Trees) (a b x y : Tree) (others : Trees) → ts ≡ more a us → us ≡ more b others → are_none others ≡ false
    → ts ≡ more x (more y none) → ⊥
three_are_not_two ts us a b x y others one two some is =
    let empty : others ≡ none = cc in some_trees others some empty

-- three elements are no code with a parameter
pub three_are_not_coded : (ts us : Trees) (a b : Tree) (others : Trees) (code : CodeValue) (parameter : Option Tree) → ts ≡ more a us
    → us ≡ more b others → are_none others ≡ false → IsCoded ts code parameter → ⊥
three_are_not_coded ts us a b others code None one two some h = cc (h.2, h.4)
three_are_not_coded ts us a b others code (Some p) one two some h =
    let whole : ts ≡ more h.0 (more p none) = cc (h.2, h.4) in three_are_not_two ts us a b h.0 p others one two some whole

-- two elements are not what is returned
pub two_are_not_returned : (us : Trees) (b : Tree) (others : Trees) (value : Option ResultValue) → us ≡ more b others → are_none others ≡ false
    → IsReturned us value → ⊥
two_are_not_returned us b others None two some h = cc
two_are_not_returned us b others (Some (returned code parameter)) two some h =
    let is = h.1 in
    let empty : others ≡ none = cc in some_trees others some empty

-- two elements are no reason
pub two_are_no_reason : (us : Trees) (b : Tree) (others : Trees) (value : Option ReasonValue) → us ≡ more b others → are_none others ≡ false
    → IsReason us value → ⊥
two_are_no_reason us b others None two some h = cc
two_are_no_reason us b others (Some (provider cause)) two some h =
    let empty : others ≡ none = cc in some_trees others some empty
two_are_no_reason us b others (Some (user dialogue)) two some h =
    let is = h.0 in
    let empty : others ≡ none = cc in some_trees others some empty

-- a code is no linked identifier
pub code_not_linked : (t : Tree) (code : CodeValue) (linked : ℤ) → IsCode t code → IsLinked t linked → ⊥
code_not_linked t (local number) linked g h = cc (g.1, h.1)
code_not_linked t (global octets) linked g h = cc (g, h.1)

-- what stands behind a linked identifier, if one was taken off, is a code, perhaps with a parameter
pub asked_behind : (taken : Option ℤ) (before after : Trees)
    → IfSome taken (λ identifier. (first : Tree) × (before ≡ more first after) × IsLinked first identifier)
    → IfNone taken ((after ≡ before) × ((first : Tree) (rest : Trees) (identifier : ℤ) → before ≡ more first rest → IsLinked first identifier → ⊥))
    → (linked : Option ℤ) (code : CodeValue) (parameter : Option Tree) → IsAsked before linked code parameter → IsCoded after code parameter
asked_behind None before after s n None code p h = subst (λ t. IsCoded t code p) (sym n.0) h
asked_behind None before after s n (Some linked) code p h = absurd (n.1 h.0 h.1 linked h.2 h.3)
asked_behind (Some taken) before after s n None code p h =
    let is = h.2 in
    let same : h.0 ≡ s.0 = cc (s.1, h.2) in
    absurd (code_not_linked s.0 code taken (subst (λ t. IsCode t code) same h.3) s.2)
asked_behind (Some taken) before after s n (Some linked) code p h =
    let same : h.1 ≡ after = cc (s.1, h.2) in subst (λ t. IsCoded t code p) same h.4

-- an element that is neither null nor an identifier is no rejected identifier
pub no_rejected : (t : Tree) → ((octets : List ℕ) → t ≡ primitive Universal 5 octets → ⊥) → ((identifier : ℤ) → IsIdentifier t identifier → ⊥)
    → (identifier : Option ℤ) → IsRejected t identifier → ⊥
no_rejected t null other None h = null [] h
no_rejected t null other (Some identifier) h = other identifier h

-- the same of each value
no_value : (t : Tree) (ts : Trees) → t ≡ constructed Universal 16 ts → ((code : CodeValue) (parameter : Option Tree) → IsCoded ts code parameter → ⊥)
    → (value : ResultValue) → IsReturned (more t none) (Some value) → ⊥
no_value t ts is h (returned code parameter) k =
    let same : k.0 ≡ ts = cc (is, k.1) in h code parameter (subst (λ u. IsCoded u code parameter) same k.2)

-- what holds no code returns nothing
pub no_returned : (r : Option Coded) (t : Tree) (ts : Trees) → t ≡ constructed Universal 16 ts
    → IfNone r ((code : CodeValue) (parameter : Option Tree) → IsCoded ts code parameter → ⊥)
    → IfNone r ((value : ResultValue) → IsReturned (more t none) (Some value) → ⊥)
no_returned (Some c) t ts is h = tt
no_returned None t ts is h = λ value k. no_value t ts is h value k
