-- The elements behind others, and which of them are user information.
use Rattle.std.proofs.Common.{◌≡◌, ◌↔◌, true, false, IsTrue, refl, is_some, Option, Some, None, MatchOption}
use Rattle.fp_ber.specs.declared.element.Class.TheVariants.{Context}
use Rattle.fp_ber.specs.Tree.{Tree, Trees, constructed, none, more, are_none}
use Rattle.fp_apdu.specs.Aarq.{user_information}

-- where there are elements, there are trees
pub some_behind : (rest : Trees) → false ≡ are_none rest → rest ≡ none → ⊥
some_behind none some h = cc
some_behind (more t ts) some h = cc

-- where there is no element behind the first, there is no tree behind it
pub none_from_empty : (rest : Trees) {members : Trees} {t : Tree} → true ≡ are_none rest → members ≡ more t rest → members ≡ more t none
none_from_empty none empty is = is
none_from_empty (more first ts) empty is = absurd (cc empty)

-- user information is one element
pub none_behind_information : (members : Trees) (t : Tree) (rest : Trees) → members ≡ more t rest
    → (information : Option Trees) → members ≡ user_information information → rest ≡ none
none_behind_information members t rest is None h = cc
none_behind_information members t rest is (Some contents) h = cc

-- and has the tag BE
tag_of_information : (members : Trees) (t : Tree) (rest : Trees) → members ≡ more t rest
    → (information : Option Trees) → members ≡ user_information information → (contents : Trees) × (t ≡ constructed Context 30 contents)
tag_of_information members t rest is None h = cc
tag_of_information members t rest is (Some contents) h = (contents, cc)

-- one element is user information exactly where contents of that tag were found
pub tells_information : {A : Type 0} (contents_of : A → Trees) (found : Option A) (members : Trees) (t : Tree) → members ≡ more t none
    → MatchOption found ((children : Trees) → t ≡ constructed Context 30 children → ⊥) (λ x. t ≡ constructed Context 30 (contents_of x))
    → IsTrue (is_some found) ↔ ((information : Option Trees) × (members ≡ user_information information))
tells_information contents_of None members t is n =
    (λ e. absurd (cc e), λ h. let tag = tag_of_information members t none is h.0 h.1 in absurd (n tag.0 tag.1))
tells_information contents_of (Some x) members t is same = (λ e. (Some (contents_of x), cc (is, same)), λ h. refl)
