-- The elements of a frame, found in its octets.
use Rattle.std.proofs.Common.{◌≡◌, ℕ, ◌<◌, ◌≤◌, List, [], ◌∷◌, ◌++◌, drop, length, refl, sym, ap, ◌∙◌, arith}
use Rattle.std.proofs.lemmas.List.{append-nil}
use Rattle.fp_ber.specs.declared.element.Class.{Class}
use Rattle.fp_ber.specs.declared.element.Class.TheVariants.{Application}
use Rattle.fp_ber.specs.Canon.{canon, canon_of_all}
use Rattle.fp_ber.specs.Tree.{Tree, Trees, constructed, number_of}
use Rattle.fp_q773.specs.Value.{ComponentValue}
use Rattle.fp_q773.specs.Written.{component_trees, portion_trees}

-- these are the contents of whatever element comes first
abbrev pub ContentsOf : List ℕ → List ℕ → Type 0
ContentsOf octets contents =
    (class : Class) (number : ℕ) (children : Trees) (rest : List ℕ) → number < 31 → length octets < 65536
    → octets ≡ canon (constructed class number children) ++ rest → contents ≡ canon_of_all children ++ rest

-- these follow whatever element comes first
abbrev pub AfterElement : List ℕ → List ℕ → Type 0
AfterElement octets others =
    (element : Tree) (rest : List ℕ) → number_of element < 31 → length octets < 65536 → octets ≡ canon element ++ rest → others ≡ rest

pub no_octets : (octets : List ℕ) → length octets ≤ 0 → octets ≡ []
no_octets [] none = refl
no_octets (octet ∷ octets) none = absurd (omega arith)

-- the contents of an element that is alone
pub contents_alone : (octets contents : List ℕ) (class : Class) (number : ℕ) (children : Trees) → ContentsOf octets contents → number < 31
    → length octets < 65536 → octets ≡ canon (constructed class number children) → contents ≡ canon_of_all children
contents_alone octets contents class number children found small bound is =
    found class number children [] small bound (is ∙ sym (append-nil (canon (constructed class number children)))) ∙ append-nil (canon_of_all children)

-- the components in a component portion
pub contents_of_portion : (portion contents : List ℕ) (values : List ComponentValue) → ContentsOf portion contents → length contents ≤ length portion
    → length portion < 65536 → portion ≡ canon_of_all (portion_trees values) → contents ≡ canon_of_all (component_trees values)
contents_of_portion portion contents [] found most bound is =
    let none : length portion ≡ 0 = ap length is in no_octets contents (omega arith)
contents_of_portion portion contents (value ∷ values) found most bound is =
    found Application 12 (component_trees (value ∷ values)) [] (omega arith) bound is ∙ append-nil (canon_of_all (component_trees (value ∷ values)))

-- octets that are one element, whose length has one octet
abbrev pub IsOneShort : List ℕ → Type 0
IsOneShort octets =
    (class : Class) (number : ℕ) (children : Trees) (rest : List ℕ) → number < 31 → octets ≡ canon (constructed class number children) ++ rest
    → (drop 2 octets ≡ canon_of_all children) × (rest ≡ [])
