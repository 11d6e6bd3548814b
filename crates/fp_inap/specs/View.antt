-- Parts of an element that were found, as values that don't depend on where they lie in memory.
use Rattle.std.specs.Prelude.{ℕ, List, [], ◌∷◌, Option, Some, None, option_map}
use Rattle.std.specs.Borrow.{Bor}
use Rattle.fp_ber.specs.declared.element_ref.ElementRef.{ElementRef}
use Rattle.fp_ber.specs.declared.element_ref.Elements.{Elements}
use Rattle.fp_ber.specs.Lent.{lent_tree, lent_trees}
use Rattle.fp_ber.specs.Tree.{Tree, Trees}

-- the octets, if any
abbrev pub octets_in : Option (Bor (List ℕ)) → Option (List ℕ)
octets_in = option_map (λ octets. octets.now)

-- the elements, if any
abbrev pub forest_in : Option Elements → Option Trees
forest_in = option_map lent_trees

-- the element, if any
abbrev pub found_in : Option ElementRef → List Tree
found_in None = []
found_in (Some element) = lent_tree element ∷ []
