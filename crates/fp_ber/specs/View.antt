-- What an element of the program stands for.
use Rattle.std.specs.Prelude.{ℕ, List, [], ◌∷◌, map}
use Rattle.fp_ber.specs.declared.element.Class.{Class}
use Rattle.fp_ber.specs.declared.element.Element.{Element, fold-Element}
use Rattle.fp_ber.specs.declared.element.Body.{Body, fold-Body}
use Rattle.fp_ber.specs.declared.element.Body.TheOpen.{Body-F, Element-F}
use Rattle.fp_ber.specs.Tree.{Tree, Trees, primitive, constructed, none, more}

-- an element that still lacks its tag
abbrev pub Untagged : Type 0
Untagged = Class → ℕ → Tree

abbrev pub trees_of : List Tree → Trees
trees_of [] = none
trees_of (t ∷ ts) = more t (trees_of ts)

abbrev pub body_step : Body-F Untagged Tree → Untagged
body_step (Body-F.Primitive v) = λ class number. primitive class number v.items
body_step (Body-F.Constructed v) = λ class number. constructed class number (trees_of v.items)

abbrev pub element_step : Element-F Untagged Tree → Tree
element_step e = e.body e.class e.number

abbrev pub tree_of : Element → Tree
tree_of = fold-Element Untagged Tree body_step element_step

abbrev pub untagged : Body → Untagged
untagged = fold-Body Untagged Tree body_step element_step

abbrev pub forest_of : List Element → Trees
forest_of es = trees_of (map tree_of es)
