-- What elements that are lent stand for.
use Rattle.fp_ber.specs.declared.element_ref.ElementRef.{ElementRef}
use Rattle.fp_ber.specs.declared.element_ref.ElementRef.TheVariants as one
use Rattle.fp_ber.specs.declared.element_ref.Elements.{Elements}
use Rattle.fp_ber.specs.declared.element_ref.Elements.TheVariants as many
use Rattle.fp_ber.specs.Nodes.{head_of, heads_in, trees_in, tree_in}
use Rattle.fp_ber.specs.Tree.{Tree, Trees}
use Rattle.fp_ber.specs.View.{tree_of, forest_of}

-- an element that is lent
abbrev pub lent_tree : ElementRef → Tree
lent_tree (one.Owned element) = tree_of element.now
lent_tree (one.Node node below) = tree_in (head_of node.now) (heads_in below.now)

-- elements that are lent, one after another
abbrev pub lent_trees : Elements → Trees
lent_trees (many.Owned elements) = forest_of elements.now
lent_trees (many.Nodes nodes) = trees_in (heads_in nodes.now)
