-- Elements as a list of nodes: each element without those in it, and then the nodes of those.
use Rattle.std.specs.Prelude.{◌≡◌, ℕ, zero, suc, Bool, true, false, List, [], ◌∷◌, ◌++◌, length, map, take, drop}
use Rattle.fp_ber.specs.declared.element.Class.{Class}
use Rattle.fp_ber.specs.declared.element.Class.TheVariants.{Universal}
use Rattle.fp_ber.specs.declared.node.Node.{Node}
use Rattle.fp_ber.specs.Tree.{Tree, Trees, primitive, constructed, none, more}
use Rattle.fp_ber.specs.Spelling.{Begins, BeginAll}

-- A node: the tag of an element, the octets that it holds if it is primitive, and how many of the nodes after it are
-- those of the elements in it.
pub record Head : Type 0 where
  pub class : Class
  pub form : Bool
  pub number : ℕ
  pub octets : List ℕ
  pub below : ℕ

-- a node of the program
abbrev pub head_of : Node → Head
head_of n = record {
  class = n.class;
  form = n.constructed;
  number = n.number;
  octets = n.octets.now;
  below = n.below;
}

abbrev pub heads_in : List Node → List Head
heads_in = map head_of

-- the node of an element without those in it
abbrev pub primitive_head : Class → ℕ → List ℕ → Head
primitive_head class number octets = record {
  class = class;
  form = false;
  number = number;
  octets = octets;
  below = 0;
}

-- the node of a constructed element, with the number of nodes of the elements in it
abbrev pub constructed_head : Class → ℕ → ℕ → Head
constructed_head class number below = record {
  class = class;
  form = true;
  number = number;
  octets = [];
  below = below;
}

abbrev mutual
  -- the nodes of an element
  pub heads_of : Tree → List Head
  heads_of (primitive class number octets) = primitive_head class number octets ∷ []
  heads_of (constructed class number children) =
      constructed_head class number (length (heads_of_all children)) ∷ heads_of_all children

  -- the nodes of elements, one after another
  pub heads_of_all : Trees → List Head
  heads_of_all none = []
  heads_of_all (more t ts) = heads_of t ++ heads_of_all ts

-- the element of this form, tag and octets, with these elements in it
abbrev pub element_with : Bool → Class → ℕ → List ℕ → Trees → Tree
element_with false class number octets children = primitive class number octets
element_with true class number octets children = constructed class number children

-- the element that a node is with these elements in it
abbrev pub tree_with : Head → Trees → Tree
tree_with head children = element_with head.form head.class head.number head.octets children

-- the elements that nodes are, if there are no more nodes than this
abbrev pub trees_by : ℕ → List Head → Trees
trees_by zero heads = none
trees_by (suc n) [] = none
trees_by (suc n) (head ∷ heads) =
    more (tree_with head (trees_by n (take head.below heads))) (trees_by n (drop head.below heads))

-- the elements that nodes are
abbrev pub trees_in : List Head → Trees
trees_in heads = trees_by (length heads) heads

-- the element that a node is with the nodes below it
abbrev pub tree_in : Head → List Head → Tree
tree_in head below = tree_with head (trees_in below)

-- the element that the first node is with all others below it
abbrev pub root_in : List Head → Tree
root_in [] = primitive Universal 0 []
root_in (head ∷ below) = tree_in head below

-- the element that the first node of the program is with all others below it
abbrev pub nodes_tree : List Node → Tree
nodes_tree nodes = root_in (heads_in nodes)

-- the node at a place is now that of an element of this tag with all nodes after it below it, and else nothing has changed
abbrev pub Closes : Class → ℕ → ℕ → List Head → List Head → Type 0
Closes class number place old new =
    (before after : List Head) (head : Head) → old ≡ before ++ head ∷ after → length before ≡ place
    → new ≡ before ++ constructed_head class number (length after) ∷ after

-- new has the nodes of old, and then those of an element at the front of the octets
pub record PutsNode (depth : ℕ) (octets : List ℕ) (old new : List Node) (rest : List ℕ) : Type 0 where
  pub tree : Tree
  pub begins : Begins depth octets tree rest
  pub put : heads_in new ≡ heads_in old ++ heads_of tree

-- the same of elements one after another
pub record PutsNodes (depth : ℕ) (octets : List ℕ) (old new : List Node) (rest : List ℕ) : Type 0 where
  pub trees : Trees
  pub begin : BeginAll depth octets trees rest
  pub put : heads_in new ≡ heads_in old ++ heads_of_all trees

-- an element without elements in it is at the front of the octets, and this is its node
pub record IsLeaf (octets : List ℕ) (node : Node) (rest : List ℕ) : Type 0 where
  pub tree : Tree
  pub begins : Begins 1 octets tree rest
  pub is : heads_of tree ≡ head_of node ∷ []
