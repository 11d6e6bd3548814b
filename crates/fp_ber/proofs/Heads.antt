-- The nodes of elements are those elements.
use Rattle.std.proofs.Common.{◌≡◌, ℕ, zero, suc, ◌≤◌, ◌==◌, min, true, false, List, [], ◌∷◌, ◌++◌, length, take, drop, length-append, refl, sym, ◌∙◌, ap, append_assoc, append-nil, arith, inl, inr}
use Rattle.std.proofs.lemmas.Bool.{cases_lt}
use Rattle.std.proofs.lemmas.Bool.Decides.{nat_tests}
use Rattle.std.proofs.lemmas.List.{length-map, length-take, length-drop, take_min, take-map, drop-map}
use Rattle.std.proofs.Math.ListN.{drop_of_length-le}
use Rattle.std.proofs.Math.Seq.{take-append_seam, drop-append_seam, drop-length}
use Rattle.fp_ber.specs.declared.element.Class.{Class}
use Rattle.fp_ber.specs.declared.element.Element.{Element}
use Rattle.fp_ber.specs.declared.node.Node.{Node}
use Rattle.fp_ber.specs.Nodes.{Head, head_of, heads_in, heads_of, heads_of_all, element_with, tree_with, tree_in, trees_by, trees_in, root_in}
use Rattle.fp_ber.specs.Tree.{Tree, Trees, primitive, constructed, none, more, trees_with, class_of, number_of, are_none}
use Rattle.fp_ber.specs.View.{forest_of}

-- no nodes are no elements
by_none : (n : ℕ) → trees_by n [] ≡ none
by_none zero = refl
by_none (suc n) = refl

-- any number that there are no more nodes than gives the same elements
by_any : (m n : ℕ) (hs : List Head) → length hs ≤ m → length hs ≤ n → trees_by m hs ≡ trees_by n hs
by_any m n [] p q = by_none m ∙ sym (by_none n)
by_any zero n (h ∷ hs) p q = absurd (omega arith)
by_any (suc m) zero (h ∷ hs) p q = absurd (omega arith)
by_any (suc m) (suc n) (h ∷ hs) p q =
    let a = by_any m n (take h.below hs) (omega (arith, length-take h.below hs)) (omega (arith, length-take h.below hs)) in
    let b = by_any m n (drop h.below hs) (omega (arith, length-drop h.below hs)) (omega (arith, length-drop h.below hs)) in
    λ i. more (tree_with h (a i)) (b i)

mutual
  -- the nodes of an element, and others, are that element and those that the others are
  one_first : (t : Tree) (rest : List Head) (m n : ℕ) → length (heads_of t ++ rest) ≤ m → length rest ≤ n
      → trees_by m (heads_of t ++ rest) ≡ more t (trees_by n rest)
  one_first (primitive c k o) rest zero n p q = absurd (omega arith)
  one_first (primitive c k o) rest (suc m) n p q = ap (λ ts. more (primitive c k o) ts) (by_any m n rest (omega arith) q)
  one_first (constructed c k ts) rest zero n p q = absurd (omega arith)
  one_first (constructed c k ts) rest (suc m) n p q =
      let hs = heads_of_all ts in
      let l = length-append hs rest in
      let inside : trees_by m (take (length hs) (hs ++ rest)) ≡ ts = ap (trees_by m) (take-append_seam hs rest) ∙ all_back ts m (omega arith) in
      let behind : trees_by m (drop (length hs) (hs ++ rest)) ≡ trees_by n rest =
      ap (trees_by m) (drop-append_seam hs rest) ∙ by_any m n rest (omega arith) q in
      λ i. more (constructed c k (inside i)) (behind i)

  -- the nodes of elements are those elements
  all_back : (ts : Trees) (n : ℕ) → length (heads_of_all ts) ≤ n → trees_by n (heads_of_all ts) ≡ ts
  all_back none n p = by_none n
  all_back (more t ts) n p =
      let l = length-append (heads_of t) (heads_of_all ts) in
      one_first t (heads_of_all ts) n n p (omega arith) ∙ ap (λ rest. more t rest) (all_back ts n (omega arith))

-- the nodes of an element are that element
pub root_back : (t : Tree) → root_in (heads_of t) ≡ t
root_back (primitive c k o) = refl
root_back (constructed c k ts) = ap (λ children. constructed c k children) (all_back ts (length (heads_of_all ts)) (omega arith))

-- no more than all are left out
drop_min : {X : Type 0} (n : ℕ) (xs : List X) → drop (min n (length xs)) xs ≡ drop n xs
drop_min n xs = elim (cases_lt (length xs) n) [
  | inl less ↦
      let is : min n (length xs) ≡ length xs = omega arith in
      ap (λ k. drop k xs) is ∙ drop-length xs ∙ sym (drop_of_length-le xs (omega arith))
  | inr fits ↦
      let is : min n (length xs) ≡ n = omega arith in
      ap (λ k. drop k xs) is
]

-- the first of some nodes is an element with those that it has below it
pub first_of_nodes : (h : Head) (hs : List Head) (place : ℕ) → place ≡ min h.below (length hs)
    → trees_in (h ∷ hs) ≡ more (tree_in h (take place hs)) (trees_in (drop place hs))
first_of_nodes h hs place e =
    let front : take place hs ≡ take h.below hs = ap (λ n. take n hs) e ∙ take_min h.below hs in
    let back : drop place hs ≡ drop h.below hs = ap (λ n. drop n hs) e ∙ drop_min h.below hs in
    let inside : trees_by (length hs) (take h.below hs) ≡ trees_in (take place hs) =
    by_any (length hs) (length (take h.below hs)) (take h.below hs) (omega (arith, length-take h.below hs)) (omega arith) ∙ sym (ap trees_in front) in
    let behind : trees_by (length hs) (drop h.below hs) ≡ trees_in (drop place hs) =
    by_any (length hs) (length (drop h.below hs)) (drop h.below hs) (omega (arith, length-drop h.below hs)) (omega arith) ∙ sym (ap trees_in back) in
    λ i. more (tree_with h (inside i)) (behind i)

-- the same of the nodes of the program
pub first_of : (n : Node) (others : List Node) (place : ℕ) → place ≡ min n.below (length others)
    → trees_in (heads_in (n ∷ others)) ≡ more (tree_in (head_of n) (heads_in (take place others))) (trees_in (heads_in (drop place others)))
first_of n others place e =
    let is = first_of_nodes (head_of n) (heads_in others) place (e ∙ ap (λ l. min n.below l) (sym (length-map others head_of))) in
    is ∙ (λ i. more (tree_in (head_of n) (take-map head_of place others i)) (trees_in (drop-map head_of place others i)))

-- a node that isn't constructed is a primitive element, whatever is below it
pub primitive_node : (n : Node) (below : List Head) → n.constructed ≡ false
    → tree_in (head_of n) below ≡ primitive n.class n.number n.octets.now
primitive_node n below form = ap (λ f. element_with f n.class n.number n.octets.now (trees_in below)) form

-- one that is has the elements that the nodes below it are
pub constructed_node : (n : Node) (below : List Head) → n.constructed ≡ true
    → tree_in (head_of n) below ≡ constructed n.class n.number (trees_in below)
constructed_node n below form = ap (λ f. element_with f n.class n.number n.octets.now (trees_in below)) form

-- a tree by its own tag
pub own_primitive : (t : Tree) (class : Class) (number : ℕ) (octets : List ℕ) → t ≡ primitive class number octets
    → t ≡ primitive (class_of t) (number_of t) octets
own_primitive t class number octets e = e ∙ (λ i. primitive (class_of (sym e i)) (number_of (sym e i)) octets)

pub own_constructed : (t : Tree) (class : Class) (number : ℕ) (children : Trees) → t ≡ constructed class number children
    → t ≡ constructed (class_of t) (number_of t) children
own_constructed t class number children e = e ∙ (λ i. constructed (class_of (sym e i)) (number_of (sym e i)) children)

-- whether there is none
pub none_owned : (es : List Element) → (length es == 0) ≡ are_none (forest_of es)
none_owned [] = refl
none_owned (e ∷ es) = grind (arith, nat_tests)

-- the nodes of elements with one behind them
pub heads_of_all-push : (ts : Trees) (t : Tree) → heads_of_all (trees_with ts t) ≡ heads_of_all ts ++ heads_of t
heads_of_all-push none t = append-nil (heads_of t)
heads_of_all-push (more first ts) t =
    ap (λ hs. heads_of first ++ hs) (heads_of_all-push ts t) ∙ sym (append_assoc (heads_of first) (heads_of_all ts) (heads_of t))
