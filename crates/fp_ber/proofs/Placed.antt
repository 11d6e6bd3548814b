-- Nodes that are put into places, one behind the other, are those of elements.
use Rattle.std.proofs.Common.{◌≡◌, ℕ, suc, ◌+◌, ◌-◌, ◌*◌, ◌<◌, ◌≤◌, Bool, true, false, List, [], ◌∷◌, ◌++◌, length, take, set, length-append, length-take-le, refl, sym, ◌∙◌, ap, append_assoc, append-nil, arith, inl, inr}
use Rattle.std.proofs.lemmas.List.{map-append, length-map, map-set}
use Rattle.std.proofs.Math.Seq.{take-set-lt, set-append_seam}
use Rattle.fp_ber.specs.declared.element.Class.{Class}
use Rattle.fp_ber.specs.declared.node.Node.{Node}
use Rattle.fp_ber.specs.Nodes.{Head, head_of, heads_in, heads_of, heads_of_all, primitive_head, constructed_head, Closes, IsLeaf, PutsNode, PutsNodes}
use Rattle.fp_ber.specs.Spelling.{IsTag, IsLength, Spells, SpellsAll, Begins, BeginsTag, BeginsLength}
use Rattle.fp_ber.specs.Tree.{Tree, Trees, primitive, constructed, none, more, trees_with}
use Rattle.fp_ber.proofs.Heads.{heads_of_all-push}
use Rattle.fp_ber.proofs.Parts.{one_more, none_yet, made_primitive, made_definite, made_indefinite}
use Rattle.fp_ber.proofs.Unique.{spelling_opens}

-- no element yet
pub no_node_yet : (depth : ℕ) (octets : List ℕ) (old : List Node) → PutsNodes depth octets old old octets
no_node_yet depth octets old = record {
  trees = none;
  begin = none_yet depth octets;
  put = sym (append-nil (heads_in old));
}

-- one more element behind others
pub one_more_node : (depth : ℕ) (octets rest after : List ℕ) (old mid new : List Node)
    → PutsNodes depth octets old mid rest → PutsNode depth rest mid new after → PutsNodes depth octets old new after
one_more_node depth octets rest after old mid new all one = record {
  trees = trees_with all.trees one.tree;
  begin = one_more depth octets rest after all.trees one.tree all.begin one.begins;
  put = one.put
      ∙ ap (λ hs. hs ++ heads_of one.tree) all.put
      ∙ append_assoc (heads_in old) (heads_of_all all.trees) (heads_of one.tree)
      ∙ ap (λ hs. heads_in old ++ hs) (sym (heads_of_all-push all.trees one.tree));
}

-- a node is put behind others
pub put_head : (old new : List Node) (n : Node) (h : Head) → new ≡ old ++ n ∷ [] → head_of n ≡ h → heads_in new ≡ heads_in old ++ h ∷ []
put_head old new n h pushed is =
    ap heads_in pushed ∙ map-append head_of old (n ∷ []) ∙ ap (λ (head : Head). heads_in old ++ head ∷ []) is

-- the node at a place, with all used nodes after it below it
pub closed : (class : Class) (number place used : ℕ) (places : List Node) (n : Node) → place < used → used ≤ length places
    → head_of n ≡ constructed_head class number (used - place - 1)
    → Closes class number place (heads_in (take used places)) (heads_in (take used (set places place n)))
closed class number place used places n inside fits is before after head e p =
    let old = take used places in
    let count : length (heads_in old) ≡ length before + suc (length after) = ap length e ∙ length-append before (head ∷ after) in
    let below : used - place - 1 ≡ length after = omega (arith, length-map old head_of, length-take-le used places fits) in
    ap heads_in (take-set-lt used places place n inside)
    ∙ map-set head_of old place n
    ∙ ap (λ hs. set hs place (head_of n)) e
    ∙ ap (λ (k : ℕ). set (before ++ head ∷ after) k (head_of n)) (sym p)
    ∙ set-append_seam before head after (head_of n)
    ∙ ap (λ (h : Head). before ++ h ∷ after) (is ∙ ap (constructed_head class number) below)

-- a primitive element
pub node_primitive : (depth : ℕ) (octets after contents rest : List ℕ) (class : Class) (form : Bool) (number : ℕ) (old new : List Node) (n : Node)
    → 0 < depth → form ≡ false → BeginsTag octets class form number after → BeginsLength after (length contents) (contents ++ rest)
    → new ≡ old ++ n ∷ [] → head_of n ≡ primitive_head class number contents → PutsNode depth octets old new rest
node_primitive depth octets after contents rest class form number old new n deep is tag size pushed head = record {
  tree = primitive class number contents;
  begins = made_primitive depth octets after contents rest class form number deep is tag size;
  put = put_head old new n (primitive_head class number contents) pushed head;
}

-- a primitive element with one octet of tag and one of length
pub leaf : (octets after contents rest : List ℕ) (n : Node) → n.constructed ≡ false → n.octets.now ≡ contents → n.below ≡ 0
    → BeginsTag octets n.class false n.number after → BeginsLength after (length contents) (contents ++ rest) → IsLeaf octets n rest
leaf octets after contents rest n form is below tag size = record {
  tree = primitive n.class n.number contents;
  begins = made_primitive 1 octets after contents rest n.class false n.number (omega arith) refl tag size;
  is = λ i. record {
    class = n.class;
    form = sym form i;
    number = n.number;
    octets = sym is i;
    below = sym below i;
  } ∷ [];
}

-- an element is put whose node was read
pub leaf_put : (depth : ℕ) (octets rest : List ℕ) (old new : List Node) (n : Node) → 0 < depth → IsLeaf octets n rest → new ≡ old ++ n ∷ []
    → PutsNode depth octets old new rest
leaf_put depth octets rest old new n deep is pushed = record {
  tree = is.tree;
  begins = record {
    text = is.begins.text;
    spelled = is.begins.spelled;
    nested = omega (arith, is.begins.nested);
    whole = is.begins.whole;
  };
  put = put_head old new n (head_of n) pushed refl ∙ ap (λ hs. heads_in old ++ hs) (sym is.is);
}

-- the nodes of a constructed element, where those of its elements are put between its own node and closing it
whole_put : (class : Class) (number place : ℕ) (old one all new : List Node) (n : Node) (ts : Trees)
    → one ≡ old ++ n ∷ [] → head_of n ≡ constructed_head class number 0 → heads_in all ≡ heads_in one ++ heads_of_all ts
    → place ≡ length old → Closes class number place (heads_in all) (heads_in new)
    → heads_in new ≡ heads_in old ++ heads_of (constructed class number ts)
whole_put class number place old one all new n ts pushed is inside at closes =
    let head = constructed_head class number 0 in
    let hs = heads_of_all ts in
    closes (heads_in old) hs head
    (inside ∙ ap (λ front. front ++ hs) (put_head old one n head pushed is) ∙ append_assoc (heads_in old) (head ∷ []) hs)
    (length-map old head_of ∙ sym at)

-- a constructed element of definite length
pub node_definite : (depth : ℕ) (octets after contents rest : List ℕ) (class : Class) (form : Bool) (number place : ℕ) (old one all new : List Node) (n : Node)
    → 0 < depth → form ≡ true → BeginsTag octets class form number after → BeginsLength after (length contents) (contents ++ rest)
    → one ≡ old ++ n ∷ [] → head_of n ≡ constructed_head class number 0 → PutsNodes (depth - 1) contents one all []
    → place ≡ length old → Closes class number place (heads_in all) (heads_in new) → PutsNode depth octets old new rest
node_definite depth octets after contents rest class form number place old one all new n deep is tag size pushed head inside at closes = record {
  tree = constructed class number inside.trees;
  begins = made_definite depth octets after contents rest class form number inside.trees deep is tag size inside.begin;
  put = whole_put class number place old one all new n inside.trees pushed head inside.put at closes;
}

-- a constructed element of indefinite length
pub node_indefinite : (depth : ℕ) (octets after contents rest : List ℕ) (class : Class) (form : Bool) (number place : ℕ) (old one all new : List Node) (n : Node)
    → 0 < depth → form ≡ true → BeginsTag octets class form number after → after ≡ 0x80 ∷ contents
    → one ≡ old ++ n ∷ [] → head_of n ≡ constructed_head class number 0 → PutsNodes (depth - 1) contents one all (0 ∷ 0 ∷ rest)
    → place ≡ length old → Closes class number place (heads_in all) (heads_in new) → PutsNode depth octets old new rest
node_indefinite depth octets after contents rest class form number place old one all new n deep is tag size pushed head inside at closes = record {
  tree = constructed class number inside.trees;
  begins = made_indefinite depth octets after contents rest class form number inside.trees deep is tag size inside.begin;
  put = whole_put class number place old one all new n inside.trees pushed head inside.put at closes;
}

-- How many they are

-- a tag and a length have an octet
tag_some : (tag : List ℕ) (class : Class) (form : Bool) (number : ℕ) → IsTag tag class form number → 0 < length tag
tag_some [] class form number h = absurd h
tag_some (a ∷ tag) class form number h = omega arith

length_some : (size : List ℕ) (n : ℕ) → IsLength size n → 0 < length size
length_some [] n h = absurd h
length_some (a ∷ size) n h = omega arith

pub behind_tag : (octets rest : List ℕ) (class : Class) (form : Bool) (number : ℕ) → BeginsTag octets class form number rest → length rest < length octets
behind_tag octets rest class form number h =
    omega (arith, ap length h.whole, length-append h.text rest, tag_some h.text class form number h.is_tag)

pub behind_length : (octets rest : List ℕ) (n : ℕ) → BeginsLength octets n rest → length rest < length octets
behind_length octets rest n h = omega (arith, ap length h.whole, length-append h.text rest, length_some h.text n h.is_length)

-- behind an element there are fewer octets
pub behind_element : (depth : ℕ) (octets rest : List ℕ) (t : Tree) → Begins depth octets t rest → length rest < length octets
behind_element depth octets rest t h =
    let s = spelling_opens h.text t h.spelled in
    omega (arith, ap length h.whole, length-append h.text rest, ap length s.whole)

mutual
  -- an element takes two octets for each of its nodes
  two_each : (t : Tree) (text : List ℕ) → Spells text t → 2 * length (heads_of t) ≤ length text
  two_each (primitive class number octets) text s =
      omega (
        arith,
        ap length s.2,
        length-append s.0 s.1,
        tag_some s.0 class false number s.3,
        ap length s.4.whole,
        length-append s.4.size octets,
        length_some s.4.size (length octets) s.4.is_length,
      )
  two_each (constructed class number children) text s =
      let inside = two_each_all children s.2 s.5 in
      let front = tag_some s.0 class true number s.4 in
      elim s.6 [
        | inl d ↦
            omega (
              arith,
              inside,
              front,
              ap length s.3,
              length-append s.0 s.1,
              ap length d.whole,
              length-append d.size s.2,
              length_some d.size (length s.2) d.is_length,
            )
        | inr d ↦
            omega (arith, inside, front, ap length s.3, length-append s.0 s.1, ap length d, length-append s.2 (0 ∷ 0 ∷ []))
      ]

  two_each_all : (ts : Trees) (text : List ℕ) → SpellsAll text ts → 2 * length (heads_of_all ts) ≤ length text
  two_each_all none text s = omega arith
  two_each_all (more t ts) text s =
      let one = two_each t s.0 s.3 in
      let others = two_each_all ts s.1 s.4 in
      omega (arith, one, others, ap length s.2, length-append s.0 s.1, length-append (heads_of t) (heads_of_all ts))

-- elements that were put took two octets for each of their nodes
pub two_each_put : (depth : ℕ) (octets rest : List ℕ) (old new : List Node) → PutsNodes depth octets old new rest
    → 2 * length new + length rest ≤ 2 * length old + length octets
two_each_put depth octets rest old new all =
    omega (
      arith,
      two_each_all all.trees all.begin.text all.begin.spelled,
      ap length all.begin.whole,
      length-append all.begin.text rest,
      ap length all.put,
      length-append (heads_in old) (heads_of_all all.trees),
      length-map old head_of,
      length-map new head_of,
    )

-- an element has a node
some_heads : (t : Tree) → 0 < length (heads_of t)
some_heads (primitive class number octets) = omega arith
some_heads (constructed class number children) = omega arith

-- an element that was put has a node
pub some_put : (depth : ℕ) (octets rest : List ℕ) (old new : List Node) → PutsNode depth octets old new rest → length old < length new
some_put depth octets rest old new one =
    let some = some_heads one.tree in
    omega (arith, some, ap length one.put, length-append (heads_in old) (heads_of one.tree), length-map old head_of, length-map new head_of)
