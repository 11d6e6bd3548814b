-- What holds of all elements holds of each.
use Rattle.std.proofs.Common.{◌≡◌, ℕ, zero, suc, ◌+◌, ◌<◌, ◌≤◌, List, [], ◌∷◌, ◌++◌, length, length-append, get_or, take, drop, refl, sym, ◌∙◌, ap, subst, arith}
use Rattle.std.proofs.lemmas.List.{take_more}
use Rattle.fp_ber.specs.declared.element.Element.{Element}
use Rattle.fp_ber.specs.Tree.{Tree, Trees, none, more, HasTags, AllHaveTags, trees_with}
use Rattle.fp_ber.specs.View.{tree_of, forest_of}
use Rattle.fp_ber.specs.Canon.{HasLengths, AllHaveLengths, canon, canon_of_all}
use Rattle.fp_ber.proofs.Parts.{forest_of-push}

-- the element at a place has a tag that elements have
pub tags_at : (es : List Element) (i : ℕ) (e : Element) → i < length es → AllHaveTags (forest_of es) → HasTags (tree_of (get_or es i e))
tags_at [] i e h all = absurd (omega arith)
tags_at (first ∷ es) zero e h all = all.0
tags_at (first ∷ es) (suc i) e h all = tags_at es i e (omega arith) all.1

-- the element at a place has lengths that four octets can say
pub lengths_at : (es : List Element) (i : ℕ) (e : Element) → i < length es → AllHaveLengths (forest_of es) → HasLengths (tree_of (get_or es i e))
lengths_at [] i e h all = absurd (omega arith)
lengths_at (first ∷ es) zero e h all = all.0
lengths_at (first ∷ es) (suc i) e h all = lengths_at es i e (omega arith) all.1

-- one more of the elements, as trees
pub forest_of-take : (es : List Element) (i : ℕ) (e : Element) → i < length es → e ≡ get_or es i e
    → forest_of (take (i + 1) es) ≡ trees_with (forest_of (take i es)) (tree_of e)
forest_of-take es i e h is = rw (take_more es i e h, ← is) (forest_of-push (take i es) e)

-- the element at a place and those behind it take no more octets than all
size_from : (es : List Element) (i : ℕ) (e : Element) → i < length es
    → length (canon (tree_of (get_or es i e))) + length (canon_of_all (forest_of (drop (suc i) es))) ≤ length (canon_of_all (forest_of es))
size_from [] i e h = absurd (omega arith)
size_from (first ∷ es) zero e h = omega (arith, length-append (canon (tree_of first)) (canon_of_all (forest_of es)))
size_from (first ∷ es) (suc i) e h =
    let rest = size_from es i e (omega arith) in omega (arith, rest, length-append (canon (tree_of first)) (canon_of_all (forest_of es)))

-- the same, where the place of those behind it has a name of its own
pub size_at : (es : List Element) (i n : ℕ) (e : Element) → i < length es → n ≡ suc i
    → length (canon (tree_of (get_or es i e))) + length (canon_of_all (forest_of (drop n es))) ≤ length (canon_of_all (forest_of es))
size_at es i n e h is =
    let P : ℕ → Type 0 = λ k. length (canon (tree_of (get_or es i e))) + length (canon_of_all (forest_of (drop k es))) ≤ length (canon_of_all (forest_of es)) in
    subst P (sym is) (size_from es i e h)

-- elements, and others behind them
abbrev pub trees_and : Trees → Trees → Trees
trees_and none others = others
trees_and (more t ts) others = more t (trees_and ts others)

-- none behind them
trees_and-none : (ts : Trees) → trees_and ts none ≡ ts
trees_and-none none = refl
trees_and-none (more t ts) = ap (λ rest. more t rest) (trees_and-none ts)

-- one behind them, and then the others
trees_and-push : (ts : Trees) (t : Tree) (others : Trees) → trees_and ts (more t others) ≡ trees_and (trees_with ts t) others
trees_and-push none t others = refl
trees_and-push (more first ts) t others = ap (λ rest. more first rest) (trees_and-push ts t others)

-- one copy more
pub one_copied : (all left rest : Trees) (copies : List Element) (copy : Element) (t : Tree) → all ≡ trees_and (forest_of copies) left → left ≡ more t rest
    → tree_of copy ≡ t → all ≡ trees_and (forest_of (copies ++ copy ∷ [])) rest
one_copied all left rest copies copy t whole is same =
    whole
    ∙ ap (λ ts. trees_and (forest_of copies) ts) (is ∙ ap (λ u. more u rest) (sym same))
    ∙ trees_and-push (forest_of copies) (tree_of copy) rest
    ∙ ap (λ ts. trees_and ts rest) (sym (forest_of-push copies copy))

-- all are copied
pub all_copied : (all left : Trees) (copies : List Element) → all ≡ trees_and (forest_of copies) left → left ≡ none → forest_of copies ≡ all
all_copied all left copies whole is = sym (whole ∙ ap (λ ts. trees_and (forest_of copies) ts) is ∙ trees_and-none (forest_of copies))
