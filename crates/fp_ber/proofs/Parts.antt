-- An element from its parts, a fault of an element from a fault of a part, and one more element behind others.
use Rattle.std.proofs.Common.{◌≡◌, ℕ, zero, suc, ◌-◌, ◌<◌, ◌≤◌, Bool, true, false, List, [], ◌∷◌, ◌++◌, length, refl, sym, ◌∙◌, ap, subst, append_assoc, append-nil, arith, inl, inr}
use Rattle.fp_ber.specs.declared.element.Class.{Class}
use Rattle.fp_ber.specs.declared.element.Element.{Element}
use Rattle.fp_ber.specs.declared.fault.BerFault.{BerFault}
use Rattle.fp_ber.specs.Tree.{Tree, Trees, primitive, constructed, none, more, trees_with, nesting, nesting_of_all, IsTagNumber, HasTags, AllHaveTags, InRange}
use Rattle.fp_ber.specs.View.{tree_of, forest_of}
use Rattle.fp_ber.specs.Spelling.{Spells, SpellsAll, Begins, BeginAll, BeginsTag, BeginsLength, IsTag}
use Rattle.fp_ber.specs.Faults.{TagFault, ElementFault, BodyFault, InContents, InOpen}
use Rattle.fp_ber.specs.Extents.{ExtentFault}

-- an element behind elements, as trees
pub forest_of-push : (es : List Element) (e : Element) → forest_of (es ++ e ∷ []) ≡ trees_with (forest_of es) (tree_of e)
forest_of-push [] e = refl
forest_of-push (first ∷ es) e = ap (λ (ts : Trees). more (tree_of first) ts) (forest_of-push es e)

-- a spelling behind spellings
SpellsAll-push : (ts : Trees) (t : Tree) (a b : List ℕ) → SpellsAll a ts → Spells b t → SpellsAll (a ++ b) (trees_with ts t)
SpellsAll-push none t a b all one =
    let empty : a ≡ [] = all in (b, [], ap (λ (z : List ℕ). z ++ b) empty ∙ sym (append-nil b), one, refl)
SpellsAll-push (more first ts) t a b all one =
    let front = all.0 in
    let back = all.1 in (
      front,
      back ++ b,
      ap (λ (z : List ℕ). z ++ b) all.2 ∙ append_assoc front back b,
      all.3,
      SpellsAll-push ts t back b all.4 one,
    )

-- the nesting of elements with one behind them
nesting_of_all-push : (ts : Trees) (t : Tree) (depth : ℕ) → nesting_of_all ts ≤ depth → nesting t ≤ depth → nesting_of_all (trees_with ts t) ≤ depth
nesting_of_all-push none t depth all one = omega arith
nesting_of_all-push (more first ts) t depth all one =
    let rest = nesting_of_all-push ts t depth (omega arith) one in omega arith

-- whole elements, and one more
pub one_more : (depth : ℕ) (octets rest after : List ℕ) (ts : Trees) (t : Tree) → BeginAll depth octets ts rest → Begins depth rest t after
    → BeginAll depth octets (trees_with ts t) after
one_more depth octets rest after ts t all one = record {
  text = all.text ++ one.text;
  spelled = SpellsAll-push ts t all.text one.text all.spelled one.spelled;
  nested = nesting_of_all-push ts t depth all.nested one.nested;
  whole = all.whole ∙ ap (λ (z : List ℕ). all.text ++ z) one.whole ∙ sym (append_assoc all.text one.text after);
}

-- no element at all stands at the front of any octets
pub none_yet : (depth : ℕ) (octets : List ℕ) → BeginAll depth octets none octets
none_yet depth octets = record {
  text = [];
  spelled = refl;
  nested = omega arith;
  whole = refl;
}

-- a tag, a definite length, and octets
pub made_primitive : (depth : ℕ) (bytes after contents rest : List ℕ) (class : Class) (form : Bool) (number : ℕ) → 0 < depth → form ≡ false
    → BeginsTag bytes class form number after → BeginsLength after (length contents) (contents ++ rest)
    → Begins depth bytes (primitive class number contents) rest
made_primitive depth bytes after contents rest class form number deep is tag size = record {
  text = tag.text ++ (size.text ++ contents);
  spelled = (
    tag.text,
    size.text ++ contents,
    refl,
    subst (λ f. IsTag tag.text class f number) is tag.is_tag,
    record {
      size = size.text;
      is_length = size.is_length;
      whole = refl;
    },
  );
  nested = omega arith;
  whole = tag.whole
      ∙ ap (λ (z : List ℕ). tag.text ++ z) (size.whole ∙ sym (append_assoc size.text contents rest))
      ∙ sym (append_assoc tag.text (size.text ++ contents) rest);
}

-- a tag, a definite length, and elements in the contents
pub made_definite : (depth : ℕ) (bytes after contents rest : List ℕ) (class : Class) (form : Bool) (number : ℕ) (ts : Trees) → 0 < depth → form ≡ true
    → BeginsTag bytes class form number after → BeginsLength after (length contents) (contents ++ rest) → BeginAll (depth - 1) contents ts []
    → Begins depth bytes (constructed class number ts) rest
made_definite depth bytes after contents rest class form number ts deep is tag size inside = record {
  text = tag.text ++ (size.text ++ contents);
  spelled = (
    tag.text,
    size.text ++ contents,
    contents,
    refl,
    subst (λ f. IsTag tag.text class f number) is tag.is_tag,
    subst (λ z. SpellsAll z ts) (sym (inside.whole ∙ append-nil inside.text)) inside.spelled,
    inl (record {
      size = size.text;
      is_length = size.is_length;
      whole = refl;
    }),
  );
  nested = let deepest = inside.nested in omega arith;
  whole = tag.whole
      ∙ ap (λ (z : List ℕ). tag.text ++ z) (size.whole ∙ sym (append_assoc size.text contents rest))
      ∙ sym (append_assoc tag.text (size.text ++ contents) rest);
}

-- a tag, an indefinite length, elements and an end
pub made_indefinite : (depth : ℕ) (bytes after octets rest : List ℕ) (class : Class) (form : Bool) (number : ℕ) (ts : Trees) → 0 < depth → form ≡ true
    → BeginsTag bytes class form number after → after ≡ 0x80 ∷ octets → BeginAll (depth - 1) octets ts (0 ∷ 0 ∷ rest)
    → Begins depth bytes (constructed class number ts) rest
made_indefinite depth bytes after octets rest class form number ts deep is tag size inside =
    let end : List ℕ = 0 ∷ 0 ∷ [] in
    let body : List ℕ = 0x80 ∷ (inside.text ++ end) in record {
      text = tag.text ++ body;
      spelled = (
        tag.text,
        body,
        inside.text,
        refl,
        subst (λ f. IsTag tag.text class f number) is tag.is_tag,
        inside.spelled,
        inr refl,
      );
      nested = let deepest = inside.nested in omega arith;
      whole = tag.whole
          ∙ ap (λ (z : List ℕ). tag.text ++ z) (size ∙ ap (λ (z : List ℕ). 0x80 ∷ z) (inside.whole ∙ sym (append_assoc inside.text end rest)))
          ∙ sym (append_assoc tag.text body rest);
    }

-- behind a tag, a fault of what follows is one of the element
fault_of_body : (depth : ℕ) (bytes after : List ℕ) (class : Class) (form : Bool) (number : ℕ) (fault : BerFault) → 0 < depth
    → BeginsTag bytes class form number after → BodyFault (depth - 1) (ElementFault (depth - 1)) form after fault → ElementFault depth bytes fault
fault_of_body zero bytes after class form number fault deep tag body = absurd (omega arith)
fault_of_body (suc depth) bytes after class form number fault deep tag body =
    let less : suc depth - 1 ≡ depth = omega arith in
    inr (class, form, number, after, tag, subst (λ d. BodyFault d (ElementFault d) form after fault) less body)

-- a fault of the tag
pub fault_of_tag : (depth : ℕ) (bytes : List ℕ) (fault : BerFault) → 0 < depth → TagFault bytes fault → ElementFault depth bytes fault
fault_of_tag zero bytes fault deep tag = absurd (omega arith)
fault_of_tag (suc depth) bytes fault deep tag = inl tag

-- a fault of the length
pub fault_of_extent : (depth : ℕ) (bytes after : List ℕ) (class : Class) (form : Bool) (number : ℕ) (fault : BerFault) → 0 < depth
    → BeginsTag bytes class form number after → ExtentFault form after fault → ElementFault depth bytes fault
fault_of_extent depth bytes after class form number fault deep tag (inl h) = fault_of_body depth bytes after class form number fault deep tag (inl h)
fault_of_extent depth bytes after class form number fault deep tag (inr h) = fault_of_body depth bytes after class form number fault deep tag (inr (inl h))

-- a fault in definite contents
pub fault_of_contents : (depth : ℕ) (bytes after contents rest : List ℕ) (class : Class) (form : Bool) (number : ℕ) (fault : BerFault) → 0 < depth → form ≡ true
    → BeginsTag bytes class form number after → BeginsLength after (length contents) (contents ++ rest)
    → InContents (depth - 1) (ElementFault (depth - 1)) contents fault → ElementFault depth bytes fault
fault_of_contents depth bytes after contents rest class form number fault deep is tag size inside =
    fault_of_body depth bytes after class form number fault deep tag (inr (inr (inl (length contents, contents, rest, is, size, refl, inside))))

-- a fault before an end
pub fault_of_open : (depth : ℕ) (bytes after octets : List ℕ) (class : Class) (form : Bool) (number : ℕ) (fault : BerFault) → 0 < depth → form ≡ true
    → BeginsTag bytes class form number after → after ≡ 0x80 ∷ octets → InOpen (depth - 1) (ElementFault (depth - 1)) octets fault
    → ElementFault depth bytes fault
fault_of_open depth bytes after octets class form number fault deep is tag size inside =
    fault_of_body depth bytes after class form number fault deep tag (inr (inr (inr (octets, is, size, inside))))

-- the octets of a tag have a number in range
tag_number : (tag : List ℕ) (class : Class) (form : Bool) (number : ℕ) → IsTag tag class form number → IsTagNumber class number
tag_number [] class form number h = absurd h
tag_number (a ∷ []) class form number h = (omega arith, omega arith)
tag_number (a ∷ b ∷ []) class form number h = (omega arith, omega arith)
tag_number (a ∷ b ∷ c ∷ []) class form number h = (omega arith, omega arith)
tag_number (a ∷ b ∷ c ∷ d ∷ others) class form number h = absurd h

mutual
  -- what is spelled has tags that elements have
  Spells-tags : (t : Tree) (text : List ℕ) → Spells text t → HasTags t
  Spells-tags (primitive class number octets) text s = tag_number s.0 class false number s.3
  Spells-tags (constructed class number children) text s =
      (tag_number s.0 class true number s.4, SpellsAll-tags children s.2 s.5)

  SpellsAll-tags : (ts : Trees) (text : List ℕ) → SpellsAll text ts → AllHaveTags ts
  SpellsAll-tags none text s = tt
  SpellsAll-tags (more t ts) text s = (Spells-tags t s.0 s.3, SpellsAll-tags ts s.1 s.4)

-- an element with nothing behind it is all of the octets
pub is_whole : (octets rest : List ℕ) (t : Tree) → Begins 16 octets t rest → length rest ≡ 0 → Spells octets t × InRange t
is_whole octets [] t begins empty =
    let all : octets ≡ begins.text = begins.whole ∙ append-nil begins.text in (
      subst (λ z. Spells z t) (sym all) begins.spelled,
      record {
        nested = begins.nested;
        tags = Spells-tags t begins.text begins.spelled;
      },
    )
is_whole octets (x ∷ rest) t begins empty = absurd (omega arith)
