-- Elements whose tags and lengths are spelled in one octet each, at each level: how many octets they take.
use Rattle.std.proofs.Common.{◌≡◌, ℕ, ◌+◌, ◌<◌, Bool, true, false, List, length, refl, ◌∙◌, ap, ap₂, arith, length-append}
use Rattle.std.specs.Prelude.{⊤}
use Rattle.fp_ber.specs.declared.element.Class.{Class}
use Rattle.fp_ber.specs.Tree.{Tree, Trees, primitive, constructed, none, more}
use Rattle.fp_ber.specs.Canon.{canon, canon_of_all, with_header, HasLengths, AllHaveLengths}

-- an octet of the tag, an octet of the length, and the contents
abbrev mutual
  pub size_of : Tree → ℕ
  size_of (primitive class number octets) = 2 + length octets
  size_of (constructed class number children) = 2 + size_of_all children

  pub size_of_all : Trees → ℕ
  size_of_all none = 0
  size_of_all (more t ts) = size_of t + size_of_all ts

-- the tag number and the length are small, at each level
abbrev mutual
  pub IsShort : Tree → Type 0
  IsShort (primitive class number octets) = (number < 31) × (length octets < 128)
  IsShort (constructed class number children) = (number < 31) × (size_of_all children < 128) × AllShort children

  pub AllShort : Trees → Type 0
  AllShort none = ⊤
  AllShort (more t ts) = IsShort t × AllShort ts

-- two octets stand in front of short contents
length-with_header : (class : Class) (form : Bool) (number : ℕ) (contents : List ℕ) → number < 31 → length contents < 128
    → length (with_header class form number contents) ≡ 2 + length contents
length-with_header class form number contents small short = grind (arith, length-append)

mutual
  pub length-canon : (t : Tree) → IsShort t → length (canon t) ≡ size_of t
  length-canon (primitive class number octets) s = length-with_header class false number octets s.0 s.1
  length-canon (constructed class number children) s =
      let inside = length-canon_of_all children s.2 in
      length-with_header class true number (canon_of_all children) s.0 (omega (arith, s.1, inside)) ∙ ap (λ n. 2 + n) inside

  length-canon_of_all : (ts : Trees) → AllShort ts → length (canon_of_all ts) ≡ size_of_all ts
  length-canon_of_all none s = refl
  length-canon_of_all (more t ts) s =
      length-append (canon t) (canon_of_all ts) ∙ ap₂ (λ m n. m + n) (length-canon t s.0) (length-canon_of_all ts s.1)

mutual
  pub short_fits : (t : Tree) → IsShort t → HasLengths t
  short_fits (primitive class number octets) s = omega (arith, s.1)
  short_fits (constructed class number children) s =
      let inside = length-canon_of_all children s.2 in (omega (arith, s.1, inside), all_short_fits children s.2)

  all_short_fits : (ts : Trees) → AllShort ts → AllHaveLengths ts
  all_short_fits none s = tt
  all_short_fits (more t ts) s = (short_fits t s.0, all_short_fits ts s.1)
