-- The spelling with definite lengths in as few octets as they take.
use Rattle.std.specs.Prelude.{◌≡◌, ℕ, ◌+◌, ◌/◌, ◌%◌, ◌^◌, ◌<◌, Bool, true, false, List, [], ◌∷◌, ◌++◌, length, take, drop, ⊤, nat_lt, if◌then◌else◌}
use Rattle.fp_ber.specs.declared.element.Class.{Class}
use Rattle.fp_ber.specs.Tree.{Tree, Trees, primitive, constructed, none, more}
use Rattle.fp_ber.specs.Spelling.{first_octet}

abbrev pub tag_octets : Class → Bool → ℕ → List ℕ
tag_octets class form number =
    if nat_lt number 31 then first_octet class form number ∷ []
    else if nat_lt number 128 then first_octet class form 31 ∷ number ∷ []
    else first_octet class form 31 ∷ (128 + number / 128) ∷ number % 128 ∷ []

abbrev pub length_octets : ℕ → List ℕ
length_octets n =
    if nat_lt n 0x80 then n ∷ []
    else if nat_lt n 0x100 then 0x81 ∷ n ∷ []
    else if nat_lt n 0x10000 then 0x82 ∷ n / 0x100 ∷ n % 0x100 ∷ []
    else if nat_lt n 0x1000000 then 0x83 ∷ n / 0x10000 ∷ n / 0x100 % 0x100 ∷ n % 0x100 ∷ []
    else 0x84 ∷ n / 0x1000000 ∷ n / 0x10000 % 0x100 ∷ n / 0x100 % 0x100 ∷ n % 0x100 ∷ []

abbrev pub with_header : Class → Bool → ℕ → List ℕ → List ℕ
with_header class form number contents = tag_octets class form number ++ (length_octets (length contents) ++ contents)

abbrev mutual
  pub canon : Tree → List ℕ
  canon (primitive class number octets) = with_header class false number octets
  canon (constructed class number children) = with_header class true number (canon_of_all children)

  pub canon_of_all : Trees → List ℕ
  canon_of_all none = []
  canon_of_all (more t ts) = canon t ++ canon_of_all ts

-- four length octets suffice, at each level
abbrev mutual
  pub HasLengths : Tree → Type 0
  HasLengths (primitive class number octets) = length octets < 2 ^ 32
  HasLengths (constructed class number children) = (length (canon_of_all children) < 2 ^ 32) × AllHaveLengths children

  pub AllHaveLengths : Trees → Type 0
  AllHaveLengths none = ⊤
  AllHaveLengths (more t ts) = HasLengths t × AllHaveLengths ts

-- new is old with these octets in front of a place, from start on
pub record Puts (octets old new : List ℕ) (start end : ℕ) : Type 0 where
  pub starts : start + length octets ≡ end
  pub whole : new ≡ take start old ++ (octets ++ drop end old)
