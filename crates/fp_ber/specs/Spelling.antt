-- Which octets spell an element.
use Rattle.std.specs.Prelude.{◌≡◌, ℕ, ◌+◌, ◌*◌, ◌≤◌, ◌<◌, Bool, true, false, List, [], ◌∷◌, ◌++◌, length, ◌⊎◌}
use Rattle.fp_ber.specs.declared.element.Class.{Class}
use Rattle.fp_ber.specs.Tree.{Tree, Trees, primitive, constructed, none, more, class_code, nesting, nesting_of_all}

-- the first tag octet: two bits of class, the bit of the form, and five bits
abbrev pub first_octet : Class → Bool → ℕ → ℕ
first_octet class false low = 64 * class_code class + low
first_octet class true low = 64 * class_code class + 32 + low

-- The octets of a tag. A number below 31 stands in the first; a greater one in one or two octets of seven
-- bits, all but the last marked by 128, with no octet more than it takes. Number 0 of the universal class is no
-- element's.
abbrev pub IsTag : List ℕ → Class → Bool → ℕ → Type 0
IsTag [] class form number = ⊥
IsTag (a ∷ []) class form number = (a ≡ first_octet class form number) × (number < 31) × (0 < class_code class + number)
IsTag (a ∷ b ∷ []) class form number = (a ≡ first_octet class form 31) × (31 ≤ number) × (number < 128) × (b ≡ number)
IsTag (a ∷ b ∷ c ∷ []) class form number =
    (a ≡ first_octet class form 31) × (128 < b) × (b < 256) × (c < 128) × (number + 128 * 128 ≡ 128 * b + c)
IsTag (a ∷ b ∷ c ∷ d ∷ others) class form number = ⊥

-- The octets of a definite length: below 128 it stands for itself; 81 to 84 announce one to four octets of it.
abbrev pub IsLength : List ℕ → ℕ → Type 0
IsLength [] n = ⊥
IsLength (l ∷ []) n = (l < 128) × (n ≡ l)
IsLength (l ∷ a ∷ []) n = (l ≡ 0x81) × (n ≡ a)
IsLength (l ∷ a ∷ b ∷ []) n = (l ≡ 0x82) × (n ≡ 256 * a + b)
IsLength (l ∷ a ∷ b ∷ c ∷ []) n = (l ≡ 0x83) × (n ≡ 256 * (256 * a + b) + c)
IsLength (l ∷ a ∷ b ∷ c ∷ d ∷ []) n = (l ≡ 0x84) × (n ≡ 256 * (256 * (256 * a + b) + c) + d)
IsLength (l ∷ a ∷ b ∷ c ∷ d ∷ e ∷ rest) n = ⊥

-- a length in the short or a long form, and as many octets of contents
pub record IsDefinite (text contents : List ℕ) : Type 0 where
  pub size : List ℕ
  pub is_length : IsLength size (length contents)
  pub whole : text ≡ size ++ contents

-- 80, the contents, and an end 00 00
abbrev pub IsIndefinite : List ℕ → List ℕ → Type 0
IsIndefinite text contents = text ≡ 0x80 ∷ (contents ++ 0 ∷ 0 ∷ [])

abbrev mutual
  -- these octets spell this element
  pub Spells : List ℕ → Tree → Type 0
  Spells text (primitive class number octets) =
      (tag : List ℕ) × (body : List ℕ) × (text ≡ tag ++ body) × IsTag tag class false number × IsDefinite body octets
  Spells text (constructed class number children) =
      (tag : List ℕ) × (body : List ℕ) × (contents : List ℕ) × (text ≡ tag ++ body) × IsTag tag class true number
      × SpellsAll contents children × (IsDefinite body contents ⊎ IsIndefinite body contents)

  -- these octets spell these elements, one after another
  pub SpellsAll : List ℕ → Trees → Type 0
  SpellsAll text none = text ≡ []
  SpellsAll text (more t ts) = (first : List ℕ) × (rest : List ℕ) × (text ≡ first ++ rest) × Spells first t × SpellsAll rest ts

-- an element stands at the front of the octets, at most depth inside each other, and then the rest
pub record Begins (depth : ℕ) (octets : List ℕ) (t : Tree) (rest : List ℕ) : Type 0 where
  pub text : List ℕ
  pub spelled : Spells text t
  pub nested : nesting t ≤ depth
  pub whole : octets ≡ text ++ rest

-- the same of elements one after another
pub record BeginAll (depth : ℕ) (octets : List ℕ) (ts : Trees) (rest : List ℕ) : Type 0 where
  pub text : List ℕ
  pub spelled : SpellsAll text ts
  pub nested : nesting_of_all ts ≤ depth
  pub whole : octets ≡ text ++ rest

-- the same of a tag
pub record BeginsTag (octets : List ℕ) (class : Class) (form : Bool) (number : ℕ) (rest : List ℕ) : Type 0 where
  pub text : List ℕ
  pub is_tag : IsTag text class form number
  pub whole : octets ≡ text ++ rest

-- the same of a definite length
pub record BeginsLength (octets : List ℕ) (n : ℕ) (rest : List ℕ) : Type 0 where
  pub text : List ℕ
  pub is_length : IsLength text n
  pub whole : octets ≡ text ++ rest
