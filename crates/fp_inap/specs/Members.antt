-- A sequence whose members have tags of the context class, in any order: the members that have a number, and the
-- contents of the one that has it.
use Rattle.std.specs.Prelude.{◌≡◌, ℕ, ◌==◌, List, [], ◌∷◌, Option, Some, None, ⊤, if◌then◌else◌}
use Rattle.fp_ber.specs.declared.element.Class.TheVariants.{Universal, Context}
use Rattle.fp_ber.specs.Tree.{Tree, Trees, primitive, constructed, none, more}
pub use Rattle.fp_ber.specs.Tree.{class_of, number_of}

-- each tag is of the context class
abbrev pub AllContext : Trees → Type 0
AllContext none = ⊤
AllContext (more t ts) = (class_of t ≡ Context) × AllContext ts

-- the members of a sequence, tag 30
abbrev pub IsSequence : Tree → Trees → Type 0
IsSequence t members = (t ≡ constructed Universal 16 members) × AllContext members

-- the members whose tags have a number, whatever their form
abbrev pub with_number : ℕ → Trees → List Tree
with_number number none = []
with_number number (more t ts) = if number_of t == number then t ∷ with_number number ts else with_number number ts

-- no member has the number; or exactly one has it, a primitive one with these octets
abbrev pub HoldsOctets : Trees → ℕ → Option (List ℕ) → Type 0
HoldsOctets members number None = with_number number members ≡ []
HoldsOctets members number (Some octets) = with_number number members ≡ primitive Context number octets ∷ []

-- no member has the number; or exactly one has it, a constructed one with these elements
abbrev pub HoldsMembers : Trees → ℕ → Option Trees → Type 0
HoldsMembers members number None = with_number number members ≡ []
HoldsMembers members number (Some children) = with_number number members ≡ constructed Context number children ∷ []

-- one octet, if anything is there
abbrev pub IsOctet : Option (List ℕ) → Option ℕ → Type 0
IsOctet None None = ⊤
IsOctet None (Some octet) = ⊥
IsOctet (Some octets) None = ⊥
IsOctet (Some octets) (Some octet) = octets ≡ octet ∷ []
