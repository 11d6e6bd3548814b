-- The members of a sequence: the one that has a number, and that a sequence has one meaning.
use Rattle.std.proofs.Common.{◌≡◌, ℕ, ◌==◌, List, ◌∷◌, Bool, true, false, if◌then◌else◌, Option, Some, None, refl, sym, subst, ◌∙◌, arith}
use Rattle.fp_ber.specs.declared.element.Class.TheVariants.{Context}
use Rattle.std.proofs.lemmas.Bool.Decides.{nat_tests}
use Rattle.fp_ber.specs.Tree.{Tree, Trees, none, more}
use Rattle.fp_inap.specs.Members.{AllContext, IsSequence, HoldsOctets, HoldsMembers, IsOctet, class_of, number_of, with_number}

-- all members have context tags if the first one and the others have
pub context_all : (all rest : Trees) (first : Tree) → all ≡ more first rest → class_of first ≡ Context → AllContext rest → AllContext all
context_all all rest first is class others = subst (λ ts. AllContext ts) (sym is) (class, others)

-- if all members have context tags, so does the first, and so do those after it
pub context_first : (all rest : Trees) (first : Tree) → all ≡ more first rest → AllContext all → (class_of first ≡ Context) × AllContext rest
context_first all rest first is every = subst (λ ts. AllContext ts) is every

-- a member that has a number, first among those that have it
pub record HasTag (number : ℕ) (t : Tree) : Type 0 where
  pub context : class_of t ≡ Context
  pub numbered : number_of t ≡ number

-- one step of the next lemma
first_step : (number : ℕ) (u : Tree) (ts : Trees) (t : Tree) (rest : List Tree) (b : Bool) → (number_of u == number) ≡ b → class_of u ≡ Context
    → (with_number number ts ≡ t ∷ rest → HasTag number t)
    → (if b then u ∷ with_number number ts else with_number number ts) ≡ t ∷ rest → HasTag number t
first_step number u ts t rest true same class step is =
    let first : u ≡ t = cc in
    record { context = rw (← first) class; numbered = rw (← first) (grind (arith, nat_tests, same)) }
first_step number u ts t rest false same class step is = step is

-- the first of the members that have a number has it, and a context tag
pub first_with : (number : ℕ) (ts : Trees) (t : Tree) (rest : List Tree) → AllContext ts → with_number number ts ≡ t ∷ rest → HasTag number t
first_with number none t rest all is = cc
first_with number (more u ts) t rest all is =
    first_step number u ts t rest (number_of u == number) refl all.0 (first_with number ts t rest all.1) is

-- an element is one sequence
pub sequence_same : (t : Tree) (a b : Trees) → IsSequence t a → IsSequence t b → a ≡ b
sequence_same t a b g h = let same = sym g.0 ∙ h.0 in cc

-- one member has one form and holds the same octets
pub octets_same : (ts : Trees) (number : ℕ) (a b : Option (List ℕ)) → HoldsOctets ts number a → HoldsOctets ts number b → a ≡ b
octets_same ts number None None g h = refl
octets_same ts number None (Some b) g h = cc
octets_same ts number (Some a) None g h = cc
octets_same ts number (Some a) (Some b) g h = cc

-- and so do the elements in it
pub members_same : (ts : Trees) (number : ℕ) (a b : Option Trees) → HoldsMembers ts number a → HoldsMembers ts number b → a ≡ b
members_same ts number None None g h = refl
members_same ts number None (Some b) g h = cc
members_same ts number (Some a) None g h = cc
members_same ts number (Some a) (Some b) g h = cc

-- octets are one octet
pub octet_same : (octets : Option (List ℕ)) (a b : Option ℕ) → IsOctet octets a → IsOctet octets b → a ≡ b
octet_same None None None g h = refl
octet_same None None (Some b) g h = absurd h
octet_same None (Some a) b g h = absurd g
octet_same (Some octets) None b g h = absurd g
octet_same (Some octets) (Some a) None g h = absurd h
octet_same (Some octets) (Some a) (Some b) g h = cc
