-- Tests that hold exactly where two values are the same. A derived `==` is one where those of the fields are.
use Rattle.std.specs.Prelude.{◌≡◌, Bool, true, false, ◌&&◌, List, [], ◌∷◌, None, Some, ⊤, nat_eq}
use Rattle.std.specs.Bool.{Decides, beq}
use Rattle.std.specs.Cmp.{booleans_Decides}
use Rattle.std.specs.Cmp.Lexicographic.{pointwise, pointwise_decides}
use Rattle.std.specs.Option.{option_eq, unwrap_or}
use Rattle.std.specs.Ordering.{int_eq}
use Rattle.std.proofs.Common.{refl, sym, ◌∙◌, ap, inl, inr}
use Rattle.std.proofs.lemmas.Bool.Decides.{Decides-and, Decides-eqb, Decides-int_eq, Decides-like}
use denote.Struct.Field.{Field}
use denote.Enum.Bare.{Bare, sameb, same_true, true_same}
use denote.Enum.Declared.{Record, declared, values_one, left_or, right_or}
use denote.Enum.Compared.{Each, by}

-- the test holds of two values exactly where they are the same
abbrev pub IsExact : {A : Type 0} → (A → A → Bool) → Type 0
IsExact {A} test = (a b : A) → Decides (test a b) (a ≡ b)

-- of numbers
pub of_natural : IsExact nat_eq
of_natural = Decides-eqb

pub of_integer : IsExact int_eq
of_integer = Decides-int_eq

-- of truth values
pub of_bool : IsExact beq
of_bool = booleans_Decides

-- of lists
pub of_list : {A : Type 0} {test : A → A → Bool} → IsExact test → IsExact (pointwise test)
of_list exact = pointwise_decides exact

-- of what may be absent
pub of_option : {A : Type 0} {test : A → A → Bool} → IsExact test → IsExact (option_eq test)
of_option exact None None = (λ _. refl, λ _. refl)
of_option exact None (Some b) = (λ e. (cc), λ e. (cc))
of_option exact (Some a) None = (λ e. (cc), λ e. (cc))
of_option {A} {test} exact (Some a) (Some b) =
    Decides-like (test a b) (λ e. ap Some e) (λ e. ap (λ found. unwrap_or found a) e) (exact a b)

-- of two fields, or of one and all behind it
pub of_both : {A B : Type 0} {test : A → A → Bool} {others : B → B → Bool} → IsExact test → IsExact others
    → IsExact {A = A × B} (λ a b. test a.0 b.0 && others a.1 b.1)
of_both {A} {B} {test} {others} exact rest a b =
    Decides-like (test a.0 b.0 && others a.1 b.1)
    (λ e i. (e.0 i, e.1 i))
    (λ e. (ap (λ fields. fields.0) e, ap (λ fields. fields.1) e))
    (Decides-and _ _ (exact a.0 b.0) (rest a.1 b.1))

-- of a struct, by its fields
pub of_struct : {A B : Type 0} (fields : A → B) (made : B → A) → ((a : A) → made (fields a) ≡ a) → {test : B → B → Bool} → IsExact test
    → IsExact (λ a b. test (fields a) (fields b))
of_struct fields made back {test} exact a b =
    Decides-like (test (fields a) (fields b)) (λ e. sym (back a) ∙ ap made e ∙ back b) (λ e. ap fields e) (exact (fields a) (fields b))

-- of a variant without fields
pub of_none : IsExact {A = Unit {0}} (λ a b. true)
of_none a b = (λ _. refl, λ _. refl)

-- of the last field of a variant
pub of_last : {A : Type 0} {test : A → A → Bool} → IsExact test → IsExact {A = A × Unit {0}} (λ a b. test a.0 b.0)
of_last {A} {test} exact a b = Decides-like (test a.0 b.0) (λ e i. (e i, tt)) (λ e. ap (λ fields. fields.0) e) (exact a.0 b.0)

-- the test of each variant is exact
abbrev pub AreExact : (variants : List (List Field)) → Each Bool variants → Type 0
AreExact [] tests = ⊤
AreExact (variant ∷ variants) tests = IsExact tests.0 × AreExact variants tests.1

of_choice : (variants : List (List Field)) (tests : Each Bool variants) → AreExact variants tests → IsExact (by false false variants tests)
of_choice [] tests exact a b = absurd a
of_choice (variant ∷ variants) tests exact (inl a) (inl b) =
    Decides-like (tests.0 a b) (λ e. ap inl e) (λ e. ap (left_or a) e) (exact.0 a b)
of_choice (variant ∷ variants) tests exact (inl a) (inr b) = (λ e. (cc), λ e. (cc))
of_choice (variant ∷ variants) tests exact (inr a) (inl b) = (λ e. (cc), λ e. (cc))
of_choice (variant ∷ variants) tests exact (inr a) (inr b) =
    Decides-like (by false false variants tests.1 a b) (λ e. ap inr e) (λ e. ap (right_or a) e) (of_choice variants tests.1 exact.1 a b)

-- of an enum, by its variants
pub of_enum : (enum : Record) (tests : Each Bool enum.parts) → AreExact enum.parts tests
    → IsExact (λ a b. by false false enum.parts tests (enum.as_values a) (enum.as_values b))
of_enum enum tests exact a b =
    Decides-like (by false false enum.parts tests (enum.as_values a) (enum.as_values b))
    (λ e. values_one enum a b e)
    (λ e. ap enum.as_values e)
    (of_choice enum.parts tests exact (enum.as_values a) (enum.as_values b))

-- of an enum without fields
pub of_bare : (enum : Record) → Bare enum.parts → IsExact (sameb (declared enum))
of_bare enum bare a b = (same_true (declared enum) bare a b, true_same (declared enum) a b)
