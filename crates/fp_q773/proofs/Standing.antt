-- Octets tell one kind of message and one identifier of each sort.
use Rattle.std.proofs.Common.{◌≡◌, ℕ, ◌<◌, ◌%◌, List, [], ◌∷◌, ◌++◌, length, Option, Some, None, inl, inr, refl, sym, ◌∙◌, ap, subst, ◌⊎◌, arith}
use Rattle.fp_ber.specs.Spelling.{BeginsLength}
use Rattle.fp_ber.specs.Laws.{NoneBeginsAnother}
use Rattle.fp_q773.specs.declared.kind.Kind.{Kind}
use Rattle.fp_q773.specs.declared.kind.Kind.TheVariants.{Unidirectional, Begin, End, Continue, Abort, Unknown}
use Rattle.fp_q773.specs.Ids.{Stands, Counts, BothCount, IsMarked, AreIdsIn, PassesLength}
use Rattle.fp_q773.specs.Laws.{IdsAreOne}
use Rattle.fp_q773.proofs.Lengths.{definite_not_open, length_same}

-- two fronts of the same octets that are as long are the same
same_front : (a b x y : List ℕ) → length a ≡ length b → a ++ x ≡ b ++ y → (a ≡ b) × (x ≡ y)
same_front [] [] x y l e = (refl, e)
same_front [] (d ∷ b) x y l e = absurd (omega arith)
same_front (c ∷ a) [] x y l e = absurd (omega arith)
same_front (c ∷ a) (d ∷ b) x y l e =
    let r = same_front a b x y (omega arith) (cc) in
    (cc, r.1)

-- an identifier, and what stands behind it
record SameStanding (i j r s : List ℕ) : Type 0 where
  identifiers : i ≡ j
  rests : r ≡ s

stands_same : NoneBeginsAnother → (tag : ℕ) (o i j r s : List ℕ) → Stands tag o i r → Stands tag o j s → SameStanding i j r s
stands_same law tag o i j r s g h =
    let bodies : g.0 ≡ h.0 = cc (g.1, h.1) in
    let k = subst (λ body. BeginsLength body (length j) (j ++ s)) (sym bodies) h.2 in
    let sizes = length_same law g.2.text k.text (i ++ r) (j ++ s) (length i) (length j) g.2.is_length k.is_length (sym g.2.whole ∙ k.whole) in
    let both = same_front i j r s sizes.number sizes.rest in record { identifiers = both.0; rests = both.1 }

counts_same : NoneBeginsAnother → (tag : ℕ) (o : List ℕ) (a b : Option (List ℕ)) → Counts tag o a → Counts tag o b → a ≡ b
counts_same law tag o None None g h = refl
counts_same law tag o None (Some j) g h = absurd (g j h.0 h.1)
counts_same law tag o (Some i) None g h = absurd (h i g.0 g.1)
counts_same law tag o (Some i) (Some j) g h =
    let same = stands_same law tag o i j g.0 h.0 g.1 h.1 in ap (λ (z : List ℕ). Some z) same.identifiers

-- both identifiers of a message
record SameBoth (a b c d : Option (List ℕ)) : Type 0 where
  originating : a ≡ b
  destination : c ≡ d

both_same : NoneBeginsAnother → (o i j : List ℕ) (c d : Option (List ℕ)) → BothCount o i c → BothCount o j d → SameBoth (Some i) (Some j) c d
both_same law o i j c d g h =
    let same = stands_same law 0x48 o i j g.0 h.0 g.1 h.1 in record {
      originating = ap (λ (z : List ℕ). Some z) same.identifiers;
      destination = counts_same law 0x49 g.0 c d g.2 (subst (λ rest. Counts 0x49 rest d) (sym same.rests) h.2);
    }

-- behind no originating identifier, where the kind is unknown
abbrev Behind : List ℕ → Option (List ℕ) → Type 0
Behind o c = (IsMarked 0x48 o × (c ≡ None)) ⊎ ((IsMarked 0x48 o → ⊥) × Counts 0x49 o c)

behind_same : NoneBeginsAnother → (o : List ℕ) (c d : Option (List ℕ)) → Behind o c → Behind o d → c ≡ d
behind_same law o c d (inl g) (inl h) = g.1 ∙ sym h.1
behind_same law o c d (inl g) (inr h) = absurd (h.0 g.0)
behind_same law o c d (inr g) (inl h) = absurd (g.0 h.0)
behind_same law o c d (inr g) (inr h) = counts_same law 0x49 o c d g.1 h.1

ids_in_same : NoneBeginsAnother → (kind : Kind) (o : List ℕ) (a b c d : Option (List ℕ)) → AreIdsIn kind o a c → AreIdsIn kind o b d → SameBoth a b c d
ids_in_same law Unidirectional o a b c d g h = record { originating = g.0 ∙ sym h.0; destination = g.1 ∙ sym h.1 }
ids_in_same law Begin o a b c d g h = record { originating = counts_same law 0x48 o a b g.0 h.0; destination = g.1 ∙ sym h.1 }
ids_in_same law End o a b c d g h = record { originating = g.0 ∙ sym h.0; destination = counts_same law 0x49 o c d g.1 h.1 }
ids_in_same law Abort o a b c d g h = record { originating = g.0 ∙ sym h.0; destination = counts_same law 0x49 o c d g.1 h.1 }
ids_in_same law Continue o None None c d g h = record { originating = refl; destination = g.1 ∙ sym h.1 }
ids_in_same law Continue o None (Some j) c d g h = absurd (g.0 j h.0 h.1)
ids_in_same law Continue o (Some i) None c d g h = absurd (h.0 i g.0 g.1)
ids_in_same law Continue o (Some i) (Some j) c d g h = both_same law o i j c d g h
ids_in_same law Unknown o None None c d g h = record { originating = refl; destination = behind_same law o c d g.1 h.1 }
ids_in_same law Unknown o None (Some j) c d g h = absurd (g.0 j h.0 h.1)
ids_in_same law Unknown o (Some i) None c d g h = absurd (h.0 i g.0 g.1)
ids_in_same law Unknown o (Some i) (Some j) c d g h = both_same law o i j c d g h

-- one text stands behind a length
passes_same : NoneBeginsAnother → (o r s : List ℕ) → PassesLength o r → PassesLength o s → r ≡ s
passes_same law o r s (inl g) (inl h) =
    let same = length_same law g.1.text h.1.text r s g.0 h.0 g.1.is_length h.1.is_length (sym g.1.whole ∙ h.1.whole) in same.rest
passes_same law o r s (inl g) (inr h) = absurd (definite_not_open g.1.text r s g.0 g.1.is_length (sym g.1.whole ∙ h))
passes_same law o r s (inr g) (inl h) = absurd (definite_not_open h.1.text s r h.0 h.1.is_length (sym h.1.whole ∙ g))
passes_same law o r s (inr g) (inr h) = cc

-- what is read behind the first octet
abbrev ReadBehind : ℕ → List ℕ → Kind → Option (List ℕ) → Option (List ℕ) → Type 0
ReadBehind first octets kind a c =
    ((contents : List ℕ) × (first % 32 < 31) × PassesLength octets contents × AreIdsIn kind contents a c)
    ⊎ (((contents : List ℕ) → first % 32 < 31 → PassesLength octets contents → ⊥) × (a ≡ None) × (c ≡ None))

read_same : NoneBeginsAnother → (first : ℕ) (octets : List ℕ) (kind : Kind) (a b c d : Option (List ℕ)) → ReadBehind first octets kind a c → ReadBehind first octets kind b d
    → SameBoth a b c d
read_same law first octets kind a b c d (inl g) (inl h) =
    let contents = passes_same law octets g.0 h.0 g.2 h.2 in
    ids_in_same law kind g.0 a b c d g.3 (subst (λ z. AreIdsIn kind z b d) (sym contents) h.3)
read_same law first octets kind a b c d (inl g) (inr h) = absurd (h.0 g.0 g.1 g.2)
read_same law first octets kind a b c d (inr g) (inl h) = absurd (g.0 h.0 h.1 h.2)
read_same law first octets kind a b c d (inr g) (inr h) = record { originating = g.1 ∙ sym h.1; destination = g.2 ∙ sym h.2 }

-- octets tell one kind and one identifier of each sort
pub ids_are_one : NoneBeginsAnother → IdsAreOne
ids_are_one law [] k l a b c d g h = record { kinds = g.0 ∙ sym h.0; originating = g.1 ∙ sym h.1; destination = g.2 ∙ sym h.2 }
ids_are_one law (first ∷ octets) k l a b c d g h =
    let kinds : k ≡ l = g.0 ∙ sym h.0 in
    let same = read_same law first octets k a b c d g.1 (subst (λ z. ReadBehind first octets z b d) (sym kinds) h.1) in
    record { kinds = kinds; originating = same.originating; destination = same.destination }
