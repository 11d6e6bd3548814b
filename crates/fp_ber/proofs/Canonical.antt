-- The canonical spelling is one, and none of its lengths could be shorter.
use Rattle.std.proofs.Common.{◌≡◌, ℕ, suc, ◌+◌, ◌/◌, ◌%◌, ◌^◌, ◌<◌, ◌≤◌, Bool, true, false, List, [], ◌∷◌, ◌++◌, length, get_or, ◌⊎◌, inl, inr, refl, ap, subst, length-append, lt-ltb, le-ltb, arith}
use Rattle.std.proofs.lemmas.Bool.{cases_lt}
use Rattle.std.specs.List.{AllByRecursion}
use Rattle.fp_ber.specs.declared.element.Class.{Class}
use Rattle.fp_ber.specs.Tree.{Tree, Trees, primitive, constructed, none, more, IsTagNumber, HasTags, AllHaveTags}
use Rattle.fp_ber.specs.Spelling.{first_octet, IsTag, IsLength, IsDefinite, IsIndefinite, Spells, SpellsAll}
use Rattle.fp_ber.specs.Canon.{tag_octets, length_octets, with_header, canon, canon_of_all, HasLengths, AllHaveLengths}
use Rattle.fp_ber.specs.Laws.{LengthsAreShortest}

-- Tags

-- the octets of a tag, by its number
tag_octets_cases : (c : Class) (f : Bool) (n : ℕ)
    → ((n < 31) × (tag_octets c f n ≡ first_octet c f n ∷ []))
    ⊎ ((31 ≤ n) × (n < 128) × (tag_octets c f n ≡ first_octet c f 31 ∷ n ∷ []))
    ⊎ ((128 ≤ n) × (tag_octets c f n ≡ first_octet c f 31 ∷ (128 + n / 128) ∷ n % 128 ∷ []))
tag_octets_cases c f n = elim (cases_lt n 31) [
  | inl a ↦ inl (a, rw (lt-ltb n 31 a))
  | inr a ↦ elim (cases_lt n 128) [
    | inl b ↦ inr (inl (a, b, rw (le-ltb n 31 a, lt-ltb n 128 b)))
    | inr b ↦ inr (inr (b, rw (le-ltb n 31 a, le-ltb n 128 b)))
  ]
]

-- a tag that an element may have is spelled by its octets
tag_is : (c : Class) (f : Bool) (n : ℕ) → IsTagNumber c n → IsTag (tag_octets c f n) c f n
tag_is c f n h = elim (tag_octets_cases c f n) [
  | inl k ↦ rw k.1 (refl, k.0, h.0)
  | inr (inl k) ↦ rw k.2 (refl, k.0, k.1, refl)
  | inr (inr k) ↦ rw k.1 (refl, omega arith, omega arith, omega arith, omega arith)
]

-- Lengths

-- the octets of a length, by the number
length_octets_cases : (n : ℕ)
    → ((n < 0x80) × (length_octets n ≡ n ∷ []))
    ⊎ ((0x80 ≤ n) × (n < 0x100) × (length_octets n ≡ 0x81 ∷ n ∷ []))
    ⊎ ((0x100 ≤ n) × (n < 0x10000) × (length_octets n ≡ 0x82 ∷ n / 0x100 ∷ n % 0x100 ∷ []))
    ⊎ ((0x10000 ≤ n) × (n < 0x1000000) × (length_octets n ≡ 0x83 ∷ n / 0x10000 ∷ n / 0x100 % 0x100 ∷ n % 0x100 ∷ []))
    ⊎ ((0x1000000 ≤ n) × (length_octets n ≡ 0x84 ∷ n / 0x1000000 ∷ n / 0x10000 % 0x100 ∷ n / 0x100 % 0x100 ∷ n % 0x100 ∷ []))
length_octets_cases n = elim (cases_lt n 0x80) [
  | inl a ↦ inl (a, rw (lt-ltb n 0x80 a))
  | inr a ↦ elim (cases_lt n 0x100) [
    | inl b ↦ inr (inl (a, b, rw (le-ltb n 0x80 a, lt-ltb n 0x100 b)))
    | inr b ↦ elim (cases_lt n 0x10000) [
      | inl c ↦ inr (inr (inl (b, c, rw (le-ltb n 0x80 a, le-ltb n 0x100 b, lt-ltb n 0x10000 c))))
      | inr c ↦ elim (cases_lt n 0x1000000) [
        | inl d ↦ inr (inr (inr (inl (c, d, rw (le-ltb n 0x80 a, le-ltb n 0x100 b, le-ltb n 0x10000 c, lt-ltb n 0x1000000 d)))))
        | inr d ↦ inr (inr (inr (inr (d, rw (le-ltb n 0x80 a, le-ltb n 0x100 b, le-ltb n 0x10000 c, le-ltb n 0x1000000 d)))))
      ]
    ]
  ]
]

-- a length that four octets can say is spelled by its octets
length_is : (n : ℕ) → n < 2 ^ 32 → IsLength (length_octets n) n
length_is n h = elim (length_octets_cases n) [
  | inl k ↦ rw k.1 (k.0, refl)
  | inr (inl k) ↦ rw k.2 (refl, refl)
  | inr (inr (inl k)) ↦ rw k.2 (refl, omega arith)
  | inr (inr (inr (inl k))) ↦ rw k.2 (refl, omega arith)
  | inr (inr (inr (inr k))) ↦ rw k.1 (refl, omega arith)
]

-- Elements

mutual
  -- the canonical spelling is one
  pub canon_spells : (t : Tree) → HasTags t → HasLengths t → Spells (canon t) t
  canon_spells (primitive c n o) h l = (
    tag_octets c false n,
    length_octets (length o) ++ o,
    refl,
    tag_is c false n h,
    record { size = length_octets (length o); is_length = length_is (length o) l; whole = refl },
  )
  canon_spells (constructed c n ts) h l =
      let o = canon_of_all ts in (
        tag_octets c true n,
        length_octets (length o) ++ o,
        o,
        refl,
        tag_is c true n h.0,
        canon_spells_all ts h.1 l.1,
        inl (record { size = length_octets (length o); is_length = length_is (length o) l.0; whole = refl }),
      )

  -- the same of elements one after another
  pub canon_spells_all : (ts : Trees) → AllHaveTags ts → AllHaveLengths ts → SpellsAll (canon_of_all ts) ts
  canon_spells_all none h l = refl
  canon_spells_all (more t ts) h l = (canon t, canon_of_all ts, refl, canon_spells t h.0 l.0, canon_spells_all ts h.1 l.1)

-- How long they are

-- how many octets a length takes
length_size : (n : ℕ)
    → ((n < 0x80) × (length (length_octets n) ≡ 1))
    ⊎ ((0x80 ≤ n) × (n < 0x100) × (length (length_octets n) ≡ 2))
    ⊎ ((0x100 ≤ n) × (n < 0x10000) × (length (length_octets n) ≡ 3))
    ⊎ ((0x10000 ≤ n) × (n < 0x1000000) × (length (length_octets n) ≡ 4))
    ⊎ ((0x1000000 ≤ n) × (length (length_octets n) ≡ 5))
length_size n = elim (length_octets_cases n) [
  | inl k ↦ inl (k.0, ap length k.1)
  | inr (inl k) ↦ inr (inl (k.0, k.1, ap length k.2))
  | inr (inr (inl k)) ↦ inr (inr (inl (k.0, k.1, ap length k.2)))
  | inr (inr (inr (inl k))) ↦ inr (inr (inr (inl (k.0, k.1, ap length k.2))))
  | inr (inr (inr (inr k))) ↦ inr (inr (inr (inr (k.0, ap length k.1))))
]

-- no definite length of the same number takes fewer octets than the canonical one
pub lengths_are_shortest : LengthsAreShortest
lengths_are_shortest [] n h k = absurd h
lengths_are_shortest (l ∷ []) n h k = let s = length_size n in omega arith
lengths_are_shortest (l ∷ a ∷ []) n h k = let s = length_size n in omega arith
lengths_are_shortest (l ∷ a ∷ b ∷ []) n h k = let s = length_size n in omega arith
lengths_are_shortest (l ∷ a ∷ b ∷ c ∷ []) n h k = let s = length_size n in omega arith
lengths_are_shortest (l ∷ a ∷ b ∷ c ∷ d ∷ []) n h k = let s = length_size n in omega arith
lengths_are_shortest (l ∷ a ∷ b ∷ c ∷ d ∷ e ∷ rest) n h k = absurd h

-- the length of less takes no more octets
length_octets-mono : (m n : ℕ) → m ≤ n → length (length_octets m) ≤ length (length_octets n)
length_octets-mono m n h = let s = length_size m in let t = length_size n in omega arith

-- how many octets a tag takes
tag_size : (c : Class) (f : Bool) (n : ℕ)
    → ((n < 31) × (length (tag_octets c f n) ≡ 1)) ⊎ ((31 ≤ n) × (length (tag_octets c f n) ≡ 2))
    ⊎ ((128 ≤ n) × (length (tag_octets c f n) ≡ 3))
tag_size c f n = elim (tag_octets_cases c f n) [
  | inl k ↦ inl (k.0, ap length k.1)
  | inr (inl k) ↦ inr (inl (k.0, ap length k.2))
  | inr (inr k) ↦ inr (inr (k.0, ap length k.1))
]

-- a tag takes no fewer octets than the canonical one
tag_is_shortest : (tag : List ℕ) (c : Class) (f : Bool) (n : ℕ) → IsTag tag c f n → length (tag_octets c f n) ≤ length tag
tag_is_shortest [] c f n h = absurd h
tag_is_shortest (a ∷ []) c f n h = let s = tag_size c f n in omega arith
tag_is_shortest (a ∷ b ∷ []) c f n h = let s = tag_size c f n in omega arith
tag_is_shortest (a ∷ b ∷ d ∷ []) c f n h = let s = tag_size c f n in omega arith
tag_is_shortest (a ∷ b ∷ d ∷ e ∷ tag) c f n h = absurd h

-- Texts of octets

-- numbers below 256
abbrev pub AreOctets : List ℕ → Type 0
AreOctets o = AllByRecursion (λ octet. octet < 256) o

-- each item by its index
pub AreOctets-by_index : (o : List ℕ) → ((k : ℕ) → get_or o k 0 < 256) → AreOctets o
AreOctets-by_index [] h = tt
AreOctets-by_index (a ∷ o) h = (h 0, AreOctets-by_index o (λ k. h (suc k)))

-- the parts of a text of octets are octets
AreOctets-parts : (a b : List ℕ) → AreOctets (a ++ b) → AreOctets a × AreOctets b
AreOctets-parts [] b h = (tt, h)
AreOctets-parts (x ∷ a) b h = let r = AreOctets-parts a b h.1 in ((h.0, r.0), r.1)

-- the canonical header of contents that are no longer takes no more octets than a definite one
definite_fits : (tag body contents new : List ℕ) (c : Class) (f : Bool) (n : ℕ) → IsTag tag c f n → IsDefinite body contents → AreOctets body
    → length new ≤ length contents → length (with_header c f n new) ≤ length (tag ++ body)
definite_fits tag body contents new c f n h d k l =
    let P : List ℕ → Type 0 = λ z. AreOctets z in
    let q = AreOctets-parts d.size contents (subst P d.whole k) in
    let t = tag_is_shortest tag c f n h in
    let u = lengths_are_shortest d.size (length contents) d.is_length q.0 in
    let v = length_octets-mono (length new) (length contents) l in
    let w : length body ≡ length (d.size ++ contents) = ap length d.whole in
    omega (arith, length-append (tag_octets c f n) (length_octets (length new) ++ new), length-append (length_octets (length new)) new, length-append tag body, length-append d.size contents)

-- the same against an indefinite one, which takes three octets
indefinite_fits : (tag body contents new : List ℕ) (c : Class) (f : Bool) (n : ℕ) → IsTag tag c f n → IsIndefinite body contents
    → length contents < 65536 → length new ≤ length contents → length (with_header c f n new) ≤ length (tag ++ body)
indefinite_fits tag body contents new c f n h d k l =
    let t = tag_is_shortest tag c f n h in
    let s = length_size (length new) in
    let w : length body ≡ suc (length (contents ++ 0 ∷ 0 ∷ [])) = ap length d in
    let x : length (contents ++ 0 ∷ 0 ∷ []) ≡ length contents + 2 = length-append contents (0 ∷ 0 ∷ []) in
    omega (arith, length-append (tag_octets c f n) (length_octets (length new) ++ new), length-append (length_octets (length new)) new, length-append tag body)

-- what the contents of a constructed body are
record Inner (body contents : List ℕ) : Type 0 where
  octets : AreOctets contents
  shorter : length contents ≤ length body

-- the contents of a body of octets are octets, and no more
inner : (body contents : List ℕ) → AreOctets body → IsDefinite body contents ⊎ IsIndefinite body contents → Inner body contents
inner body contents h (inl d) =
    let P : List ℕ → Type 0 = λ z. AreOctets z in
    let q = AreOctets-parts d.size contents (subst P d.whole h) in
    let w : length body ≡ length (d.size ++ contents) = ap length d.whole in
    record { octets = q.1; shorter = omega (arith, length-append d.size contents) }
inner body contents h (inr d) =
    let P : List ℕ → Type 0 = λ z. AreOctets z in
    let g : AreOctets (0x80 ∷ (contents ++ 0 ∷ 0 ∷ [])) = subst P d h in
    let q = AreOctets-parts contents (0 ∷ 0 ∷ []) g.1 in
    let w : length body ≡ suc (length (contents ++ 0 ∷ 0 ∷ [])) = ap length d in
    record { octets = q.0; shorter = omega (arith, length-append contents (0 ∷ 0 ∷ [])) }

-- the canonical spelling of contents that are no longer takes no more octets
header_fits : (o tag body contents new : List ℕ) (c : Class) (n : ℕ) → o ≡ tag ++ body → AreOctets body → length contents < 65536
    → IsTag tag c true n → IsDefinite body contents ⊎ IsIndefinite body contents → length new ≤ length contents → length (with_header c true n new) ≤ length o
header_fits o tag body contents new c n e k p h (inl d) l =
    let t = definite_fits tag body contents new c true n h d k l in
    let w : length o ≡ length (tag ++ body) = ap length e in
    omega arith
header_fits o tag body contents new c n e k p h (inr d) l =
    let t = indefinite_fits tag body contents new c true n h d p l in
    let w : length o ≡ length (tag ++ body) = ap length e in
    omega arith

mutual
  -- what a short text of octets spells has lengths, and its canonical spelling is no longer
  pub short_fits : (t : Tree) (o : List ℕ) → AreOctets o → length o < 65536 → Spells o t → HasLengths t × (length (canon t) ≤ length o)
  short_fits (primitive c n octets) o k p h =
      let P : List ℕ → Type 0 = λ z. AreOctets z in
      let q = AreOctets-parts h.0 h.1 (subst P h.2 k) in
      let i = inner h.1 octets q.1 (inl h.4) in
      let w : length o ≡ length (h.0 ++ h.1) = ap length h.2 in
      let t = definite_fits h.0 h.1 octets octets c false n h.3 h.4 q.1 (omega arith) in
      (omega (arith, length-append h.0 h.1), omega arith)
  short_fits (constructed c n ts) o k p h =
      let P : List ℕ → Type 0 = λ z. AreOctets z in
      let q = AreOctets-parts h.0 h.1 (subst P h.3 k) in
      let i = inner h.1 h.2 q.1 h.6 in
      let w : length o ≡ length (h.0 ++ h.1) = ap length h.3 in
      let m : length h.2 < 65536 = omega (arith, length-append h.0 h.1) in
      let r = short_fits_all ts h.2 i.octets m h.5 in
      ((omega arith, r.0), header_fits o h.0 h.1 h.2 (canon_of_all ts) c n h.3 q.1 m h.4 h.6 r.1)

  -- the same of elements one after another
  pub short_fits_all : (ts : Trees) (o : List ℕ) → AreOctets o → length o < 65536 → SpellsAll o ts → AllHaveLengths ts × (length (canon_of_all ts) ≤ length o)
  short_fits_all none o k p h = (tt, omega arith)
  short_fits_all (more t ts) o k p h =
      let P : List ℕ → Type 0 = λ z. AreOctets z in
      let q = AreOctets-parts h.0 h.1 (subst P h.2 k) in
      let w : length o ≡ length (h.0 ++ h.1) = ap length h.2 in
      let l = length-append h.0 h.1 in
      let a = short_fits t h.0 q.0 (omega arith) h.3 in
      let b = short_fits_all ts h.1 q.1 (omega arith) h.4 in
      ((a.0, b.0), omega (arith, length-append (canon t) (canon_of_all ts)))
