-- A spelling and a fault exclude each other, and a text has one fault.
use Rattle.std.proofs.Common.{◌≡◌, ℕ, zero, suc, ◌+◌, ◌%◌, ◌<◌, ◌≤◌, Bool, true, false, List, [], ◌∷◌, ◌++◌, length, length-append, ◌⊎◌, inl, inr, refl, sym, ◌∙◌, ap, subst, subst₂, append_assoc, append-nil, arith}
use Rattle.fp_ber.specs.declared.element.Class.{Class}
use Rattle.fp_ber.specs.declared.fault.BerFault.{BerFault}
use Rattle.fp_ber.specs.Tree.{Tree, Trees, primitive, constructed, none, more, nesting, nesting_of_all}
use Rattle.fp_ber.specs.Spelling.{IsTag, IsDefinite, IsIndefinite, Spells, SpellsAll, Begins, BeginsTag, BeginsLength}
use Rattle.fp_ber.specs.Faults.{SecondFault, HighFault, TagFault, LengthFault, Faulty, InContents, AtEnd, InOpen, BodyFault, ElementFault, FirstFault}
use Rattle.fp_ber.proofs.Unique.{same_front, split_front, tag_same, head_of, length_same, spelling_opens, no_start, unique}

-- Tags

-- a tag has no fault
tag_no_fault : (p rest : List ℕ) (c : Class) (f : Bool) (n : ℕ) (fault : BerFault) → IsTag p c f n → TagFault (p ++ rest) fault → ⊥
tag_no_fault [] rest c f n fault h k = h
tag_no_fault (a ∷ []) rest c false n fault h k = elim k [
  | inl v ↦ elim v.0 [ inl e ↦ omega arith | inr e ↦ omega arith ]
  | inr v ↦ omega arith
]
tag_no_fault (a ∷ []) rest c true n fault h k = elim k [
  | inl v ↦ elim v.0 [ inl e ↦ omega arith | inr e ↦ omega arith ]
  | inr v ↦ omega arith
]
tag_no_fault (a ∷ b ∷ []) rest c false n fault h k = elim k [
  | inl v ↦ elim v.0 [ inl e ↦ omega arith | inr e ↦ omega arith ]
  | inr v ↦ elim v.1 [ inl w ↦ omega arith | inr (inl w) ↦ omega arith | inr (inr w) ↦ omega arith ]
]
tag_no_fault (a ∷ b ∷ []) rest c true n fault h k = elim k [
  | inl v ↦ elim v.0 [ inl e ↦ omega arith | inr e ↦ omega arith ]
  | inr v ↦ elim v.1 [ inl w ↦ omega arith | inr (inl w) ↦ omega arith | inr (inr w) ↦ omega arith ]
]
tag_no_fault (a ∷ b ∷ d ∷ []) rest c false n fault h k = elim k [
  | inl v ↦ elim v.0 [ inl e ↦ omega arith | inr e ↦ omega arith ]
  | inr v ↦ elim v.1 [ inl w ↦ omega arith | inr (inl w) ↦ omega arith | inr (inr w) ↦ omega arith ]
]
tag_no_fault (a ∷ b ∷ d ∷ []) rest c true n fault h k = elim k [
  | inl v ↦ elim v.0 [ inl e ↦ omega arith | inr e ↦ omega arith ]
  | inr v ↦ elim v.1 [ inl w ↦ omega arith | inr (inl w) ↦ omega arith | inr (inr w) ↦ omega arith ]
]
tag_no_fault (a ∷ b ∷ d ∷ e ∷ p) rest c f n fault h k = h

-- octets that begin with a tag have no fault there
begins_tag_no_fault : (o rest : List ℕ) (c : Class) (f : Bool) (n : ℕ) (fault : BerFault) → BeginsTag o c f n rest → TagFault o fault → ⊥
begins_tag_no_fault o rest c f n fault h k =
    let P : List ℕ → Type 0 = λ z. TagFault z fault in
    tag_no_fault h.text rest c f n fault h.is_tag (subst P h.whole k)

-- a second octet of a number has one fault
second_fault_same : (o : List ℕ) (f g : BerFault) → SecondFault o f → SecondFault o g → f ≡ g
second_fault_same [] f g h k = cc
second_fault_same (c ∷ rest) f g h k = cc

-- the octets of a number have one fault
high_fault_same : (o : List ℕ) (f g : BerFault) → HighFault o f → HighFault o g → f ≡ g
high_fault_same [] f g h k = cc
high_fault_same (b ∷ rest) f g (inl h) (inl k) = cc
high_fault_same (b ∷ rest) f g (inl h) (inr (inl k)) = cc
high_fault_same (b ∷ rest) f g (inl h) (inr (inr k)) = absurd (omega arith)
high_fault_same (b ∷ rest) f g (inr (inl h)) (inl k) = cc
high_fault_same (b ∷ rest) f g (inr (inl h)) (inr (inl k)) = cc
high_fault_same (b ∷ rest) f g (inr (inl h)) (inr (inr k)) = absurd (omega arith)
high_fault_same (b ∷ rest) f g (inr (inr h)) (inl k) = absurd (omega arith)
high_fault_same (b ∷ rest) f g (inr (inr h)) (inr (inl k)) = absurd (omega arith)
high_fault_same (b ∷ rest) f g (inr (inr h)) (inr (inr k)) = second_fault_same rest f g h.1 k.1

-- no first octet of number 0 of the universal class has its low five bits all set
zero_not_high : (a : ℕ) → (a ≡ 0) ⊎ (a ≡ 32) → a % 32 ≡ 31 → ⊥
zero_not_high a (inl e) h = omega arith
zero_not_high a (inr e) h = omega arith

-- a tag has one fault
tag_fault_same : (o : List ℕ) (f g : BerFault) → TagFault o f → TagFault o g → f ≡ g
tag_fault_same [] f g h k = cc
tag_fault_same (a ∷ rest) f g (inl h) (inl k) = cc
tag_fault_same (a ∷ rest) f g (inl h) (inr k) = absurd (zero_not_high a h.0 k.0)
tag_fault_same (a ∷ rest) f g (inr h) (inl k) = absurd (zero_not_high a k.0 h.0)
tag_fault_same (a ∷ rest) f g (inr h) (inr k) = high_fault_same rest f g h.1 k.1

-- Lengths

-- a definite length has no fault
length_no_fault : (form : Bool) (o rest : List ℕ) (n : ℕ) (fault : BerFault) → BeginsLength o n rest → LengthFault form o fault → ⊥
length_no_fault form o rest n fault h k =
    let d = head_of h.text n h.is_length in
    let e : o ≡ d.first ∷ (d.others ++ rest) = h.whole ∙ ap (λ (z : List ℕ). z ++ rest) d.whole in
    let P : List ℕ → Type 0 = λ z. LengthFault form z fault in
    let q : LengthFault form (d.first ∷ (d.others ++ rest)) fault = subst P e k in
    elim q [
      | inl v ↦ d.definite v.1
      | inr (inl v) ↦ omega arith
      | inr (inr v) ↦ omega (arith, length-append d.others rest)
    ]

-- a definite length does not begin with 80
length_not_open : (o rest : List ℕ) (n : ℕ) (r : List ℕ) → BeginsLength o n rest → o ≡ 0x80 ∷ r → ⊥
length_not_open o rest n r h k =
    let d = head_of h.text n h.is_length in
    let e : o ≡ d.first ∷ (d.others ++ rest) = h.whole ∙ ap (λ (z : List ℕ). z ++ rest) d.whole in
    let s : d.first ≡ 0x80 = cc in
    d.definite s

-- 80 is no fault of a constructed element
open_no_length_fault : (o r : List ℕ) (fault : BerFault) → LengthFault true o fault → o ≡ 0x80 ∷ r → ⊥
open_no_length_fault o r fault k e =
    let P : List ℕ → Type 0 = λ z. LengthFault true z fault in
    let q : LengthFault true (0x80 ∷ r) fault = subst P e k in
    elim q [
      | inl v ↦ let f : true ≡ false = v.0 in cc
      | inr (inl v) ↦ omega arith
      | inr (inr v) ↦ omega arith
    ]

-- two definite lengths at one place are the same
begins_length_same : (o r s : List ℕ) (m n : ℕ) → BeginsLength o m r → BeginsLength o n s → (m ≡ n) × (r ≡ s)
begins_length_same o r s m n h k =
    let t = length_same h.text k.text r s m n h.is_length k.is_length (sym h.whole ∙ k.whole) in
    (t.number, t.rest)

-- a length has one fault
length_fault_same : (form : Bool) (o : List ℕ) (f g : BerFault) → LengthFault form o f → LengthFault form o g → f ≡ g
length_fault_same form [] f g h k = cc
length_fault_same form (l ∷ rest) f g (inl h) (inl k) = cc
length_fault_same form (l ∷ rest) f g (inl h) (inr (inl k)) = cc
length_fault_same form (l ∷ rest) f g (inl h) (inr (inr k)) = absurd (omega arith)
length_fault_same form (l ∷ rest) f g (inr (inl h)) (inl k) = cc
length_fault_same form (l ∷ rest) f g (inr (inl h)) (inr (inl k)) = cc
length_fault_same form (l ∷ rest) f g (inr (inl h)) (inr (inr k)) = absurd (omega arith)
length_fault_same form (l ∷ rest) f g (inr (inr h)) (inl k) = absurd (omega arith)
length_fault_same form (l ∷ rest) f g (inr (inr h)) (inr (inl k)) = absurd (omega arith)
length_fault_same form (l ∷ rest) f g (inr (inr h)) (inr (inr k)) = cc

-- Elements one after another

-- an element stands here
record Starts (depth : ℕ) (octets : List ℕ) : Type 0 where
  tree : Tree
  rest : List ℕ
  begins : Begins depth octets tree rest

-- two runs of whole elements over one text: the same, or one goes on with an element
meet : (depth : ℕ) (ss ts : Trees) (a b x y : List ℕ) → SpellsAll a ss → SpellsAll b ts → nesting_of_all ss ≤ depth → nesting_of_all ts ≤ depth
    → a ++ x ≡ b ++ y → (x ≡ y) ⊎ Starts depth x ⊎ Starts depth y
meet depth none none a b x y h k p q e = inl (sym (ap (λ (z : List ℕ). z ++ x) h) ∙ e ∙ ap (λ (z : List ℕ). z ++ y) k)
meet depth none (more t ts) a b x y h k p q e =
    inr (inl (record {
      tree = t;
      rest = k.1 ++ y;
      begins = record { text = k.0; spelled = k.3; nested = omega arith; whole = split_front a [] b k.1 [] k.0 x y h k.2 e };
    }))
meet depth (more s ss) none a b x y h k p q e =
    inr (inr (record {
      tree = s;
      rest = h.1 ++ x;
      begins = record { text = h.0; spelled = h.3; nested = omega arith; whole = sym (split_front a h.1 b [] h.0 [] x y h.2 k e) };
    }))
meet depth (more s ss) (more t ts) a b x y h k p q e =
    let r = unique s t h.0 k.0 (h.1 ++ x) (k.1 ++ y) h.3 k.3 (split_front a h.1 b k.1 h.0 k.0 x y h.2 k.2 e) in
    meet depth ss ts h.1 k.1 x y h.4 k.4 (omega arith) (omega arith) r.rest

-- no element stands where nothing does
nothing_starts : (depth : ℕ) → Starts depth [] → ⊥
nothing_starts depth s = no_start [] s.begins.text s.rest s.tree tt s.begins.spelled s.begins.whole

-- no element stands where the first octet is 00
end_starts_none : (depth : ℕ) (o : List ℕ) → Starts depth (0 ∷ o) → ⊥
end_starts_none depth o s = no_start (0 ∷ o) s.begins.text s.rest s.tree refl s.begins.spelled s.begins.whole

-- no element stands where there is one octet
one_starts_none : (depth a : ℕ) → Starts depth (a ∷ []) → ⊥
one_starts_none depth a s =
    let d = spelling_opens s.begins.text s.tree s.begins.spelled in
    let e : a ∷ [] ≡ d.first ∷ d.second ∷ (d.others ++ s.rest) = s.begins.whole ∙ ap (λ (z : List ℕ). z ++ s.rest) d.whole in
    cc

-- What lies in an element, given the laws of its own depth

-- where an element stands there is no fault
abbrev Excludes : ℕ → Faulty → Type 0
Excludes depth Inside = (o : List ℕ) (t : Tree) (after : List ℕ) (fault : BerFault) → Begins depth o t after → Inside o fault → ⊥

-- there is one fault
abbrev IsOne : Faulty → Type 0
IsOne Inside = (o : List ℕ) (f g : BerFault) → Inside o f → Inside o g → f ≡ g

-- where an element stands there is none of the faults of an element or an end
at_end_no_start : (depth : ℕ) (Inside : Faulty) → Excludes depth Inside → (o : List ℕ) (fault : BerFault) → Starts depth o → AtEnd Inside o fault → ⊥
at_end_no_start depth Inside ex [] fault s k = nothing_starts depth s
at_end_no_start depth Inside ex (a ∷ []) fault s k = one_starts_none depth a s
at_end_no_start depth Inside ex (a ∷ b ∷ o) fault s k = ex (a ∷ b ∷ o) s.tree s.rest fault s.begins k.1

-- where an element or an end should be there is one fault
at_end_same : (Inside : Faulty) → IsOne Inside → (o : List ℕ) (f g : BerFault) → AtEnd Inside o f → AtEnd Inside o g → f ≡ g
at_end_same Inside one [] f g h k = cc
at_end_same Inside one (a ∷ []) f g (inl h) (inl k) = cc
at_end_same Inside one (a ∷ []) f g (inl h) (inr k) = absurd (omega arith)
at_end_same Inside one (a ∷ []) f g (inr h) (inl k) = absurd (omega arith)
at_end_same Inside one (a ∷ []) f g (inr h) (inr k) = one (a ∷ []) f g h.1 k.1
at_end_same Inside one (a ∷ b ∷ o) f g h k = one (a ∷ b ∷ o) f g h.1 k.1

-- contents that are whole elements have no fault
contents_no_fault : (depth : ℕ) (Inside : Faulty) → Excludes depth Inside → (o : List ℕ) (ts : Trees) (fault : BerFault)
    → SpellsAll o ts → nesting_of_all ts ≤ depth → InContents depth Inside o fault → ⊥
contents_no_fault depth Inside ex o ts fault h p k =
    elim (meet depth ts k.before o k.whole.text [] k.rest h k.whole.spelled p k.whole.nested (append-nil o ∙ k.whole.whole)) [
      | inl e ↦ k.goes_on (sym e)
      | inr (inl s) ↦ nothing_starts depth s
      | inr (inr s) ↦ ex k.rest s.tree s.rest fault s.begins k.faulty
    ]

-- contents that are whole elements with an end behind them have no fault
open_no_fault : (depth : ℕ) (Inside : Faulty) → Excludes depth Inside → (o x : List ℕ) (ts : Trees) (fault : BerFault)
    → SpellsAll o ts → nesting_of_all ts ≤ depth → InOpen depth Inside (o ++ 0 ∷ 0 ∷ x) fault → ⊥
open_no_fault depth Inside ex o x ts fault h p k =
    elim (meet depth ts k.before o k.whole.text (0 ∷ 0 ∷ x) k.rest h k.whole.spelled p k.whole.nested k.whole.whole) [
      | inl e ↦
          let P : List ℕ → Type 0 = λ z. AtEnd Inside z fault in
          let q : AtEnd Inside (0 ∷ 0 ∷ x) fault = subst P (sym e) k.faulty in
          let z : 0 < 0 + 0 = q.0 in
          omega arith
      | inr (inl s) ↦ end_starts_none depth (0 ∷ x) s
      | inr (inr s) ↦ at_end_no_start depth Inside ex k.rest fault s k.faulty
    ]

-- contents have one fault
contents_same : (depth : ℕ) (Inside : Faulty) → Excludes depth Inside → IsOne Inside → (o : List ℕ) (f g : BerFault)
    → InContents depth Inside o f → InContents depth Inside o g → f ≡ g
contents_same depth Inside ex one o f g h k =
    elim (meet depth h.before k.before h.whole.text k.whole.text h.rest k.rest h.whole.spelled k.whole.spelled h.whole.nested k.whole.nested (sym h.whole.whole ∙ k.whole.whole)) [
      | inl e ↦
          let P : List ℕ → Type 0 = λ z. Inside z g in
          one h.rest f g h.faulty (subst P (sym e) k.faulty)
      | inr (inl s) ↦ absurd (ex h.rest s.tree s.rest f s.begins h.faulty)
      | inr (inr s) ↦ absurd (ex k.rest s.tree s.rest g s.begins k.faulty)
    ]

-- contents up to an end have one fault
open_same : (depth : ℕ) (Inside : Faulty) → Excludes depth Inside → IsOne Inside → (o : List ℕ) (f g : BerFault)
    → InOpen depth Inside o f → InOpen depth Inside o g → f ≡ g
open_same depth Inside ex one o f g h k =
    elim (meet depth h.before k.before h.whole.text k.whole.text h.rest k.rest h.whole.spelled k.whole.spelled h.whole.nested k.whole.nested (sym h.whole.whole ∙ k.whole.whole)) [
      | inl e ↦
          let P : List ℕ → Type 0 = λ z. AtEnd Inside z g in
          at_end_same Inside one h.rest f g h.faulty (subst P (sym e) k.faulty)
      | inr (inl s) ↦ absurd (at_end_no_start depth Inside ex h.rest f s h.faulty)
      | inr (inr s) ↦ absurd (at_end_no_start depth Inside ex k.rest g s k.faulty)
    ]

-- What stands behind a tag

-- a definite body has no fault but in its contents
definite_no_fault : (depth : ℕ) (Inside : Faulty) (form : Bool) (a u x : List ℕ) (fault : BerFault)
    → IsDefinite a u → (form ≡ true → InContents depth Inside u fault → ⊥) → BodyFault depth Inside form (a ++ x) fault → ⊥
definite_no_fault depth Inside form a u x fault h within k =
    let l : BeginsLength (a ++ x) (length u) (u ++ x) =
    record { text = h.size; is_length = h.is_length; whole = ap (λ (z : List ℕ). z ++ x) h.whole ∙ append_assoc h.size u x } in
    elim k [
      | inl v ↦ length_no_fault form (a ++ x) (u ++ x) (length u) fault l v
      | inr (inl v) ↦
          let s = begins_length_same (a ++ x) (u ++ x) v.1 (length u) v.0 l v.2 in
          let z : length (u ++ x) ≡ length v.1 = ap length s.1 in
          omega (arith, length-append u x)
      | inr (inr (inl v)) ↦
          let s = begins_length_same (a ++ x) (u ++ x) (v.1 ++ v.2) (length u) v.0 l v.4 in
          let t = same_front u v.1 x v.2 (s.0 ∙ sym v.5) s.1 in
          let P : List ℕ → Type 0 = λ z. InContents depth Inside z fault in
          within v.3 (subst P (sym t.0) v.6)
      | inr (inr (inr v)) ↦ length_not_open (a ++ x) (u ++ x) (length u) v.0 l v.2
    ]

-- an indefinite body has no fault but in its contents
indefinite_no_fault : (depth : ℕ) (Inside : Faulty) (a u x : List ℕ) (fault : BerFault)
    → IsIndefinite a u → (InOpen depth Inside (u ++ 0 ∷ 0 ∷ x) fault → ⊥) → BodyFault depth Inside true (a ++ x) fault → ⊥
indefinite_no_fault depth Inside a u x fault h within k =
    let e : a ++ x ≡ 0x80 ∷ (u ++ 0 ∷ 0 ∷ x) = ap (λ (z : List ℕ). z ++ x) h ∙ ap (λ (z : List ℕ). 0x80 ∷ z) (append_assoc u (0 ∷ 0 ∷ []) x) in
    elim k [
      | inl v ↦ open_no_length_fault (a ++ x) (u ++ 0 ∷ 0 ∷ x) fault v e
      | inr (inl v) ↦ length_not_open (a ++ x) v.1 v.0 (u ++ 0 ∷ 0 ∷ x) v.2 e
      | inr (inr (inl v)) ↦ length_not_open (a ++ x) (v.1 ++ v.2) v.0 (u ++ 0 ∷ 0 ∷ x) v.4 e
      | inr (inr (inr v)) ↦
          let s : v.0 ≡ u ++ 0 ∷ 0 ∷ x = cc in
          let P : List ℕ → Type 0 = λ z. InOpen depth Inside z fault in
          within (subst P s v.3)
    ]

-- a body has one fault
body_fault_same : (depth : ℕ) (Inside : Faulty) → Excludes depth Inside → IsOne Inside → (form : Bool) (o : List ℕ) (f g : BerFault)
    → BodyFault depth Inside form o f → BodyFault depth Inside form o g → f ≡ g
body_fault_same depth Inside ex one form o f g (inl h) (inl k) = length_fault_same form o f g h k
body_fault_same depth Inside ex one form o f g (inl h) (inr (inl k)) = absurd (length_no_fault form o k.1 k.0 f k.2 h)
body_fault_same depth Inside ex one form o f g (inl h) (inr (inr (inl k))) = absurd (length_no_fault form o (k.1 ++ k.2) k.0 f k.4 h)
body_fault_same depth Inside ex one form o f g (inl h) (inr (inr (inr k))) =
    let P : Bool → Type 0 = λ b. LengthFault b o f in
    absurd (open_no_length_fault o k.0 f (subst P k.1 h) k.2)
body_fault_same depth Inside ex one form o f g (inr (inl h)) (inl k) = absurd (length_no_fault form o h.1 h.0 g h.2 k)
body_fault_same depth Inside ex one form o f g (inr (inl h)) (inr (inl k)) = cc
body_fault_same depth Inside ex one form o f g (inr (inl h)) (inr (inr (inl k))) =
    let s = begins_length_same o h.1 (k.1 ++ k.2) h.0 k.0 h.2 k.4 in
    let z : length h.1 ≡ length (k.1 ++ k.2) = ap length s.1 in
    absurd (omega (arith, length-append k.1 k.2))
body_fault_same depth Inside ex one form o f g (inr (inl h)) (inr (inr (inr k))) = absurd (length_not_open o h.1 h.0 k.0 h.2 k.2)
body_fault_same depth Inside ex one form o f g (inr (inr (inl h))) (inl k) = absurd (length_no_fault form o (h.1 ++ h.2) h.0 g h.4 k)
body_fault_same depth Inside ex one form o f g (inr (inr (inl h))) (inr (inl k)) =
    let s = begins_length_same o k.1 (h.1 ++ h.2) k.0 h.0 k.2 h.4 in
    let z : length k.1 ≡ length (h.1 ++ h.2) = ap length s.1 in
    absurd (omega (arith, length-append h.1 h.2))
body_fault_same depth Inside ex one form o f g (inr (inr (inl h))) (inr (inr (inl k))) =
    let s = begins_length_same o (h.1 ++ h.2) (k.1 ++ k.2) h.0 k.0 h.4 k.4 in
    let t = same_front h.1 k.1 h.2 k.2 (h.5 ∙ s.0 ∙ sym k.5) s.1 in
    let P : List ℕ → Type 0 = λ z. InContents depth Inside z g in
    contents_same depth Inside ex one h.1 f g h.6 (subst P (sym t.0) k.6)
body_fault_same depth Inside ex one form o f g (inr (inr (inl h))) (inr (inr (inr k))) = absurd (length_not_open o (h.1 ++ h.2) h.0 k.0 h.4 k.2)
body_fault_same depth Inside ex one form o f g (inr (inr (inr h))) (inl k) =
    let P : Bool → Type 0 = λ b. LengthFault b o g in
    absurd (open_no_length_fault o h.0 g (subst P h.1 k) h.2)
body_fault_same depth Inside ex one form o f g (inr (inr (inr h))) (inr (inl k)) = absurd (length_not_open o k.1 k.0 h.0 k.2 h.2)
body_fault_same depth Inside ex one form o f g (inr (inr (inr h))) (inr (inr (inl k))) = absurd (length_not_open o (k.1 ++ k.2) k.0 h.0 k.4 h.2)
body_fault_same depth Inside ex one form o f g (inr (inr (inr h))) (inr (inr (inr k))) =
    let s : k.0 ≡ h.0 = cc in
    let P : List ℕ → Type 0 = λ z. InOpen depth Inside z g in
    open_same depth Inside ex one h.0 f g h.3 (subst P s k.3)

-- Elements

-- where an element stands there is no fault
element_no_fault : (depth : ℕ) → Excludes depth (ElementFault depth) → Excludes (suc depth) (ElementFault (suc depth))
element_no_fault depth ex o (primitive c n octets) after fault b (inl k) =
    let h = b.spelled in
    let e : o ≡ h.0 ++ (h.1 ++ after) = b.whole ∙ ap (λ (z : List ℕ). z ++ after) h.2 ∙ append_assoc h.0 h.1 after in
    begins_tag_no_fault o (h.1 ++ after) c false n fault (record { text = h.0; is_tag = h.3; whole = e }) k
element_no_fault depth ex o (primitive c n octets) after fault b (inr k) =
    let h = b.spelled in
    let e : o ≡ h.0 ++ (h.1 ++ after) = b.whole ∙ ap (λ (z : List ℕ). z ++ after) h.2 ∙ append_assoc h.0 h.1 after in
    let s = tag_same h.0 k.4.text (h.1 ++ after) k.3 c k.0 false k.1 n k.2 h.3 k.4.is_tag (sym e ∙ k.4.whole) in
    let P : Bool → List ℕ → Type 0 = λ f z. BodyFault depth (ElementFault depth) f z fault in
    definite_no_fault depth (ElementFault depth) false h.1 octets after fault h.4 (λ f. let g : false ≡ true = f in absurd (cc))
    (subst₂ P (sym s.form) (sym s.rest) k.5)
element_no_fault depth ex o (constructed c n ts) after fault b (inl k) =
    let h = b.spelled in
    let e : o ≡ h.0 ++ (h.1 ++ after) = b.whole ∙ ap (λ (z : List ℕ). z ++ after) h.3 ∙ append_assoc h.0 h.1 after in
    begins_tag_no_fault o (h.1 ++ after) c true n fault (record { text = h.0; is_tag = h.4; whole = e }) k
element_no_fault depth ex o (constructed c n ts) after fault b (inr k) =
    let h = b.spelled in
    let p : nesting_of_all ts ≤ depth = omega arith in
    let e : o ≡ h.0 ++ (h.1 ++ after) = b.whole ∙ ap (λ (z : List ℕ). z ++ after) h.3 ∙ append_assoc h.0 h.1 after in
    let s = tag_same h.0 k.4.text (h.1 ++ after) k.3 c k.0 true k.1 n k.2 h.4 k.4.is_tag (sym e ∙ k.4.whole) in
    let P : Bool → List ℕ → Type 0 = λ f z. BodyFault depth (ElementFault depth) f z fault in
    let q : BodyFault depth (ElementFault depth) true (h.1 ++ after) fault = subst₂ P (sym s.form) (sym s.rest) k.5 in
    elim h.6 [
      | inl d ↦ definite_no_fault depth (ElementFault depth) true h.1 h.2 after fault d (λ f. contents_no_fault depth (ElementFault depth) ex h.2 ts fault h.5 p) q
      | inr d ↦ indefinite_no_fault depth (ElementFault depth) h.1 h.2 after fault d (open_no_fault depth (ElementFault depth) ex h.2 after ts fault h.5 p) q
    ]

-- no element stands where none may lie
none_at_zero : Excludes zero (ElementFault zero)
none_at_zero o (primitive c n octets) after fault b k = omega arith
none_at_zero o (constructed c n ts) after fault b k = omega arith

-- at any depth, where an element stands there is no fault
excludes : (depth : ℕ) → Excludes depth (ElementFault depth)
excludes zero = none_at_zero
excludes (suc depth) = element_no_fault depth (excludes depth)

-- at any depth there is one fault
is_one : (depth : ℕ) → IsOne (ElementFault depth)
is_one zero o f g h k = cc
is_one (suc depth) o f g (inl h) (inl k) = tag_fault_same o f g h k
is_one (suc depth) o f g (inl h) (inr k) = absurd (begins_tag_no_fault o k.3 k.0 k.1 k.2 f k.4 h)
is_one (suc depth) o f g (inr h) (inl k) = absurd (begins_tag_no_fault o h.3 h.0 h.1 h.2 g h.4 k)
is_one (suc depth) o f g (inr h) (inr k) =
    let s = tag_same h.4.text k.4.text h.3 k.3 h.0 k.0 h.1 k.1 h.2 k.2 h.4.is_tag k.4.is_tag (sym h.4.whole ∙ k.4.whole) in
    let P : Bool → List ℕ → Type 0 = λ b z. BodyFault depth (ElementFault depth) b z g in
    body_fault_same depth (ElementFault depth) (excludes depth) (is_one depth) h.1 h.3 f g h.5 (subst₂ P (sym s.form) (sym s.rest) k.5)

-- Whole texts

-- a spelling in range has no fault
pub spelled_no_fault : (o : List ℕ) (t : Tree) (fault : BerFault) → Spells o t → nesting t ≤ 16 → FirstFault o fault → ⊥
spelled_no_fault o t fault h p (inl k) =
    excludes 16 o t [] fault (record { text = o; spelled = h; nested = p; whole = sym (append-nil o) }) k
spelled_no_fault o t fault h p (inr k) =
    let s = unique t k.0 o k.2.text [] k.1 h k.2.spelled (append-nil o ∙ k.2.whole) in
    k.3 (sym s.rest)

-- a text has one fault
pub one_fault : (o : List ℕ) (f g : BerFault) → FirstFault o f → FirstFault o g → f ≡ g
one_fault o f g (inl h) (inl k) = is_one 16 o f g h k
one_fault o f g (inl h) (inr k) = absurd (excludes 16 o k.0 k.1 f k.2 h)
one_fault o f g (inr h) (inl k) = absurd (excludes 16 o h.0 h.1 g h.2 k)
one_fault o f g (inr h) (inr k) = cc
