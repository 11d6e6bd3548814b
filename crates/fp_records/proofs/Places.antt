-- The fields of a record, place by place.
use Rattle.std.proofs.Common.{◌≡◌, ◌≢◌, ℕ, ◌<◌, ◌≤◌, zero, suc, List, [], ◌∷◌, Some, None, drop, length, false, refl, arith}
use Rattle.std.proofs.lemmas.List.{drop_all}
use Rattle.csv.specs.Records.{field_at}
use Rattle.std.specs.Prelude.{Err, bytes_eq}
use Rattle.fp_records.specs.Closed.{closed_in}
use Rattle.fp_records.specs.Head.{head_of}
use Rattle.fp_records.specs.Version.{begins_with, names_two}
use Rattle.fp_records.specs.declared.fault.Reason.TheVariants.{BadClosed}

-- no place within a record is without a field
pub field_within : (fields : List (List ℕ)) (place : ℕ) → place < length fields → None ≡ field_at fields place → ⊥
unfolding field_at
field_within [] place within none = omega arith
field_within (field ∷ fields) zero within none = cc none
field_within (field ∷ fields) (suc place) within none = field_within fields place (omega arith) none

-- a field comes before those after it
pub drop-field : (fields : List (List ℕ)) (place : ℕ) (field : List ℕ) → Some field ≡ field_at fields place → drop place fields ≡ field ∷ drop (suc place) fields
unfolding field_at
drop-field [] place field at = cc at
drop-field (first ∷ rest) zero field at =
    let same : field ≡ first = cc in
    rw same refl
drop-field (first ∷ rest) (suc place) field at = drop-field rest place field at

-- a record of another number of fields is no head
pub head_of_others : (fields : List (List ℕ)) → length fields ≢ 3 → head_of fields ≡ None
head_of_others [] other = refl
head_of_others (a ∷ []) other = refl
head_of_others (a ∷ b ∷ []) other = refl
head_of_others (a ∷ b ∷ c ∷ []) other = absurd (other refl)
head_of_others (a ∷ b ∷ c ∷ d ∷ rest) other = refl

-- the fields of a record that has three
pub three : (fields : List (List ℕ)) (a b c : List ℕ) → length fields ≡ 3 → Some a ≡ field_at fields 0 → Some b ≡ field_at fields 1 → Some c ≡ field_at fields 2 → fields ≡ a ∷ b ∷ c ∷ []
three fields a b c size at_0 at_1 at_2 =
    let past : length fields ≤ 3 = omega arith in
    let e0 : fields ≡ a ∷ drop 1 fields = drop-field fields 0 a at_0 in
    let e1 = drop-field fields 1 b at_1 in
    let e2 = drop-field fields 2 c at_2 in
    let e3 = drop_all 3 fields past in
    cc (e0, e1, e2, e3)

-- and of one that has two
pub two : (fields : List (List ℕ)) (a b : List ℕ) → length fields ≡ 2 → Some a ≡ field_at fields 0 → Some b ≡ field_at fields 1 → fields ≡ a ∷ b ∷ []
two fields a b size at_0 at_1 =
    let past : length fields ≤ 2 = omega arith in
    let e0 : fields ≡ a ∷ drop 1 fields = drop-field fields 0 a at_0 in
    let e1 = drop-field fields 1 b at_1 in
    let e2 = drop_all 2 fields past in
    cc (e0, e1, e2)

-- a record of another number of fields is no closed day
pub closed_in_others : (fields : List (List ℕ)) → length fields ≢ 3 → closed_in fields ≡ Err BadClosed
closed_in_others [] other = refl
closed_in_others (a ∷ []) other = refl
closed_in_others (a ∷ b ∷ []) other = refl
closed_in_others (a ∷ b ∷ c ∷ []) other = absurd (other refl)
closed_in_others (a ∷ b ∷ c ∷ d ∷ rest) other = refl

-- nor the line of version 2
pub names_two_others : (fields : List (List ℕ)) → length fields ≢ 2 → names_two fields ≡ false
names_two_others [] other = refl
names_two_others (a ∷ []) other = refl
names_two_others (a ∷ b ∷ []) other = absurd (other refl)
names_two_others (a ∷ b ∷ c ∷ rest) other = refl

-- the word that a record begins with is its first field
pub begins_with_first : (word : List ℕ) (fields : List (List ℕ)) (name : List ℕ) → Some name ≡ field_at fields 0 → begins_with word fields ≡ bytes_eq name word
unfolding field_at
begins_with_first word [] name at = cc at
begins_with_first word (first ∷ fields) name at =
    let same : name ≡ first = cc in
    rw same refl

pub begins_with_none : (word : List ℕ) (fields : List (List ℕ)) → None ≡ field_at fields 0 → begins_with word fields ≡ false
unfolding field_at
begins_with_none word [] at = refl
begins_with_none word (first ∷ fields) at = cc at
