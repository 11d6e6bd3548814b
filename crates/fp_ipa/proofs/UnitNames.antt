-- The unit name that the contents of an ID_RESP say.
use Rattle.std.proofs.Common.{◌≡◌, ◌≢◌, ℕ, ◌+◌, ◌-◌, ◌*◌, ◌/◌, ◌%◌, ◌≤◌, ◌<◌, List, [], ◌∷◌, ◌++◌, length, get_or, take, drop, refl, sym, ◌∙◌, ap, subst, arith}
use Rattle.std.specs.Prelude.{Some, slice_get}
use Rattle.std.proofs.lemmas.List.{drop-drop, drop_at, length-take-le, take-append-drop, take_at, take_rest}
use Rattle.fp_ipa.specs.Identity.{HasUnitNameAfter, Item, NamesUnit, SaysUnitName, item_octets, item_of, without_end}
use Rattle.fp_ipa.specs.Laws.{UnitNamesAreOne}

-- octets begin with one item
pub same_first : (one other : Item) (after others : List ℕ)
    → item_octets one ++ after ≡ item_octets other ++ others → (one ≡ other) × (after ≡ others)
same_first one other after others e =
    let most = ap (λ o. get_or o 0 0) e in
    let least = ap (λ o. get_or o 1 0) e in
    let same_tag : one.tag ≡ other.tag = ap (λ o. get_or o 2 0) e in
    let same_size : length one.value ≡ length other.value = omega (arith, most, least) in
    let behind : one.value ++ after ≡ other.value ++ others = ap (drop 3) e in
    let value : one.value ≡ other.value =
    sym (take_at one.value after (length one.value) refl) ∙ ap (take (length one.value)) behind
    ∙ take_at other.value others (length one.value) (sym same_size) in
    let rest : after ≡ others =
    sym (drop_at one.value after (length one.value) refl) ∙ ap (drop (length one.value)) behind
    ∙ drop_at other.value others (length one.value) (sym same_size) in
    (λ i. record { tag = same_tag i; value = value i }, rest)

-- an item that is there whole is first
pub item_first : (octets : List ℕ) (size : ℕ) → 3 ≤ length octets → size ≡ get_or octets 0 0 * 256 + get_or octets 1 0
    → get_or octets 1 0 < 256 → size ≢ 0 → 2 + size ≤ length octets
    → octets ≡ item_octets (item_of (get_or octets 2 0) (take (2 + size - 3) (drop 3 octets)))
    ++ take (length octets - (2 + size)) (drop (2 + size) octets)
item_first [] size three is low some fits = absurd (omega (arith, three))
item_first (a ∷ []) size three is low some fits = absurd (omega (arith, three))
item_first (a ∷ b ∷ []) size three is low some fits = absurd (omega (arith, three))
item_first (a ∷ b ∷ c ∷ behind) size three is low some fits =
    let whole : List ℕ = a ∷ b ∷ c ∷ behind in
    let left = 2 + size - 3 in
    let within : left ≤ length behind = omega (arith, fits, some) in
    let long : length (take left behind) ≡ left = length-take-le left behind within in
    let high : (1 + length (take left behind)) / 256 ≡ a = omega (arith, long, is, low, some) in
    let least : (1 + length (take left behind)) % 256 ≡ b = omega (arith, long, is, low, some) in
    let place : 2 + size ≡ 3 + left = omega (arith, some) in
    let after : take (length whole - (2 + size)) (drop (2 + size) whole) ≡ drop left behind =
    take_rest whole (2 + size) ∙ ap (λ n. drop n whole) place ∙ sym (drop-drop left 3 whole) in
    let rest : take left behind ++ take (length whole - (2 + size)) (drop (2 + size) whole) ≡ behind =
    ap (λ o. take left behind ++ o) after ∙ take-append-drop left behind in
    λ i. sym high i ∷ sym least i ∷ c ∷ sym rest i

-- the first item is a unit name
pub at_name : (rest after value : List ℕ) (tag : ℕ) → rest ≡ item_octets (item_of tag value) ++ after → tag ≡ 1 → SaysUnitName rest value
at_name rest after value tag is named =
    ([], (after, is ∙ ap (λ t. item_octets (item_of t value) ++ after) named))

-- no item is first, so no unit name is said
none_at : (rest value : List ℕ) (items : List Item) → ((item : Item) (after : List ℕ) → rest ≢ item_octets item ++ after)
    → HasUnitNameAfter items rest value → ⊥
none_at rest value [] none has = none (item_of 1 value) has.0 has.1
none_at rest value (item ∷ items) none has = none item has.1.0 has.1.1

pub none_first : (rest value : List ℕ) → ((item : Item) (after : List ℕ) → rest ≢ item_octets item ++ after) → SaysUnitName rest value → ⊥
none_first rest value none says = none_at rest value says.0 none says.1

-- no octets say a unit name
nothing_at : (rest value : List ℕ) (items : List Item) → length rest ≡ 0 → HasUnitNameAfter items rest value → ⊥
nothing_at rest value [] few has = let long = ap length has.1 in omega (arith, few, long)
nothing_at rest value (item ∷ items) few has = let long = ap length has.1.1 in omega (arith, few, long)

pub nothing : (rest value : List ℕ) → length rest ≡ 0 → SaysUnitName rest value → ⊥
nothing rest value few says = nothing_at rest value says.0 few says.1

-- after an item that is no unit name, the others say what all say
pub forward : (rest after value : List ℕ) (item : Item) → rest ≡ item_octets item ++ after → item.tag ≢ 1
    → SaysUnitName after value → SaysUnitName rest value
forward rest after value item is other says = (item ∷ says.0, (other, (after, is, says.1)))

back_at : (rest after value : List ℕ) (item : Item) (items : List Item) → rest ≡ item_octets item ++ after → item.tag ≢ 1
    → HasUnitNameAfter items rest value → SaysUnitName after value
back_at rest after value item [] is other has =
    absurd (other (ap (λ i. i.tag) (same_first item (item_of 1 value) after has.0 (sym is ∙ has.1)).0))
back_at rest after value item (first ∷ items) is other has =
    let same = same_first first item has.1.0 after (sym has.1.1 ∙ is) in
    (items, subst (λ o. HasUnitNameAfter items o value) same.1 has.1.2)

pub back : (rest after value : List ℕ) (item : Item) → rest ≡ item_octets item ++ after → item.tag ≢ 1
    → SaysUnitName rest value → SaysUnitName after value
back rest after value item is other says = back_at rest after value item says.0 is other says.1

-- contents say one unit name
one_first : (contents one rest other : List ℕ) (items : List Item) → contents ≡ item_octets (item_of 1 one) ++ rest
    → HasUnitNameAfter items contents other → one ≡ other
one_first contents one rest other [] is has =
    ap (λ i. i.value) (same_first (item_of 1 one) (item_of 1 other) rest has.0 (sym is ∙ has.1)).0
one_first contents one rest other (item ∷ items) is has =
    absurd (has.0 (ap (λ i. i.tag) (same_first item (item_of 1 one) has.1.0 rest (sym has.1.1 ∙ is)).0))

one_at : (contents one other : List ℕ) (items : List Item) → HasUnitNameAfter items contents one → SaysUnitName contents other → one ≡ other
one_at contents one other [] a b = one_first contents one a.0 other b.0 a.1 b.1
one_at contents one other (item ∷ items) a b =
    one_at a.1.0 one other items a.1.2 (back contents a.1.0 other item a.1.1 a.0 b)

pub unit_names_are_one : UnitNamesAreOne
unit_names_are_one contents one other a b = one_at contents one other a.0 a.1 b

-- contents whose unit name is none of the names name no unit
pub names_none : (names : List (List ℕ)) (contents value : List ℕ) (unit : ℕ) → SaysUnitName contents value
    → ((place : ℕ) → slice_get names place ≢ Some (without_end value)) → NamesUnit names contents unit → ⊥
names_none names contents value unit says none named =
    let same = unit_names_are_one contents named.0 value named.1 says in
    none unit (named.2.there ∙ ap (λ v. Some (without_end v)) same)
