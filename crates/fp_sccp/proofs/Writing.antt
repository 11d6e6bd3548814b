-- What is written is read back.
use Rattle.std.proofs.Common.{◌≡◌, ℕ, ◌+◌, ◌-◌, ◌%◌, ◌≤◌, false, List, [], ◌∷◌, ◌++◌, length, get_or, take, drop, slice_index, slice_range, refl, sym, ◌∙◌, ap, inl, arith, append_assoc, length-append}
use Rattle.std.proofs.lemmas.List.{append-nil, drop_at, get_or_at, take_at}
use Rattle.fp_sccp.specs.declared.protocol_class.ProtocolClass.{ProtocolClass}
use Rattle.fp_sccp.specs.declared.protocol_class.ProtocolClass.TheVariants.{Basic, Sequenced}
use Rattle.fp_sccp.specs.Laws.{AddressesAreReadBack, ExtendedServicesHaveParts, ServicesAreReadBack, UnitDataIsReadBack}
use Rattle.fp_sccp.specs.Parts.{HasPart, HasParts, part_of, place_of}
use Rattle.fp_sccp.specs.ProtocolClass.{class_code, is_returned}
use Rattle.fp_sccp.specs.Written.{counted, parameters_octets}

-- the pointer at a place leads to this part
record Leads (octets : List ℕ) (head at : ℕ) (part : List ℕ) : Type 0 where
  has : HasPart octets head at
  is : part ≡ part_of octets at

-- a pointer to the place after some octets leads to the part that is there
leads_to : (octets front part rest : List ℕ) (head at : ℕ) → octets ≡ front ++ (counted part ++ rest)
    → place_of octets at ≡ length front → head ≤ length front → 1 ≤ length part → Leads octets head at part
leads_to octets front part rest head at is place after some =
    let l = length front in
    let n = length part in
    let size : slice_index octets l ≡ n = ap (λ o. get_or o l 0) is ∙ get_or_at front n (part ++ rest) 0 l refl in
    let here : slice_index octets (place_of octets at) ≡ n = ap (λ p. slice_index octets p) place ∙ size in
    let long = ap length is in
    let first = length-append front (counted part ++ rest) in
    let second = length-append part rest in
    let regrouped : octets ≡ (front ++ (n ∷ [])) ++ (part ++ rest) =
    is ∙ sym (append_assoc front (n ∷ []) (part ++ rest)) in
    let one_more : length (front ++ (n ∷ [])) ≡ l + 1 = length-append front (n ∷ []) in
    let behind : drop (l + 1) octets ≡ part ++ rest =
    ap (drop (l + 1)) regrouped ∙ drop_at (front ++ (n ∷ [])) (part ++ rest) (l + 1) one_more in
    let count : (l + 1 + n) - (l + 1) ≡ n = omega arith in
    let read : slice_range octets (l + 1) (l + 1 + n) ≡ part =
    (λ i. take (count i) (behind i)) ∙ take_at part rest n refl in
    record {
      has = record {
        after_head = omega (arith, place, after);
        within = omega (arith, place, long, first, second);
        some = omega (arith, here, some);
        whole = omega (arith, place, here, long, first, second);
      };
      is = sym read ∙ (λ i. slice_range octets (sym place i + 1) (sym place i + 1 + sym here i));
    }

-- pointers to parts that follow each other lead to them
parts_of : (octets front called calling user_data : List ℕ) (head first : ℕ)
    → octets ≡ front ++ parameters_octets called calling user_data → length front ≡ head
    → place_of octets first ≡ head → place_of octets (first + 1) ≡ head + 1 + length called
    → place_of octets (first + 2) ≡ head + 2 + length called + length calling
    → 1 ≤ length called → 1 ≤ length calling → 1 ≤ length user_data
    → HasParts octets head first called calling user_data
parts_of octets front called calling user_data head first is size one two three some_called some_calling some_data =
    let c = counted called in
    let g = counted calling in
    let u = counted user_data in
    let to_called : octets ≡ front ++ (c ++ (g ++ u)) = is ∙ ap (λ o. front ++ o) (append_assoc c g u) in
    let to_calling : octets ≡ (front ++ c) ++ (g ++ u) = to_called ∙ sym (append_assoc front c (g ++ u)) in
    let to_data : octets ≡ (front ++ c ++ g) ++ (u ++ []) =
    to_calling ∙ sym (append_assoc (front ++ c) g u) ∙ ap (λ o. (front ++ c ++ g) ++ o) (sym (append-nil u)) in
    let first_size = length-append front c in
    let second_size = length-append (front ++ c) g in
    let at_called = leads_to octets front called (g ++ u) head first to_called (omega (arith, one, size)) (omega (arith, size)) some_called in
    let at_calling = leads_to octets (front ++ c) calling u head (first + 1) to_calling
    (omega (arith, two, size, first_size)) (omega (arith, size, first_size)) some_calling in
    let at_data = leads_to octets (front ++ c ++ g) user_data [] head (first + 2) to_data
    (omega (arith, three, size, first_size, second_size)) (omega (arith, size, first_size, second_size)) some_data in
    record {
      has_called = at_called.has;
      has_calling = at_calling.has;
      has_user_data = at_data.has;
      called_is = at_called.is;
      calling_is = at_calling.is;
      user_data_is = at_data.is;
    }

class_is : (class : ProtocolClass) → class_code class ≡ class_code class % 16
class_is Basic = refl
class_is Sequenced = refl

class_returns : (class : ProtocolClass) → false ≡ is_returned (class_code class)
class_returns Basic = refl
class_returns Sequenced = refl

pub unit_data_is_read_back : UnitDataIsReadBack
unit_data_is_read_back class called calling user_data some_called some_calling some_data = inl (record {
  kind = refl;
  code = refl;
  class = class_is class;
  returned = class_returns class;
  parts = parts_of _ (9 ∷ class_code class ∷ 3 ∷ (3 + length called) ∷ (3 + length called + length calling) ∷ [])
      called calling user_data 5 2 refl refl refl (omega arith) (omega arith) some_called some_calling some_data;
})

pub services_are_read_back : ServicesAreReadBack
services_are_read_back cause called calling user_data some_called some_calling some_data = record {
  code = refl;
  cause = refl;
  parts = parts_of _ (10 ∷ _ ∷ 3 ∷ (3 + length called) ∷ (3 + length called + length calling) ∷ [])
      called calling user_data 5 2 refl refl refl (omega arith) (omega arith) some_called some_calling some_data;
}

pub extended_services_have_parts : ExtendedServicesHaveParts
extended_services_have_parts code called calling user_data some_called some_calling some_data = (
  parts_of _ (18 ∷ code ∷ 15 ∷ 4 ∷ (4 + length called) ∷ (4 + length called + length calling) ∷ 0 ∷ [])
      called calling user_data 7 3 refl refl refl (omega arith) (omega arith) some_called some_calling some_data,
  refl,
)

pub addresses_are_read_back : AddressesAreReadBack
addresses_are_read_back code number below = (
  record { said = refl; there = omega arith },
  omega (arith, below),
  record { said = refl; there = omega arith },
  refl,
)
