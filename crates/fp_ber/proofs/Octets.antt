-- The front of a text, and the tags and lengths that stand there.
use Rattle.std.proofs.Common.{◌≡◌, ℕ, zero, suc, ◌+◌, ◌-◌, ◌*◌, ◌/◌, ◌%◌, ◌<◌, ◌≤◌, Bool, nat_eq, List, [], ◌∷◌, length, get_or, take, drop, refl, sym, ◌∙◌, ap, subst, arith}
use Rattle.std.proofs.lemmas.List.{take_rest}
use Rattle.fp_ber.specs.declared.element.Class.{Class}
use Rattle.fp_ber.specs.Tree.{class_code}
use Rattle.fp_ber.specs.Spelling.{first_octet, BeginsTag, BeginsLength}

-- what stands behind the first octets, as a slice pattern gives it
abbrev pub behind : ℕ → List ℕ → List ℕ
behind n s = take (length s - n) (drop n s)

-- a text is its first octet and what stands behind it
pub front_one : (s : List ℕ) → 1 ≤ length s → s ≡ get_or s 0 0 ∷ behind 1 s
front_one [] h = absurd (omega arith)
front_one (x ∷ xs) h = ap (λ (r : List ℕ). x ∷ r) (sym (take_rest (x ∷ xs) 1))

-- the same of two octets
pub front_two : (s : List ℕ) → 2 ≤ length s → s ≡ get_or s 0 0 ∷ get_or s 1 0 ∷ behind 2 s
front_two [] h = absurd (omega arith)
front_two (x ∷ []) h = absurd (omega arith)
front_two (x ∷ y ∷ xs) h = ap (λ (r : List ℕ). x ∷ y ∷ r) (sym (take_rest (x ∷ y ∷ xs) 2))

-- the same of three octets
pub front_three : (s : List ℕ) → 3 ≤ length s → s ≡ get_or s 0 0 ∷ get_or s 1 0 ∷ get_or s 2 0 ∷ behind 3 s
front_three [] h = absurd (omega arith)
front_three (x ∷ []) h = absurd (omega arith)
front_three (x ∷ y ∷ []) h = absurd (omega arith)
front_three (x ∷ y ∷ z ∷ xs) h = ap (λ (r : List ℕ). x ∷ y ∷ z ∷ r) (sym (take_rest (x ∷ y ∷ z ∷ xs) 3))

-- the same of four octets
pub front_four : (s : List ℕ) → 4 ≤ length s → s ≡ get_or s 0 0 ∷ get_or s 1 0 ∷ get_or s 2 0 ∷ get_or s 3 0 ∷ behind 4 s
front_four [] h = absurd (omega arith)
front_four (x ∷ []) h = absurd (omega arith)
front_four (x ∷ y ∷ []) h = absurd (omega arith)
front_four (x ∷ y ∷ z ∷ []) h = absurd (omega arith)
front_four (x ∷ y ∷ z ∷ w ∷ xs) h = ap (λ (r : List ℕ). x ∷ y ∷ z ∷ w ∷ r) (sym (take_rest (x ∷ y ∷ z ∷ w ∷ xs) 4))

-- a length in the short form
pub short_length : (s : List ℕ) (n : ℕ) → 1 ≤ length s → get_or s 0 0 < 128 → n ≡ get_or s 0 0 → BeginsLength s n (behind 1 s)
short_length s n one small is = record {
  text = get_or s 0 0 ∷ [];
  is_length = (small, is);
  whole = front_one s one;
}

-- a length in one octet behind 81
pub long_length_one : (s : List ℕ) (n : ℕ) → 1 ≤ length s → get_or s 0 0 ≡ 0x81 → 1 ≤ length (behind 1 s) → n ≡ get_or (behind 1 s) 0 0
    → BeginsLength s n (behind 1 (behind 1 s))
long_length_one s n one first rest is =
    let r = behind 1 s in record {
      text = get_or s 0 0 ∷ get_or r 0 0 ∷ [];
      is_length = (first, is);
      whole = front_one s one ∙ ap (λ (t : List ℕ). get_or s 0 0 ∷ t) (front_one r rest);
    }

-- a length in two octets behind 82
pub long_length_two : (s : List ℕ) (n : ℕ) → 1 ≤ length s → get_or s 0 0 ≡ 0x82 → 2 ≤ length (behind 1 s)
    → n ≡ 256 * get_or (behind 1 s) 0 0 + get_or (behind 1 s) 1 0 → BeginsLength s n (behind 2 (behind 1 s))
long_length_two s n one first rest is =
    let r = behind 1 s in record {
      text = get_or s 0 0 ∷ get_or r 0 0 ∷ get_or r 1 0 ∷ [];
      is_length = (first, is);
      whole = front_one s one ∙ ap (λ (t : List ℕ). get_or s 0 0 ∷ t) (front_two r rest);
    }

-- a length in three octets behind 83
pub long_length_three : (s : List ℕ) (n : ℕ) → 1 ≤ length s → get_or s 0 0 ≡ 0x83 → 3 ≤ length (behind 1 s)
    → n ≡ 256 * (256 * get_or (behind 1 s) 0 0 + get_or (behind 1 s) 1 0) + get_or (behind 1 s) 2 0
    → BeginsLength s n (behind 3 (behind 1 s))
long_length_three s n one first rest is =
    let r = behind 1 s in record {
      text = get_or s 0 0 ∷ get_or r 0 0 ∷ get_or r 1 0 ∷ get_or r 2 0 ∷ [];
      is_length = (first, is);
      whole = front_one s one ∙ ap (λ (t : List ℕ). get_or s 0 0 ∷ t) (front_three r rest);
    }

-- a length in four octets behind 84
pub long_length_four : (s : List ℕ) (n : ℕ) → 1 ≤ length s → get_or s 0 0 ≡ 0x84 → 4 ≤ length (behind 1 s)
    → n ≡ 256 * (256 * (256 * get_or (behind 1 s) 0 0 + get_or (behind 1 s) 1 0) + get_or (behind 1 s) 2 0) + get_or (behind 1 s) 3 0
    → BeginsLength s n (behind 4 (behind 1 s))
long_length_four s n one first rest is =
    let r = behind 1 s in record {
      text = get_or s 0 0 ∷ get_or r 0 0 ∷ get_or r 1 0 ∷ get_or r 2 0 ∷ get_or r 3 0 ∷ [];
      is_length = (first, is);
      whole = front_one s one ∙ ap (λ (t : List ℕ). get_or s 0 0 ∷ t) (front_four r rest);
    }

-- a tag in one octet
pub low_tag : (s : List ℕ) (class : Class) (form : Bool) (number : ℕ) → 1 ≤ length s → get_or s 0 0 ≡ first_octet class form number → number < 31
    → 0 < class_code class + number → BeginsTag s class form number (behind 1 s)
low_tag s class form number one first low tag = record {
  text = get_or s 0 0 ∷ [];
  is_tag = (first, low, tag);
  whole = front_one s one;
}

-- a number in one octet behind the first one of a tag
pub high_tag_one : (s : List ℕ) (class : Class) (form : Bool) (number : ℕ) → 1 ≤ length s → number ≡ get_or s 0 0 → 31 ≤ number → number < 128
    → BeginsTag (first_octet class form 31 ∷ s) class form number (behind 1 s)
high_tag_one s class form number one is low high = record {
  text = first_octet class form 31 ∷ get_or s 0 0 ∷ [];
  is_tag = (refl, low, high, sym is);
  whole = ap (λ (t : List ℕ). first_octet class form 31 ∷ t) (front_one s one);
}

-- a number in two octets behind the first one of a tag
pub high_tag_two : (s : List ℕ) (class : Class) (form : Bool) (number : ℕ) → 1 ≤ length s → 1 ≤ length (behind 1 s) → 128 < get_or s 0 0
    → get_or s 0 0 < 256 → get_or (behind 1 s) 0 0 < 128 → number + 128 * 128 ≡ 128 * get_or s 0 0 + get_or (behind 1 s) 0 0
    → BeginsTag (first_octet class form 31 ∷ s) class form number (behind 1 (behind 1 s))
high_tag_two s class form number one two first octet second is =
    let r = behind 1 s in record {
      text = first_octet class form 31 ∷ get_or s 0 0 ∷ get_or r 0 0 ∷ [];
      is_tag = (refl, first, octet, second, is);
      whole = ap (λ (t : List ℕ). first_octet class form 31 ∷ t) (front_one s one ∙ ap (λ (t : List ℕ). get_or s 0 0 ∷ t) (front_one r two));
    }

-- a first tag octet from its three parts
first_by_form : (form : ℕ) (class : Class) (low : ℕ) → form < 2 → 64 * class_code class + 32 * form + low ≡ first_octet class (nat_eq form 1) low
first_by_form zero class low h = omega arith
first_by_form (suc zero) class low h = omega arith
first_by_form (suc (suc n)) class low h = absurd (omega arith)

-- the three parts of a first tag octet
pub first_octet-parts : (a : ℕ) (class : Class) → class_code class ≡ a / 64 → a ≡ first_octet class (nat_eq (a / 32 % 2) 1) (a % 32)
first_octet-parts a class is =
    let parts : a ≡ 64 * class_code class + 32 * (a / 32 % 2) + a % 32 = omega arith in
    parts ∙ first_by_form (a / 32 % 2) class (a % 32) (omega arith)

-- a tag in the high form, from its first octet and what was read behind it
pub high_tag : (s : List ℕ) (class : Class) (form : Bool) (number : ℕ) (rest : List ℕ) → 1 ≤ length s → get_or s 0 0 ≡ first_octet class form 31
    → BeginsTag (first_octet class form 31 ∷ behind 1 s) class form number rest → BeginsTag s class form number rest
high_tag s class form number rest one first begins =
    subst (λ t. BeginsTag t class form number rest) (sym (front_one s one ∙ ap (λ (a : ℕ). a ∷ behind 1 s) first)) begins
