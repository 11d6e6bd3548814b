-- What tells that two lists of octets are the same: the arrays that keep them, octet by octet.
use Rattle.std.proofs.Common.{◌≡◌, ℕ, zero, suc, ◌+◌, ◌<◌, Bool, true, false, ◌&&◌, List, [], ◌∷◌, length, take, slice_index_or, nat_eq, refl, sym, ◌∙◌, ap, arith}
use Rattle.std.specs.Bool.{Decides}
use Rattle.std.specs.Cmp.Lexicographic.{pointwise, bytes_decides}
use Rattle.std.proofs.lemmas.Bool.Decides.{Decides-and, Decides-eqb, Decides-like}
use Rattle.fp_octets.specs.Padded.{IsPadded, length-take-padded, padded, padded-take}

-- two tests that decide one thing are the same
one_test : {P : Type 0} (a b : Bool) → Decides a P → Decides b P → a ≡ b
one_test true b of_a of_b = sym (of_b.1 (of_a.0 refl))
one_test false true of_a of_b = of_a.1 (of_b.0 refl)
one_test false false of_a of_b = refl

-- two lists are the same exactly where the arrays that keep them are, and as many of their octets are used
pub arrays_tell : (size used_a used_b : ℕ) (a b : List ℕ) → IsPadded size a used_a → IsPadded size b used_b
    → (pointwise nat_eq a b && nat_eq used_a used_b) ≡ pointwise nat_eq (take used_a a) (take used_b b)
arrays_tell size used_a used_b a b of_a of_b =
    one_test _ _
    (Decides-like (pointwise nat_eq a b && nat_eq used_a used_b)
    (λ both. λ i. take (both.1 i) (both.0 i))
    (λ e. (
      sym (padded-take size a used_a of_a) ∙ (ap (padded size) e ∙ padded-take size b used_b of_b),
      sym (length-take-padded size a used_a of_a) ∙ (ap length e ∙ length-take-padded size b used_b of_b),
    ))
    (Decides-and _ _ (bytes_decides a b) (Decides-eqb used_a used_b)))
    (bytes_decides (take used_a a) (take used_b b))

-- a test, and the same before one that holds
last_and : (p : Bool) → p ≡ (p && true)
last_and true = refl
last_and false = refl

-- three tests, joined from the left or from the right
and_joined : (p q r : Bool) → ((p && q) && r) ≡ (p && (q && r))
and_joined true q r = refl
and_joined false q r = refl

-- the first octets of two lists and one more, counted by `suc`
one_behind : (n : ℕ) (a b : List ℕ) → n < length a → n < length b
    → (pointwise nat_eq (take n a) (take n b) && nat_eq (slice_index_or a n 0) (slice_index_or b n 0)) ≡ pointwise nat_eq (take (suc n) a) (take (suc n) b)
one_behind n [] b in_a in_b = absurd (omega arith)
one_behind n (x ∷ a) [] in_a in_b = absurd (omega arith)
one_behind zero (x ∷ a) (y ∷ b) in_a in_b = last_and (nat_eq x y)
one_behind (suc n) (x ∷ a) (y ∷ b) in_a in_b =
    and_joined (nat_eq x y) (pointwise nat_eq (take n a) (take n b)) (nat_eq (slice_index_or a n 0) (slice_index_or b n 0))
    ∙ ap (λ rest. nat_eq x y && rest) (one_behind n a b (omega arith) (omega arith))

-- the same, counted as the loop does
pub one_more : (n : ℕ) (a b : List ℕ) → n < length a → n < length b
    → (pointwise nat_eq (take n a) (take n b) && nat_eq (slice_index_or a n 0) (slice_index_or b n 0)) ≡ pointwise nat_eq (take (n + 1) a) (take (n + 1) b)
one_more n a b in_a in_b =
    one_behind n a b in_a in_b ∙ ap (λ count. pointwise nat_eq (take count a) (take count b)) (let e : suc n ≡ n + 1 = omega arith in e)
