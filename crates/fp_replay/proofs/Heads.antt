-- The text of a head, without a tag and with one.
use Rattle.std.proofs.Common.{◌≡◌, ℕ, ◌<◌, zero, suc, Bool, true, false, cond, eqb, List, ◌∷◌, ◌++◌, codes, decimal, drop, get_or, refl, sym, ap, ◌∙◌, arith, ne_eqb}
use Rattle.std.specs.List.{join_with_byte}
use Rattle.std.proofs.lemmas.Fmt.{decimal_injective}
use Rattle.fp_book.specs.declared.line.Line.TheVariants.{Head}
use Rattle.fp_replay.specs.Format.{IsLine, head_fields, text_of}
use Rattle.fp_replay.proofs.Cutting.{one_number}

-- with a tag
pub tagged_text : (links tag : ℕ) → 0 < tag → text_of (Head links tag) ≡ codes "fplog 5 " ++ (decimal links ++ 32 ∷ decimal tag)
tagged_text links tag some = rw (ne_eqb tag 0 (λ e. omega (arith, some, e))) refl

-- the other fields come after the name of the format
name_first : (b : Bool) (x y : List ℕ) (xs ys : List (List ℕ))
    → join_with_byte 32 (codes "fplog" ∷ cond b (x ∷ xs) (y ∷ ys)) ≡ codes "fplog" ++ 32 ∷ join_with_byte 32 (cond b (x ∷ xs) (y ∷ ys))
name_first true x y xs ys = refl
name_first false x y xs ys = refl

pub head_line : (links tag : ℕ) → text_of (Head links tag) ≡ codes "fplog" ++ 32 ∷ join_with_byte 32 (head_fields links tag)
head_line links tag = name_first (eqb tag 0) _ _ _ _

-- the octet of a version
abbrev version : List ℕ → ℕ
version text = get_or text 6 0

-- no two heads have one text
pub one_head : (m n a b : ℕ) → IsLine (Head m a) → IsLine (Head n b) → text_of (Head m a) ≡ text_of (Head n b) → Head m a ≡ Head n b
one_head m n zero zero p q e = ap (λ k. Head k 0) (decimal_injective m n (omega (arith, p.1)) (omega (arith, q.1)) (ap (drop 8) e))
one_head m n (suc a) (suc b) p q e =
    let text = sym (tagged_text m (suc a) (omega arith)) ∙ e ∙ tagged_text n (suc b) (omega arith) in
    let parts = one_number m n (decimal (suc a)) (decimal (suc b)) (omega (arith, p.1)) (omega (arith, q.1)) (ap (drop 8) text) in
    let tags = decimal_injective (suc a) (suc b) (omega (arith, p.2)) (omega (arith, q.2)) parts.1 in
    cc (parts.0, tags)
one_head m n zero (suc b) p q e = absurd (omega (arith, ap version (e ∙ tagged_text n (suc b) (omega arith))))
one_head m n (suc a) zero p q e = absurd (omega (arith, ap version (sym (tagged_text m (suc a) (omega arith)) ∙ e)))
