-- How lines part octets.
use Rattle.std.proofs.Common.{◌≡◌, ◌≢◌, ℕ, ◌<◌, Bool, true, false, cond, List, [], ◌∷◌, ◌++◌, length, sym, ◌∙◌, ap, subst, arith, append_assoc, append-nil, length-append}
use Rattle.std.specs.Prelude.{◌==◌}
use Rattle.std.proofs.lemmas.Bool.{ne_eqb}
use Rattle.std.proofs.lemmas.List.Elements.{All-head, All-tail}
use Rattle.fp_streams.specs.Line.{BeginsLong, IsOneLine, lines_from, lines_of}

-- an octet that is no line feed goes to the line
one_more : (begun : List ℕ) (octet : ℕ) (octets : List ℕ) → octet ≢ 10
    → lines_from begun (octet ∷ octets) ≡ lines_from (begun ++ octet ∷ []) octets
one_more begun octet octets other =
    let no : (octet == 10) ≡ false = ne_eqb octet 10 other in
    ap (λ b. cond {A = List (List ℕ)} b (begun ∷ lines_from [] octets) (lines_from (begun ++ octet ∷ []) octets)) no

-- octets without a line feed go to the line
pub lines_begun : (begun octets rest : List ℕ) → IsOneLine octets → lines_from begun (octets ++ rest) ≡ lines_from (begun ++ octets) rest
lines_begun begun [] rest one = ap (λ l. lines_from l rest) (sym (append-nil begun))
lines_begun begun (octet ∷ octets) rest one =
    one_more begun octet (octets ++ rest) (All-head (λ o. o ≢ 10) octet octets one)
    ∙ lines_begun (begun ++ octet ∷ []) octets rest (All-tail (λ o. o ≢ 10) octet octets one)
    ∙ ap (λ l. lines_from l rest) (append_assoc begun (octet ∷ []) octets)

-- a line feed ends a line
pub lines_ended : (line rest : List ℕ) → IsOneLine line → lines_of (line ++ 10 ∷ rest) ≡ line ∷ lines_of rest
lines_ended line rest one = lines_begun [] line (10 ∷ rest) one

-- the end ends a line in which something is
pub lines_last : (line : List ℕ) → IsOneLine line → 0 < length line → lines_of line ≡ line ∷ []
lines_last [] one some = absurd (omega (arith, some))
lines_last (octet ∷ octets) one some =
    ap lines_of (sym (append-nil (octet ∷ octets))) ∙ lines_begun [] (octet ∷ octets) [] one

long_if : (most : ℕ) (begun : List ℕ) (lines more : List (List ℕ)) (b : Bool) → most < length begun → BeginsLong most more
    → BeginsLong most (cond {A = List (List ℕ)} b (begun ∷ lines) more)
long_if most begun lines more true long later = long
long_if most begun lines more false long later = later

-- a line that is too long stays so
long_from : (most : ℕ) (begun rest : List ℕ) → most < length begun → BeginsLong most (lines_from begun rest)
long_from most [] [] long = absurd (omega (arith, long))
long_from most (b ∷ begun) [] long = long
long_from most begun (octet ∷ rest) long =
    let longer : most < length (begun ++ octet ∷ []) = (let n = length-append begun (octet ∷ []) in omega (arith, long, n)) in
    long_if most begun (lines_from [] rest) (lines_from (begun ++ octet ∷ []) rest) (octet == 10) long
    (long_from most (begun ++ octet ∷ []) rest longer)

-- a line that began with so many octets is too long, whatever comes
pub lines_long : (most : ℕ) (octets rest : List ℕ) → IsOneLine octets → most < length octets → BeginsLong most (lines_of (octets ++ rest))
lines_long most octets rest one long =
    subst (BeginsLong most) (sym (lines_begun [] octets rest one)) (long_from most octets rest long)

pub ruleset line_ends = (lines_ended, lines_last)
