-- The number of octets of the messages of lines.
use Rattle.std.proofs.Common.{◌≡◌, ℕ, ◌+◌, ◌≤◌, List, [], ◌∷◌, ◌++◌, zero, suc, length, drop, refl, arith}
use Rattle.fp_book.specs.declared.line.Line.{Line}
use Rattle.fp_logtext.specs.Waiting.{messages_len}

-- that of two lists
pub messages_len-append : (a b : List Line) → messages_len (a ++ b) ≡ messages_len a + messages_len b
messages_len-append [] b = omega arith
messages_len-append (line ∷ a) b = omega (arith, messages_len-append a b)

-- that of no line
pub none_left : (lines : List Line) (i : ℕ) → length lines ≤ i → messages_len (drop i lines) ≡ 0
none_left [] zero all = refl
none_left [] (suc i) all = refl
none_left (line ∷ lines) zero all = absurd (omega (arith, all))
none_left (line ∷ lines) (suc i) all = none_left lines i (omega (arith, all))
