-- The text of one more line.
use Rattle.std.proofs.Common.{◌≡◌, ℕ, ◌+◌, ◌<◌, List, ◌∷◌, ◌++◌, suc, length, get_or, drop, sym, ◌∙◌, ap, append_assoc, drop-cons, arith}
use Rattle.fp_book.specs.declared.line.Line.{Line}
use Rattle.fp_logtext.specs.Logged.{EndsBelow, line_text, lines_text}

-- a line was added to a text that is shorter than this
pub ends_below : (most : ℕ) (before text : List ℕ) (last : Line) → text ≡ before ++ line_text last → length before < most
    → EndsBelow most text
ends_below most before text last with_last below = record {
  before = before;
  last = last;
  below = below;
  with_last = with_last;
}

-- the line at this place was added to the text: all text stays
pub one_made : (before text : List ℕ) (lines : List Line) (i : ℕ) (line : Line) → i < length lines → line ≡ get_or lines i line
    → text ≡ before ++ line_text line → text ++ lines_text (drop (i + 1) lines) ≡ before ++ lines_text (drop i lines)
one_made before text lines i line within at made =
    let later = drop (i + 1) lines in
    let next : suc i ≡ i + 1 = omega arith in
    let split : drop i lines ≡ line ∷ later =
    drop-cons lines i line within ∙ ap (λ (l : Line). l ∷ drop (suc i) lines) (sym at) ∙ ap (λ (k : ℕ). line ∷ drop k lines) next in
    ap (λ (t : List ℕ). t ++ lines_text later) made ∙ append_assoc before (line_text line) (lines_text later)
    ∙ ap (λ (l : List Line). before ++ lines_text l) (sym split)
