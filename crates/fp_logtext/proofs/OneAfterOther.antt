-- Lines whose text is made first, and those after them.
use Rattle.std.proofs.Common.{◌≡◌, ◌⊎◌, ℕ, ◌+◌, ◌-◌, List, [], ◌∷◌, ◌++◌, length, drop, inl, inr, sym, subst, ◌∙◌, ap, append-nil, arith, length-append, length-drop, ◌<◌, ◌≤◌}
use Rattle.fp_book.specs.declared.line.Line.{Line}
use Rattle.fp_logtext.specs.Logged.{EndsBelow, lines_text}
use Rattle.fp_logtext.proofs.LineOrders.{apart}

-- if there are none, neither are there those after them
pub none_after : (first later : List Line) → first ++ later ≡ [] → later ≡ []
none_after [] later none = none
none_after (line ∷ first) later none = absurd (cc)

-- if none come after them, these are all
pub all_first : (first later : List Line) → later ≡ [] → first ++ later ≡ first
all_first first later none = ap (λ (l : List Line). first ++ l) none ∙ append-nil first

-- how many there are
pub both_count : (first later : List Line) (i : ℕ) → length (drop i first ++ later) ≡ (length first - i) + length later
both_count first later i = length-append (drop i first) later ∙ ap (λ (n : ℕ). n + length later) (length-drop i first)

-- all text stays, also that of those after them
pub with_later : (new old : List ℕ) (left lines later : List Line) → new ++ lines_text left ≡ old ++ lines_text lines
    → new ++ lines_text (left ++ later) ≡ old ++ lines_text (lines ++ later)
with_later new old left lines later made =
    apart new left later ∙ ap (λ (all : List ℕ). all ++ lines_text later) made ∙ sym (apart old lines later)

-- once none of the first is left, and text of those after them was made
pub then_later : (new text old : List ℕ) (none lines later after : List Line) → none ≡ [] → text ++ lines_text none ≡ old ++ lines_text lines
    → new ++ lines_text after ≡ text ++ lines_text later → new ++ lines_text (none ++ after) ≡ old ++ lines_text (lines ++ later)
then_later new text old none lines later after is first made =
    ap (λ (l : List Line). new ++ lines_text (l ++ after)) is ∙ made ∙ ap (λ (l : List Line). text ++ lines_text (l ++ later)) (sym is)
    ∙ with_later text old none lines later first

-- no text of two parts goes on after the limit
pub limit_of_both : (most : ℕ) (old text new : List ℕ) → (text ≡ old) ⊎ EndsBelow most text → (new ≡ text) ⊎ EndsBelow most new
    → (new ≡ old) ⊎ EndsBelow most new
limit_of_both most old text new first (inr ends) = inr ends
limit_of_both most old text new (inl same) (inl later) = inl (later ∙ same)
limit_of_both most old text new (inr ends) (inl later) = inr (subst (EndsBelow most) (sym later) ends)

-- text was made up to the limit, and some of the first are left
pub stopped : (most : ℕ) (lines later : List Line) (made : ℕ) (text : List ℕ) → made < length lines
    → (drop made lines ≡ []) ⊎ (most ≤ length text) → (drop made lines ++ later ≡ []) ⊎ (most ≤ length text)
stopped most lines later made text within (inl none) = absurd (omega (arith, within, length-drop made lines, ap length none))
stopped most lines later made text within (inr full) = inr full
