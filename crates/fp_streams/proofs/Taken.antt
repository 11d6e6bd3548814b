-- Lines that were taken, and one more.
use Rattle.std.proofs.Common.{◌≡◌, ℕ, Bool, true, List, [], ◌∷◌, ◌++◌, refl, sym, ◌∙◌, ap, subst, append_assoc, append-nil}
use Rattle.std.specs.List.{All}
use Rattle.std.proofs.lemmas.List.Concat.{flat_map-append}
use Rattle.std.proofs.lemmas.List.Elements.{All-append, All-cons, All-head, All-nil, All-tail}
use Rattle.fp_streams.specs.Following.{IsLine, Reaches, Took, ended}
use Rattle.fp_streams.specs.Line.{IsOneLine, lines_of}
use Rattle.fp_streams.proofs.Parts.{lines_ended}

-- lines, and then further ones
pub took_more : {S : Type 0} (takes : S → Bool → List ℕ → S → Type 0) (first second : List (List ℕ)) (old between new : S)
    → Took takes old first between → Took takes between second new → Took takes old (first ++ second) new
took_more takes [] second old between new is more = subst (λ s. Took takes s second new) is more
took_more takes (line ∷ first) second old between new t more = record {
  between = t.between;
  first = t.first;
  later = took_more takes first second t.between between new t.later more;
}

-- one line
pub took_one : {S : Type 0} (takes : S → Bool → List ℕ → S → Type 0) (line : List ℕ) (old new : S) → takes old true line new → Took takes old (line ∷ []) new
took_one takes line old new one = record { between = new; first = one; later = refl }

-- the octets of lines, and then of further ones
pub ended_more : (first second : List (List ℕ)) → ended (first ++ second) ≡ ended first ++ ended second
ended_more first second = flat_map-append (λ (line : List ℕ). line ++ 10 ∷ []) first second

-- lines and a rest, which is further lines and a rest
pub reaches_more : {S : Type 0} (takes : S → Bool → List ℕ → S → Type 0) (most : ℕ) (old between new : S) (octets rest later : List ℕ) (first second : List (List ℕ))
    → Reaches takes most old between octets first rest → Reaches takes most between new rest second later
    → Reaches takes most old new octets (first ++ second) later
reaches_more takes most old between new octets rest later first second one two = record {
  text =
      one.text ∙ ap (λ l. ended first ++ l) two.text ∙ sym (append_assoc (ended first) (ended second) later)
      ∙ ap (λ l. l ++ later) (sym (ended_more first second));
  lines_are = All-append (IsLine most) first second one.lines_are two.lines_are;
  took = took_more takes first second old between new one.took two.took;
}

-- nothing but a rest
pub reaches_none : {S : Type 0} (takes : S → Bool → List ℕ → S → Type 0) (most : ℕ) (at : S) (octets : List ℕ) → Reaches takes most at at octets [] octets
reaches_none takes most at octets = record { text = refl; lines_are = All-nil (IsLine most); took = refl }

-- one line and a rest
pub reaches_one : {S : Type 0} (takes : S → Bool → List ℕ → S → Type 0) (most : ℕ) (old new : S) (line rest : List ℕ)
    → IsLine most line → takes old true line new → Reaches takes most old new (line ++ 10 ∷ rest) (line ∷ []) rest
reaches_one takes most old new line rest line_is one = record {
  text = sym (append_assoc line (10 ∷ []) rest) ∙ ap (λ l. l ++ rest) (sym (append-nil (line ++ 10 ∷ [])));
  lines_are = All-cons (IsLine most) line [] line_is (All-nil (IsLine most));
  took = took_one takes line old new one;
}

-- more octets are more of the rest
pub reaches_longer : {S : Type 0} (takes : S → Bool → List ℕ → S → Type 0) (most : ℕ) (old new : S) (octets rest more : List ℕ) (lines : List (List ℕ))
    → Reaches takes most old new octets lines rest → Reaches takes most old new (octets ++ more) lines (rest ++ more)
reaches_longer takes most old new octets rest more lines r = record {
  text = ap (λ l. l ++ more) r.text ∙ append_assoc (ended lines) rest more;
  lines_are = r.lines_are;
  took = r.took;
}

-- the lines of lines that were ended, and of a rest
pub ended_lines : (lines : List (List ℕ)) (rest : List ℕ) → All IsOneLine lines → lines_of (ended lines ++ rest) ≡ lines ++ lines_of rest
ended_lines [] rest one = refl
ended_lines (line ∷ lines) rest one =
    ap lines_of (append_assoc (line ++ 10 ∷ []) (ended lines) rest ∙ append_assoc line (10 ∷ []) (ended lines ++ rest))
    ∙ lines_ended line (ended lines ++ rest) (All-head IsOneLine line lines one)
    ∙ ap (λ l. line ∷ l) (ended_lines lines rest (All-tail IsOneLine line lines one))
