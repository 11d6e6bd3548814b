-- Lines that left the book all at once.
use Rattle.std.proofs.Common.{◌≡◌, ℕ, ◌+◌, ◌-◌, ◌<◌, ◌≤◌, List, [], ◌∷◌, ◌++◌, suc, length, get_or, drop, map, sym, ◌∙◌, ap, append_assoc, drop-cons, arith, length-drop}
use Rattle.std.proofs.lemmas.List.{length-map, drop_all}
use Rattle.fp_book.specs.Log.{lines_of}
use Rattle.fp_book.specs.declared.line.Line.TheVariants.{Step}
use Rattle.fp_book.specs.declared.line.LoggedStep.{LoggedStep}
use Rattle.fp_logtext.specs.Logged.{line_text, lines_text}

-- how many lines are left
pub lines_left : (link : ℕ) (log : List LoggedStep) (made : ℕ) → length (lines_of link (drop made log)) ≡ length log - made
lines_left link log made = length-map (drop made log) (Step link) ∙ length-drop made log

-- none is, once all have their text
pub none_left : (link : ℕ) (log : List LoggedStep) (made : ℕ) → length log ≤ made → lines_of link (drop made log) ≡ []
none_left link log made all = ap (lines_of link) (drop_all made log all)

-- the step at this place was added to the text: all text stays
pub one_step_made : (before text : List ℕ) (link : ℕ) (log : List LoggedStep) (i : ℕ) (step : LoggedStep) → i < length log → step ≡ get_or log i step
    → text ≡ before ++ line_text (Step link step)
    → text ++ lines_text (lines_of link (drop (i + 1) log)) ≡ before ++ lines_text (lines_of link (drop i log))
one_step_made before text link log i step within at made =
    let later = drop (i + 1) log in
    let next : suc i ≡ i + 1 = omega arith in
    let split : drop i log ≡ step ∷ later =
    drop-cons log i step within ∙ ap (λ (l : LoggedStep). l ∷ drop (suc i) log) (sym at) ∙ ap (λ (k : ℕ). step ∷ drop k log) next in
    ap (λ (t : List ℕ). t ++ lines_text (lines_of link later)) made ∙ append_assoc before (line_text (Step link step)) (lines_text (lines_of link later))
    ∙ ap (λ (l : List LoggedStep). before ++ lines_text (lines_of link l)) (sym split)
