-- That a log has or counts each step, and what a drain has done after each step that it moved.
use Rattle.fp_book.proofs.Names.{Bool, Drains, Line, List, LoggedStep, None, Option, Some, Step, [], accounted, ap, append-nil, append_assoc, arith, drop, drop-drop, drop_all, drop_min, false, filter-append, gap_at_end, get_or, get_or-drop, get_or_from_slice_get, if◌then◌else◌, is_told, length, lose_behind, lost_in, map, map_more, min, one_more, option_and_then, refl, slice_get, slice_get_within, sym, take, take_all, take_min, take_more, told, true, unwrap_or, ℕ, ◌++◌, ◌+◌, ◌-◌, ◌<◌, ◌∙◌, ◌∷◌, ◌≡◌, ◌≤◌}
use Rattle.fp_book.specs.declared.line.LoggedStep.TheVariants as steps

-- two lists account for what each does
accounted_append : (a b : List LoggedStep) → accounted (a ++ b) ≡ accounted a + accounted b
accounted_append [] b = omega arith
accounted_append (step ∷ a) b = omega (arith, accounted_append a b)

-- the last line, after the others
is_last : (list : List LoggedStep) (step : LoggedStep) → slice_get list (length list - 1) ≡ Some step → list ≡ take (length list - 1) list ++ step ∷ []
is_last list step is =
    let within : length list - 1 < length list = slice_get_within list (length list - 1) step is in
    sym (take_all (length list - 1 + 1) list (omega arith))
    ∙ take_more list (length list - 1) step within
    ∙ ap (λ s. take (length list - 1) list ++ s ∷ []) (get_or_from_slice_get list (length list - 1) step step is)

-- the last line is a gap of so many, after what else there is
record EndsInGap (list : List LoggedStep) (lost : ℕ) : Type 0 where
  last : LoggedStep
  split : list ≡ take (length list - 1) list ++ last ∷ []
  counts : lost_in last ≡ Some lost

-- if the last line is a gap, it is that one
ends_in_gap : (list : List LoggedStep) (lost : ℕ) (at : Option LoggedStep) → slice_get list (length list - 1) ≡ at → option_and_then lost_in at ≡ Some lost → EndsInGap list lost
ends_in_gap list lost None is counts = absurd (let clash : None ≡ Some lost = counts in cc)
ends_in_gap list lost (Some step) is counts = record { last = step; split = is_last list step is; counts = counts }

-- one lost step is accounted for
lost_accounted : (list : List LoggedStep) (gap : Option ℕ) → gap_at_end list ≡ gap → accounted list < 18446744073709551615 → accounted (lose_behind list gap) ≡ accounted list + 1
lost_accounted list None is few = omega (arith, accounted_append list (steps.Gap 1 ∷ []))
lost_accounted list (Some lost) is few =
    let front = take (length list - 1) list in
    let ends = ends_in_gap list lost _ refl is in
    let before = ap accounted ends.split ∙ accounted_append front (ends.last ∷ []) in
    let counts = ap (λ o. unwrap_or o 1) ends.counts in
    let after = accounted_append front (steps.Gap (one_more lost) ∷ []) in
    omega (arith, before, counts, after)

-- each step is accounted for
pub step_accounted : (list : List LoggedStep) (step : LoggedStep) → lost_in step ≡ None → accounted list < 18446744073709551615 → (room : Bool)
    → accounted (if room then list ++ step ∷ [] else lose_behind list (gap_at_end list)) ≡ accounted list + 1
step_accounted list step none few true = omega (arith, accounted_append list (step ∷ []), ap (λ o. unwrap_or o 1) none)
step_accounted list step none few false = lost_accounted list (gap_at_end list) refl few

-- a gap is no step
gap_told : (step : LoggedStep) (lost : ℕ) → lost_in step ≡ Some lost → told (step ∷ []) ≡ []
gap_told step lost is = rw is refl

-- a lost step leaves the steps that the log has
lost_told : (list : List LoggedStep) (gap : Option ℕ) → gap_at_end list ≡ gap → told (lose_behind list gap) ≡ told list ++ []
lost_told list None is = filter-append is_told list (steps.Gap 1 ∷ [])
lost_told list (Some lost) is =
    let front = take (length list - 1) list in
    let ends = ends_in_gap list lost _ refl is in
    filter-append is_told front (steps.Gap (one_more lost) ∷ [])
    ∙ sym (append-nil (told list) ∙ ap told ends.split ∙ filter-append is_told front (ends.last ∷ []) ∙ ap (λ l. told front ++ l) (gap_told ends.last lost ends.counts))

-- the steps that the log has stay, and a step for which there is a place comes after them
pub step_told : (list : List LoggedStep) (step : LoggedStep) → lost_in step ≡ None → (room : Bool)
    → told (if room then list ++ step ∷ [] else lose_behind list (gap_at_end list)) ≡ told list ++ (if room then step ∷ [] else [])
step_told list step none true = filter-append is_told list (step ∷ []) ∙ ap (λ l. told list ++ l) (rw none refl)
step_told list step none false = lost_told list (gap_at_end list) refl

-- the oldest of the steps that were left is moved
pub one_moved : (link : ℕ) (old : List LoggedStep) (lines : List Line) (i : ℕ) (rest : List LoggedStep) (more : List Line) (step : LoggedStep) → i < length old → Drains link old lines i rest more → step ≡ get_or rest 0 step → Drains link old lines (i + 1) (drop 1 rest) (more ++ Step link step ∷ [])
one_moved link old lines i rest more step within so_far first =
    let here : step ≡ get_or old i step = first ∙ ap (λ l. get_or l 0 step) so_far.left ∙ get_or-drop i old 0 step ∙ ap (λ k. get_or old k step) (omega arith) in
    record {
      moved = ap (λ l. l ++ Step link step ∷ []) so_far.moved
          ∙ append_assoc lines (map (Step link) (take i old)) (Step link step ∷ [])
          ∙ ap (λ l. lines ++ l) (ap (λ s. map (Step link) (take i old) ++ Step link s ∷ []) here ∙ sym (map_more (Step link) old i step within));
      left = ap (drop 1) so_far.left ∙ drop-drop 1 i old;
    }

-- all lines go out at once
pub all_exchanged : (link : ℕ) (old new handed : List LoggedStep) (room : ℕ) → length old ≤ room → handed ≡ old → new ≡ [] → Drains link old [] room new (map (Step link) handed)
all_exchanged link old new handed room fits out none = record {
  moved = ap (map (Step link)) (out ∙ sym (take_all room old fits));
  left = none ∙ sym (drop_all room old fits);
}

-- as many were moved as there is room for, or all
pub all_moved : (link : ℕ) (old : List LoggedStep) (lines : List Line) (room count : ℕ) (rest : List LoggedStep) (more : List Line) → count ≡ min room (length old) → Drains link old lines count rest more → Drains link old lines room rest more
all_moved link old lines room count rest more is so_far = record {
  moved = so_far.moved ∙ ap (λ l. lines ++ map (Step link) l) (ap (λ k. take k old) is ∙ take_min room old);
  left = so_far.left ∙ ap (λ k. drop k old) is ∙ drop_min room old;
}
