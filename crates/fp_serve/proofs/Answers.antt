-- What commands give, one answer after the other.
use Rattle.std.proofs.Common.{◌≡◌, ◌≤◌, ℕ, Bool, true, List, [], ◌∷◌, ◌++◌, Option, inl, inr, refl, sym, subst, append-nil}
use Rattle.std.proofs.KnownBytes.{Appends-nil, Appends-trans}
use Rattle.std.proofs.lemmas.List.Elements.{All-append, All-cons, All-nil}
use Rattle.std.proofs.lemmas.List.Folds.{concat-append}
use Rattle.std.specs.Io.KnownBytes.{Appends}
use Rattle.fp_serve.specs.Report.{IsAnswer, TellsAnswers, reloaded_line}
use Rattle.fp_watch.specs.Links.{links_answer}
use Rattle.fp_watch.specs.Numbers.{TellsOfCounters, TellsOfNumber}
use Rattle.fp_watch.specs.declared.link_status.LinkStatus.{LinkStatus}

module _ (last first_link : ℕ) (has_commands : Bool) (a b : Option (List ℕ)) where
  -- nothing was written
  pub none : TellsAnswers last first_link has_commands a a
  none = ([], All-nil (IsAnswer last first_link has_commands), Appends-nil a)

  -- one answer was
  one : (text : List ℕ) → IsAnswer last first_link has_commands text → Appends a b text → TellsAnswers last first_link has_commands a b
  one text is wrote = (
    text ∷ [],
    All-cons (IsAnswer last first_link has_commands) text [] is (All-nil (IsAnswer last first_link has_commands)),
    subst (Appends a b) (sym (append-nil text)) wrote,
  )

  pub reloaded : (index : ℕ) → (1 ≤ index) × (index ≤ last) → Appends a b (reloaded_line index) → TellsAnswers last first_link has_commands a b
  reloaded index (least, most) = one (reloaded_line index) (inl (index, least, most, refl))

  pub of_links : (links : List LinkStatus) → has_commands ≡ true → Appends a b (links_answer first_link links) → TellsAnswers last first_link has_commands a b
  of_links links has = one (links_answer first_link links) (inr (has, inl (links, refl)))

  pub of_counters : (text : List ℕ) → TellsOfCounters text → has_commands ≡ true → Appends a b text → TellsAnswers last first_link has_commands a b
  of_counters text told has = one text (inr (has, inr (inl told)))

  pub of_number : (text : List ℕ) → TellsOfNumber text → has_commands ≡ true → Appends a b text → TellsAnswers last first_link has_commands a b
  of_number text told has = one text (inr (has, inr (inr told)))

  -- and then others were
  pub more : (c : Option (List ℕ)) → TellsAnswers last first_link has_commands a b → TellsAnswers last first_link has_commands b c → TellsAnswers last first_link has_commands a c
  more c (first, are_first, wrote) (then, are_then, wrote_then) = (
    first ++ then,
    All-append (IsAnswer last first_link has_commands) first then are_first are_then,
    subst (Appends a c) (sym (concat-append first then)) (Appends-trans a b c _ _ wrote wrote_then),
  )
