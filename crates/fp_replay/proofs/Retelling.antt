-- The runs of the links, and the lines that they retell.
use Rattle.std.proofs.Common.{◌≡◌, ◌≢◌, ◌⊎◌, inl, inr, ⊎_elim, ℕ, ◌+◌, ◌<◌, ◌≤◌, Bool, true, false, cond, eqb, get_or, List, [], ◌∷◌, ◌++◌, length, Some, None, zero, suc, refl, sym, ◌∙◌, ap, subst, arith, add-one, length-append, length-set, set}
use Rattle.std.specs.Prelude.{slice_get, Result, Err}
use Rattle.std.proofs.lemmas.Bool.{eqb-false, eqb-true}
use Rattle.std.proofs.lemmas.Option.{slice_get-get_or}
use Rattle.fp_book.specs.declared.line.Line.{Line}
use Rattle.fp_book.specs.declared.line.Line.TheVariants.{Head, Step}
use Rattle.fp_book.specs.declared.line.LoggedStep.{LoggedStep}
use Rattle.fp_book.specs.declared.totals.Totals.{Totals}
use Rattle.fp_records.specs.Table.{Contents}
use Rattle.fp_steps.specs.Answers.{IsAnswer}
use Rattle.fp_steps.specs.History.{Event}
use Rattle.fp_steps.specs.Places.{handed_in}
use Rattle.fp_steps.specs.declared.step.Step.{Step as MadeStep}
use Rattle.fp_tids.specs.Identifiers.{base_of}
use Rattle.fp_replay.specs.Format.{IsLine, text_of}
use Rattle.fp_replay.specs.Laws.{TextIsOfOneLine}
use Rattle.fp_replay.specs.proof_only.Making.{AreAfter, AreNew, AreNone, IsKept, IsRunOf, Taking, TakingText}
use Rattle.fp_replay.specs.declared.links.Links.{Links}
use Rattle.fp_replay.specs.declared.replay_fault.Refusal.{Refusal}
use Rattle.fp_replay.specs.declared.replay_fault.Refusal.TheVariants.{BadLine, Memory}
use Rattle.fp_replay.specs.Replayed.{AllFit, HasTable, IsInPlace, links_in, report_line, report_of, steps_of, tables_for, tag_in}
use Rattle.fp_steps.specs.After.{Follows, IsAfter}
use Rattle.fp_replay.specs.Stopped.{Differs, DiffersBy, HasOtherLine, is_gap}
use Rattle.fp_steps.specs.Retold.{Retells, RetellsOne, step_of}
use Rattle.fp_steps.specs.declared.stepped.Stepped.{Stepped}
use Rattle.fp_steps.specs.declared.link_run.LinkRun.{LinkRun}

-- AN ELEMENT AT A PLACE

-- behind a push: one that was there, or the one that was pushed
get_push : {X : Type 0} (xs : List X) (x : X) (i : ℕ) (y : X) → slice_get (xs ++ x ∷ []) i ≡ Some y → (slice_get xs i ≡ Some y) ⊎ ((i ≡ length xs) × (x ≡ y))
get_push [] x zero y e = inr (refl, cc)
get_push [] x (suc i) y e = absurd (cc)
get_push (z ∷ xs) x zero y e = inl e
get_push (z ∷ xs) x (suc i) y e =
    ⊎_elim (λ h. inl h) (λ h. inr (ap suc h.0, h.1)) (get_push xs x i y e)

-- where one was put in a place: that one, or another that was there
get_set : {X : Type 0} (xs : List X) (i : ℕ) (x : X) (j : ℕ) (y : X) → slice_get (set xs i x) j ≡ Some y → ((j ≡ i) × (x ≡ y)) ⊎ ((j ≢ i) × (slice_get xs j ≡ Some y))
get_set [] i x j y e = absurd (cc)
get_set (z ∷ xs) zero x zero y e = inl (refl, cc)
get_set (z ∷ xs) zero x (suc j) y e = inr (λ is. omega (arith, is), e)
get_set (z ∷ xs) (suc i) x zero y e = inr (λ is. omega (arith, is), e)
get_set (z ∷ xs) (suc i) x (suc j) y e =
    ⊎_elim (λ h. inl (ap suc h.0, h.1)) (λ h. inr (λ is. h.0 (omega (arith, is)), h.1)) (get_set xs i x j y e)

-- a run that was read out of the list is there
read_at : (old : List LinkRun) (index link : ℕ) (run : LinkRun) → index ≡ link → index < length old → run ≡ get_or old index run → slice_get old link ≡ Some run
read_at old index link run at within is =
    ap (λ n. slice_get old n) (sym at) ∙ slice_get-get_or old index run within ∙ ap Some (sym is)

-- LINES IN THEIR PLACES

-- where a line stands there is a link
links_some : (tables : List Contents) (lines : List Line) → AllFit tables lines → 0 < length lines → 0 < links_in lines
links_some tables [] fit some = absurd (omega arith)
links_some tables (Head links tag ∷ before) fit some = omega (arith, fit.0.0.0)
links_some tables (Step link step ∷ []) fit some = absurd fit.0.1
links_some tables (Step link step ∷ (last ∷ before)) fit some = let n = fit.0.1.0 in omega (arith, n)

-- where a step stands its link and its table are there
pub place_of : (tables : List Contents) (lines : List Line) (link : ℕ) (step : LoggedStep) → IsInPlace tables lines (Step link step)
    → (link < links_in lines) × HasTable (tables_for lines tables) step
place_of tables [] link step place = absurd place
place_of tables (last ∷ lines) link step place = place

-- RUNS BEGIN

-- one new run more
pub new_more : (link tag : ℕ) (runs more : List LinkRun) (run : LinkRun) → AreNew link tag runs
    → ((tables : List Contents) (contexts : List (List ℕ)) → IsRunOf tables contexts link tag [] run) → more ≡ runs ++ run ∷ [] → AreNew (link + 1) tag more
new_more link tag runs more run news new is = record {
  length_is = ap length is ∙ length-append runs (run ∷ []) ∙ ap (λ n. n + 1) news.length_is;
  each = λ tables contexts at r found.
      ⊎_elim
      (λ there. news.each tables contexts at r there)
      (λ last. subst (λ k. IsRunOf tables contexts k tag [] r) (sym (last.0 ∙ news.length_is)) (subst (IsRunOf tables contexts link tag []) last.1 (new tables contexts)))
      (get_push runs run at r (ap (λ l. slice_get l at) (sym is) ∙ found));
}

module _ (tables : List Contents) (contexts : List (List ℕ)) where
  -- one line more of this link, or none of another
  retells_if : (b : Bool) (base : ℕ) (line : LoggedStep) (lines : List LoggedStep) (e : Event) (h : List Event)
      → (b ≡ true → RetellsOne tables contexts base line h e) → Retells tables contexts base lines h
      → Retells tables contexts base (cond b (line ∷ lines) lines) (cond b (e ∷ h) h)
  retells_if true base line lines e h one before = (one refl, before)
  retells_if false base line lines e h one before = before

module _ (tables : List Contents) (contexts : List (List ℕ)) where
  -- where there are no runs there are no lines
  pub no_lines : (lines : List Line) (links : Links) → IsKept tables contexts lines links → length links.runs.items ≡ 0 → lines ≡ []
  no_lines [] links kept none = refl
  no_lines (line ∷ lines) links kept none =
      absurd (let n = links_some tables (line ∷ lines) kept.good.fit (omega arith) in omega (arith, n, kept.many, none))

  -- a step of a link that there is, by a table that was handed in, is in its place
  step_place : (lines : List Line) (link : ℕ) (step : LoggedStep) (links : Links) → IsKept tables contexts lines links → link < length links.runs.items → HasTable (tables_for lines tables) step
      → IsInPlace tables lines (Step link step)
  step_place [] link step links kept within table = absurd (omega (arith, kept.many, within))
  step_place (line ∷ lines) link step links kept within table = let n = kept.many in (omega (arith, n, within), table)

  -- the tables that were cut by the tag are those that the run has
  own_are : (own : List Contents) (lines : List Line) (links : Links) → IsKept tables contexts lines links → own ≡ handed_in links.tag tables → own ≡ tables_for lines tables
  own_are own lines links kept is = is ∙ ap (λ t. handed_in t tables) kept.tag_is

  -- a step in its place is by one of them
  pub place_has : (own : List Contents) (lines : List Line) (link : ℕ) (step : LoggedStep) (links : Links) → IsKept tables contexts lines links → own ≡ handed_in links.tag tables
      → IsInPlace tables lines (Step link step) → HasTable own step
  place_has own lines link step links kept is place =
      subst (λ ts. HasTable ts step) (sym (own_are own lines links kept is)) (place_of tables lines link step place).1

  -- one of a link that there isn't is in no place
  pub no_link : (lines : List Line) (link index : ℕ) (step : LoggedStep) (links : Links) → IsKept tables contexts lines links → index ≡ link → length links.runs.items ≤ index → IsInPlace tables lines (Step link step) → ⊥
  no_link lines link index step links kept at past place = let n = kept.many in let m = (place_of tables lines link step place).0 in omega (arith, n, m, at, past)

  -- THE HEAD

  -- no line, and no link
  pub kept_none : (links : Links) → AreNone links → IsKept tables contexts [] links
  kept_none links (untagged, none) = record {
    tag_is = untagged;
    good = record { fit = tt; history = λ link. []; retells = λ link within. absurd (omega (arith, within)) };
    many = ap length none;
    each = λ link run found. absurd (let e = ap (λ l. slice_get l link) (sym none) ∙ found in (cc));
  }

  -- the head, and its links
  pub kept_head : (lines : List Line) (links tag : ℕ) (old new : Links) → IsKept tables contexts lines old → length old.runs.items ≡ 0 → IsLine (Head links tag) → new.tag ≡ tag → AreNew links tag new.runs.items
      → IsInPlace tables lines (Head links tag) × IsKept tables contexts (Head links tag ∷ lines) new
  kept_head [] links tag old new kept none is tagged news = (
    tt,
    record {
      good = record { fit = ((is, tt), tt); history = λ link. []; retells = λ link within. tt };
      tag_is = tagged;
      many = news.length_is;
      each = news.each tables contexts;
    },
  )
  kept_head (line ∷ lines) links tag old new kept none is tagged news = absurd (let some = no_lines (line ∷ lines) old kept none in (cc))

  -- A STEP

  -- the run of this link went on, and that of another didn't
  of_if : (b : Bool) (link tag : ℕ) (e : Event) (h : List Event) (run : LinkRun)
      → (b ≡ true → IsRunOf tables contexts link tag (e ∷ h) run) → (b ≡ false → IsRunOf tables contexts link tag h run) → IsRunOf tables contexts link tag (cond b (e ∷ h) h) run
  of_if true link tag e h run here other = here refl
  of_if false link tag e h run here other = other refl

  -- on the run of its link
  module _ (lines : List Line) (link index : ℕ) (line : LoggedStep) (own : List Contents) (old : Links) (run : LinkRun)
      (kept : IsKept tables contexts lines old) (at : index ≡ link) (within : index < length old.runs.items) (own_is : own ≡ handed_in old.tag tables) (table : HasTable own line) (read : run ≡ get_or old.runs.items index run) where
    -- it is in its place
    placed : IsInPlace tables lines (Step link line)
    placed = step_place lines link line old kept (omega (arith, at, within)) (subst (λ ts. HasTable ts line) (own_are own lines old kept own_is) table)

    -- the run was one of the link
    of : IsRunOf tables contexts link (tag_in lines) (kept.good.history link) run
    of = kept.each link run (read_at old.runs.items index link run at within read)

    -- it is of a turn that isn't out
    pub no_turn : ((h : List Event) → IsAfter (tables_for lines tables) contexts h run → None ≡ step_of h line) → is_gap line ≡ false
        → IsInPlace tables lines (Step link line) × ((is_gap line ≡ false) × Differs (tables_for lines tables) contexts (base_of link (tag_in lines)) (kept.good.history link) line)
    no_turn none gap = (placed, (gap, subst (DiffersBy (tables_for lines tables) contexts (base_of link (tag_in lines)) (kept.good.history link) line) (none (kept.good.history link) of.after) tt))

  -- and was made there
  module _ (lines : List Line) (link index : ℕ) (line : LoggedStep) (step : MadeStep) (made : Stepped) (own : List Contents) (old : Links) (run new : LinkRun)
      (kept : IsKept tables contexts lines old) (at : index ≡ link) (within : index < length old.runs.items) (own_is : own ≡ handed_in old.tag tables) (table : HasTable own line) (read : run ≡ get_or old.runs.items index run) (same_link : new.link ≡ run.link) (same_tag : new.tag ≡ run.tag)
      (step_all : (h : List Event) → IsAfter (tables_for lines tables) contexts h run → Some step ≡ step_of h line)
      (follows_all : (h : List Event) → IsAfter own contexts h run → Follows own contexts h step made new) where
    here : IsInPlace tables lines (Step link line)
    here = placed lines link index line own old run kept at within own_is table read

    was : IsRunOf tables contexts link (tag_in lines) (kept.good.history link) run
    was = of lines link index line own old run kept at within own_is table read

    step_is : Some step ≡ step_of (kept.good.history link) line
    step_is = step_all (kept.good.history link) was.after

    follows : Follows (tables_for lines tables) contexts (kept.good.history link) step made new
    follows =
        subst (λ ts. IsAfter ts contexts (kept.good.history link) run → Follows ts contexts (kept.good.history link) step made new) (own_are own lines old kept own_is)
        (follows_all (kept.good.history link)) was.after

    link_is : new.link ≡ link
    link_is = same_link ∙ was.link_is

    tag_is : new.tag ≡ tag_in lines
    tag_is = same_tag ∙ was.tag_is

    answered : IsAnswer (base_of link (tag_in lines)) (kept.good.history link) step follows.came made.output
    answered =
        subst (λ base. IsAnswer base (kept.good.history link) step follows.came made.output) (λ i. base_of (link_is i) (tag_is i)) follows.answer

    -- it was told as the line tells it: the lines with one more are retold, and the runs are those of their links
    pub made_again : (then : Links) → then.tag ≡ old.tag → then.runs.items ≡ set old.runs.items index new → IsLine (Step link line) → made.line ≡ Some line
        → IsInPlace tables lines (Step link line) × IsKept tables contexts (Step link line ∷ lines) then
    made_again then then_tag then_runs is told_is =
        let h = kept.good.history link in
        let e : Event = record { step = step; came = follows.came; output = made.output } in
        let one : RetellsOne (tables_for lines tables) contexts (base_of link (tag_in lines)) line h e = record { step = sym step_is; came = follows.is_came; answer = answered; tells = sym follows.line ∙ told_is } in
        let gone : IsRunOf tables contexts link (tag_in lines) (e ∷ h) new = record { link_is = link_is; tag_is = tag_is; after = follows.after } in (
          here,
          record {
            good = record {
              fit = ((is, here), kept.good.fit);
              history = λ k. cond (eqb link k) (e ∷ kept.good.history k) (kept.good.history k);
              retells = λ k below.
                  retells_if (tables_for lines tables) contexts (eqb link k) (base_of k (tag_in lines)) line (steps_of k lines) e (kept.good.history k)
                  (λ here. subst (λ n. RetellsOne (tables_for lines tables) contexts (base_of n (tag_in lines)) line (kept.good.history n) e) (eqb-true link k here) one)
                  (kept.good.retells k below);
            };
            tag_is = then_tag ∙ kept.tag_is;
            many = ap length then_runs ∙ length-set old.runs.items index new ∙ kept.many;
            each = λ k r there.
                ⊎_elim
                (λ now. of_if (eqb link k) k (tag_in lines) e (kept.good.history k) r
                (λ here. subst (λ n. IsRunOf tables contexts n (tag_in lines) (e ∷ kept.good.history n) r) (eqb-true link k here) (subst (IsRunOf tables contexts link (tag_in lines) (e ∷ h)) now.1 gone))
                (λ other. absurd (eqb-false link k other (sym (now.0 ∙ at)))))
                (λ before. of_if (eqb link k) k (tag_in lines) e (kept.good.history k) r
                (λ here. absurd (before.0 (sym (at ∙ eqb-true link k here))))
                (λ other. kept.each k r before.1))
                (get_set old.runs.items index new k r (ap (λ l. slice_get l k) (sym then_runs) ∙ there));
          },
        )

    -- it was told otherwise
    pub disagreed : (made.line ≡ Some line → ⊥) → is_gap line ≡ false
        → IsInPlace tables lines (Step link line) × ((is_gap line ≡ false) × Differs (tables_for lines tables) contexts (base_of link (tag_in lines)) (kept.good.history link) line)
    disagreed other none =
        let h = kept.good.history link in
        let otherwise : HasOtherLine (tables_for lines tables) contexts (base_of link (tag_in lines)) h line step = record {
          came = follows.came;
          came_is = follows.is_came;
          output = made.output;
          answer = answered;
          differs = λ is. other (follows.line ∙ is);
        } in
        (here, (none, subst (DiffersBy (tables_for lines tables) contexts (base_of link (tag_in lines)) h line) step_is otherwise))

  -- A TEXT

  -- what comes of a line comes of its text
  pub taken_text : (old : Links) (line : Line) (text : List ℕ) (result : Result (Unit {0}) Refusal) (new : Links)
      → TextIsOfOneLine → IsLine line → text ≡ text_of line → Taking tables contexts old line result new → TakingText tables contexts old text result new
  taken_text old line text (Err BadLine) new one is text_is taking lines kept =
      λ other fits e. taking lines kept is (subst (λ l. IsInPlace tables lines l) (one other line fits.0 is (sym e ∙ text_is)) fits.1)
  taken_text old line text (Err Memory) new one is text_is taking lines kept = tt
  taken_text old line text _ new one is text_is taking lines kept = let t = taking lines kept is in (line, (is, t.0), text_is, t.1)

  -- a run that was read is one of its link
  pub run_at : (tag : ℕ) (history : ℕ → List Event) (same runs : List LinkRun) (link : ℕ) (run : LinkRun)
      → AreAfter tables contexts tag history runs → same ≡ runs → link < length same → run ≡ get_or same link run → IsAfter (handed_in tag tables) contexts (history link) run
  run_at tag history same runs link run after is within at =
      (after link run (ap (λ l. slice_get l link) (sym is) ∙ read_at same link link run refl within at)).after

-- THE REPORT

-- the line of one link more
pub report_more : (link : ℕ) (totals : ℕ → Totals) (before line more : List ℕ) (own : Totals)
    → more ≡ before ++ line → before ≡ report_of link totals → line ≡ report_line link own → own ≡ totals link → more ≡ report_of (link + 1) totals
report_more link totals before line more own is so_far line_is own_is =
    is ∙ (λ i. so_far i ++ (line_is ∙ ap (report_line link) own_is) i) ∙ sym (ap (λ n. report_of n totals) (add-one link))
