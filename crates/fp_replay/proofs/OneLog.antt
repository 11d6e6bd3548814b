-- The lines of an input are one list, and so is what becomes of them.
use Rattle.std.proofs.Common.{◌≡◌, inl, inr, ℕ, ◌+◌, ◌<◌, Bool, true, false, cond, eqb, List, [], ◌∷◌, ◌++◌, drop, length, Option, Some, zero, suc, refl, sym, ◌∙◌, ap, subst, arith, append_assoc, append-nil, length-append, eq-eqb}
use Rattle.std.specs.Prelude.{nat_lt}
use Rattle.std.proofs.lemmas.Bool.{cases_lt}
use Rattle.fp_book.specs.declared.line.Line.{Line}
use Rattle.fp_book.specs.declared.line.Line.TheVariants.{Head, Step}
use Rattle.fp_book.specs.declared.line.LoggedStep.{LoggedStep}
use Rattle.fp_book.specs.declared.line.LoggedStep.TheVariants as logged
use Rattle.fp_book.specs.declared.totals.Totals.{Totals}
use Rattle.fp_entry.specs.declared.prepared.Prepared.{Prepared}
use Rattle.fp_records.specs.Table.{Contents}
use Rattle.fp_steps.specs.Answers.{IsAnswer}
use Rattle.fp_steps.specs.History.{Event}
use Rattle.fp_steps.specs.Laws.{AnswersAreOne, LinesAreRetoldOnce, RetoldLinesAreCounted}
use Rattle.fp_steps.specs.Retold.{Retells, RetellsOne}
use Rattle.fp_steps.specs.Told.{told}
use Rattle.fp_steps.specs.declared.output.Output.{Output}
use Rattle.fp_steps.specs.declared.step.Step.{Step as MadeStep}
use Rattle.fp_steps.specs.declared.step.Step.TheVariants as steps
use Rattle.fp_tids.specs.Identifiers.{base_of}
use Rattle.fp_replay.specs.Format.{IsLine, text_of}
use Rattle.fp_replay.specs.Laws.{TextIsOfOneLine}
use Rattle.fp_replay.specs.Once.{FaultIsOne, IsFaultIn, ReplayedHasNoFault, ReportCountsLines, ReportIsOne, counted_along}
use Rattle.fp_replay.specs.Replayed.{AllFit, Fits, IsReplayed, IsRetold, links_in, log_text, report_line, report_of, steps_of, tables_for, tag_in, totals_along, totals_after}
use Rattle.fp_replay.specs.Stopped.{BadAt, Differs, DiffersBy, HasOtherLine, Reaches, StepAt, is_gap}
use Rattle.fp_replay.specs.declared.replay_fault.ReplayFault.{ReplayFault}
use Rattle.fp_replay.specs.declared.replay_fault.ReplayFault.TheVariants.{BadLine, Gap, Disagrees}
use Rattle.fp_replay.proofs.Cutting.{one_cut}
use Rattle.fp_replay.proofs.LineTexts.{text_one_line}
use Rattle.fp_replay.proofs.Retelling.{place_of}

-- ONE LIST OF LINES

-- the text of one line more, and what follows
more_text : (lines : List Line) (line : Line) (rest : List ℕ) → log_text (line ∷ lines) ++ rest ≡ log_text lines ++ (text_of line ++ 10 ∷ rest)
more_text lines line rest = simp append_assoc

nothing_there : (a b : List ℕ) → [] ≡ a ++ 10 ∷ b → ⊥
nothing_there a b e = let n = ap length e in let size = length-append a (10 ∷ b) in omega (arith, n, size)

-- neither number is smaller
equal : (n m : ℕ) → (n < m → ⊥) → (m < n → ⊥) → n ≡ m
equal n m p q =
    elim (cases_lt n m) [
      | inl less ↦ absurd (p less)
      | inr more ↦ elim (cases_lt m n) [ inl less ↦ absurd (q less) | inr least ↦ omega (arith, more, least) ]
    ]

-- a line that two texts begin with is one, and so is what follows it
same_line : TextIsOfOneLine → (x y : Line) (r s : List ℕ) → IsLine x → IsLine y → text_of x ++ 10 ∷ r ≡ text_of y ++ 10 ∷ s → (x ≡ y) × (r ≡ s)
same_line one x y r s p q e =
    let parts = one_cut 10 (text_of x) r (text_of y) s (text_one_line x p) (text_one_line y q) e in (one x y p q parts.0, parts.1)

-- as many lines of one input are the same, and so is what follows them
same_lines : TextIsOfOneLine → (tables : List Contents) (xs ys : List Line) (r s : List ℕ) → AllFit tables xs → AllFit tables ys → length xs ≡ length ys → log_text xs ++ r ≡ log_text ys ++ s → (xs ≡ ys) × (r ≡ s)
same_lines one tables [] [] r s p q n e = (refl, e)
same_lines one tables (x ∷ xs) (y ∷ ys) r s p q n e =
    let before = same_lines one tables xs ys (text_of x ++ 10 ∷ r) (text_of y ++ 10 ∷ s) p.1 q.1 (omega (arith, n)) (sym (more_text xs x r) ∙ e ∙ more_text ys y s) in
    let last = same_line one x y r s p.0.0 q.0.0 before.1 in
    (λ i. last.0 i ∷ before.0 i, last.1)
same_lines one tables _ _ r s p q n e = absurd (omega (arith, n))

pub same_report : (many : ℕ) (f g : ℕ → Totals) → ((link : ℕ) → link < many → f link ≡ g link) → report_of many f ≡ report_of many g
same_report zero f g same = refl
same_report (suc link) f g same =
    let before = same_report link f g (λ k below. same k (omega (arith, below))) in λ i. before i ++ report_line link (same link (omega arith) i)

-- BY THE TABLES THAT A RUN HAS

module _ (tables : List Contents) (contexts : List (List ℕ)) where
  -- the history of a link behind one line less
  less_if : (b : Bool) (base : ℕ) (step : LoggedStep) (steps : List LoggedStep) (h : List Event)
      → Retells tables contexts base (cond b (step ∷ steps) steps) h → Retells tables contexts base steps (cond b (drop 1 h) h)
  less_if true base step steps [] retells = absurd retells
  less_if true base step steps (e ∷ h) retells = retells.1
  less_if false base step steps h retells = retells

  -- a tick of a history left no dialogue without its Clock
  none_wanting : (base : ℕ) (h : List Event) (st : MadeStep) (came : Option Prepared) (output : Output) (moment added wanting : ℕ)
      → Some (steps.Tick moment) ≡ Some st → IsAnswer base h st came output → told h st output ≡ Some (logged.Tick moment added wanting) → 0 ≡ wanting
  none_wanting base h st came output moment added wanting is answer tells =
      let step_is : st ≡ steps.Tick moment = cc in
      let output_is = subst (λ s. IsAnswer base h s came output) step_is answer in
      let told_is = sym (ap (λ o. told h (steps.Tick moment) o) output_is) ∙ sym (ap (λ s. told h s output) step_is) ∙ tells in
      cc told_is

  -- a gap isn't retold
  gap_untold : (base : ℕ) (step : LoggedStep) (h : List Event) (e : Event) → is_gap step ≡ true → RetellsOne tables contexts base step h e → ⊥
  gap_untold base (logged.Tick moment added wanting) h e gap one =
      let none = none_wanting base h e.step e.came e.output moment added wanting one.step one.answer one.tells in
      let both : nat_lt 0 0 ≡ true = ap (λ w. nat_lt 0 w) none ∙ gap in (cc)
  gap_untold base _ h e gap one = let none = one.step in (cc)

  -- a step that is retold isn't told otherwise
  differs_not : AnswersAreOne → (base : ℕ) (step : LoggedStep) (h : List Event) (e : Event) → RetellsOne tables contexts base step h e → Differs tables contexts base h step → ⊥
  differs_not answers base step h e one d =
      let other : HasOtherLine tables contexts base h step e.step = subst (DiffersBy tables contexts base h step) one.step d in
      let output_is : e.output ≡ other.output = answers tables contexts base h e.step e.came other.came e.output other.output one.came other.came_is one.answer other.answer in
      other.differs (sym (λ i. told h e.step (output_is i)) ∙ one.tells)

  -- the newest line of a link is retold behind the one history of the others
  newest : LinesAreRetoldOnce → (base : ℕ) (step : LoggedStep) (lines : List LoggedStep) (h g : List Event)
      → Retells tables contexts base (step ∷ lines) h → Retells tables contexts base lines g → (e : Event) × RetellsOne tables contexts base step g e
  newest once base step lines [] g retells others = absurd retells
  newest once base step lines (e ∷ h) g retells others =
      (e, subst (λ k. RetellsOne tables contexts base step k e) (once tables contexts base lines h g retells.1 others) retells.0)

module _ (tables : List Contents) (contexts : List (List ℕ)) where
  -- THE NEXT LINE

  -- so one line less is retold
  older : (line : Line) (lines : List Line) → IsRetold tables contexts (line ∷ lines) → IsRetold tables contexts lines
  older (Head links tag) [] good = record { fit = tt; history = λ link. []; retells = λ link below. absurd (omega (arith, below)) }
  older (Head links tag) (last ∷ lines) good = absurd good.fit.0.1
  older (Step other step) lines good = record {
    fit = good.fit.1;
    history = λ link. cond (eqb other link) (drop 1 (good.history link)) (good.history link);
    retells = λ link below. less_if (tables_for lines tables) contexts (eqb other link) (base_of link (tag_in lines)) step (steps_of link lines) (good.history link) (good.retells link below);
  }

  -- the line behind so many others of a log
  record NextLine (lines : List Line) (n : ℕ) : Type 0 where
    before : List Line
    line : Line
    behind : List ℕ
    many : length before ≡ n
    good : IsRetold tables contexts (line ∷ before)
    text : log_text lines ≡ log_text before ++ (text_of line ++ 10 ∷ behind)

  next_line : (lines : List Line) (n : ℕ) → IsRetold tables contexts lines → n < length lines → NextLine lines n
  next_line [] n good below = absurd (omega (arith, below))
  next_line (last ∷ lines) n good below =
      elim (cases_lt n (length lines)) [
        | inl within ↦
            let next = next_line lines n (older last lines good) within in
            record {
              before = next.before;
              line = next.line;
              behind = next.behind ++ (text_of last ++ 10 ∷ []);
              many = next.many;
              good = next.good;
              text = rw next.text (simp append_assoc);
            }
        | inr past ↦ record { before = lines; line = last; behind = []; many = omega (arith, below, past); good = good; text = refl }
      ]

  -- an input begins with these good lines
  record Begun (input : List ℕ) : Type 0 where
    lines : List Line
    tail : List ℕ
    good : IsRetold tables contexts lines
    text : input ≡ log_text lines ++ tail

  -- what follows these lines begins with one that is good
  record Next (before : List Line) (rest : List ℕ) : Type 0 where
    line : Line
    behind : List ℕ
    good : IsRetold tables contexts (line ∷ before)
    text : rest ≡ text_of line ++ 10 ∷ behind

  -- so it does where an input begins with more good lines
  next_of : TextIsOfOneLine → (input : List ℕ) (b : Begun input) (before : List Line) (rest : List ℕ) → AllFit tables before → input ≡ log_text before ++ rest
      → length before < length b.lines → Next before rest
  next_of one input b before rest fit e less =
      let next = next_line b.lines (length before) b.good less in
      let whole : log_text b.lines ++ b.tail ≡ log_text next.before ++ (text_of next.line ++ 10 ∷ (next.behind ++ b.tail)) = rw next.text (simp append_assoc) in
      let same = same_lines one tables next.before before (text_of next.line ++ 10 ∷ (next.behind ++ b.tail)) rest next.good.fit.1 fit next.many (sym whole ∙ sym b.text ∙ e) in
      record {
        line = next.line;
        behind = next.behind ++ b.tail;
        good = subst (λ l. IsRetold tables contexts (next.line ∷ l)) same.0 next.good;
        text = sym same.1;
      }

  -- no line follows all lines of an input
  no_more : TextIsOfOneLine → (input : List ℕ) (b : Begun input) (lines : List Line) → AllFit tables lines → input ≡ log_text lines → length lines < length b.lines → ⊥
  no_more one input b lines fit e less =
      let next = next_of one input b lines [] fit (e ∙ sym (append-nil (log_text lines))) less in nothing_there (text_of next.line) next.behind next.text

  -- A FAULT

  -- the lines before it, which are good
  abbrev begun : (input : List ℕ) (number : ℕ) (before : List Line) (rest : List ℕ) → Reaches tables contexts number input before rest → Begun input
  begun input number before rest r = record { lines = before; tail = rest; good = r.good; text = r.text }

  abbrev lines_before : (input : List ℕ) (fault : ReplayFault) → IsFaultIn tables contexts input fault → Begun input
  lines_before input (BadLine number) f = begun input number f.before f.rest f.reaches
  lines_before input (Gap number) (at, gap) = begun input number at.before (text_of (Step at.link at.step) ++ 10 ∷ at.behind) at.reaches
  lines_before input (Disagrees number) (at, none, d) = begun input number at.before (text_of (Step at.link at.step) ++ 10 ∷ at.behind) at.reaches
  lines_before input _ f = absurd f

  -- the lines of a log that is replayed
  abbrev begun_of : (input report : List ℕ) → IsReplayed tables contexts input report → Begun input
  begun_of input report r = record { lines = r.lines; tail = []; good = r.good; text = r.text ∙ sym (append-nil (log_text r.lines)) }

  module _ (one : TextIsOfOneLine) (answers : AnswersAreOne) (once : LinesAreRetoldOnce) (input : List ℕ) where
    -- a step after fewer lines than are good is retold
    retold_step : (number : ℕ) (b : Begun input) (at : StepAt tables contexts number input) → length at.before < length b.lines
        → (e : Event) × RetellsOne (tables_for at.before tables) contexts (base_of at.link (tag_in at.before)) at.step (at.reaches.good.history at.link) e
    retold_step number b at less =
        let line = Step at.link at.step in
        let next = next_of one input b at.before (text_of line ++ 10 ∷ at.behind) at.reaches.good.fit at.reaches.text less in
        let same = same_line one next.line line next.behind at.behind next.good.fit.0.0 at.fits.0 (sym next.text) in
        let good = subst (λ l. IsRetold tables contexts (l ∷ at.before)) same.0 next.good in
        let below = (place_of tables at.before at.link at.step at.fits.1).0 in
        let there = good.retells at.link below in
        newest (tables_for at.before tables) contexts once (base_of at.link (tag_in at.before)) at.step (steps_of at.link at.before) (good.history at.link) (at.reaches.good.history at.link)
        (rw (eq-eqb at.link at.link refl) at there) (at.reaches.good.retells at.link below)

    -- it isn't among good lines
    not_among : (b : Begun input) (fault : ReplayFault) (f : IsFaultIn tables contexts input fault) → length (lines_before input fault f).lines < length b.lines → ⊥
    not_among b (BadLine number) f less =
        let next = next_of one input b f.before f.rest f.reaches.good.fit f.reaches.text less in f.bad.none next.line next.behind next.good.fit.0 next.text
    not_among b (Gap number) (at, gap) less =
        let retold = retold_step number b at less in gap_untold (tables_for at.before tables) contexts (base_of at.link (tag_in at.before)) at.step (at.reaches.good.history at.link) retold.0 gap retold.1
    not_among b (Disagrees number) (at, none, d) less =
        let retold = retold_step number b at less in differs_not (tables_for at.before tables) contexts answers (base_of at.link (tag_in at.before)) at.step (at.reaches.good.history at.link) retold.0 retold.1 d
    not_among b _ f less = absurd f

    -- something is there, or no line is
    something : (fault : ReplayFault) (f : IsFaultIn tables contexts input fault) → 0 < length (lines_before input fault f).lines → (lines_before input fault f).tail ≡ [] → ⊥
    something (BadLine number) f some none = let n = f.bad.is some in let m = ap length none in omega (arith, n, m)
    something (Gap number) (at, gap) some none = nothing_there (text_of (Step at.link at.step)) at.behind (sym none)
    something (Disagrees number) (at, gap, d) some none = nothing_there (text_of (Step at.link at.step)) at.behind (sym none)
    something _ f some none = absurd f

    -- a line is bad, or a step in its place
    not_both : (n m : ℕ) (f : BadAt tables contexts n input) (at : StepAt tables contexts m input) → f.before ≡ at.before → f.rest ≡ text_of (Step at.link at.step) ++ 10 ∷ at.behind → ⊥
    not_both n m f at lines rest = f.bad.none (Step at.link at.step) at.behind (subst (λ l. Fits tables l (Step at.link at.step)) (sym lines) at.fits) rest

    -- a gap or not
    not_same : (n m : ℕ) (a : StepAt tables contexts n input) (b : StepAt tables contexts m input)
        → text_of (Step a.link a.step) ++ 10 ∷ a.behind ≡ text_of (Step b.link b.step) ++ 10 ∷ b.behind → is_gap a.step ≡ true → is_gap b.step ≡ false → ⊥
    not_same n m a b text gap none =
        let line = (same_line one (Step a.link a.step) (Step b.link b.step) a.behind b.behind a.fits.0 b.fits.0 text).0 in
        let step : a.step ≡ b.step = cc in
        let both : true ≡ false = sym gap ∙ ap is_gap step ∙ none in
        (cc)

    -- lines of one number are as many
    same_number : (n m : ℕ) (xs ys : List Line) → n ≡ length xs + 1 → m ≡ length ys + 1 → xs ≡ ys → n ≡ m
    same_number n m xs ys p q e = p ∙ ap (λ l. length l + 1) e ∙ sym q

    -- two faults after the same lines
    same_fault : (x y : ReplayFault) (f : IsFaultIn tables contexts input x) (g : IsFaultIn tables contexts input y)
        → (lines_before input x f).lines ≡ (lines_before input y g).lines → (lines_before input x f).tail ≡ (lines_before input y g).tail → x ≡ y
    same_fault (BadLine n) (BadLine m) f g lines rest = ap BadLine (same_number n m f.before g.before f.reaches.number_is g.reaches.number_is lines)
    same_fault (BadLine n) (Gap m) f (at, gap) lines rest = absurd (not_both n m f at lines rest)
    same_fault (BadLine n) (Disagrees m) f (at, none, d) lines rest = absurd (not_both n m f at lines rest)
    same_fault (Gap n) (BadLine m) (at, gap) g lines rest = absurd (not_both m n g at (sym lines) (sym rest))
    same_fault (Gap n) (Gap m) (at, gap) (to, gap') lines rest = ap Gap (same_number n m at.before to.before at.reaches.number_is to.reaches.number_is lines)
    same_fault (Gap n) (Disagrees m) (at, gap) (to, none, d) lines rest = absurd (not_same n m at to rest gap none)
    same_fault (Disagrees n) (BadLine m) (at, none, d) g lines rest = absurd (not_both m n g at (sym lines) (sym rest))
    same_fault (Disagrees n) (Gap m) (at, none, d) (to, gap) lines rest = absurd (not_same m n to at (sym rest) gap none)
    same_fault (Disagrees n) (Disagrees m) (at, none, d) (to, none', d') lines rest =
        ap Disagrees (same_number n m at.before to.before at.reaches.number_is to.reaches.number_is lines)
    same_fault (BadLine n) _ f g lines rest = absurd g
    same_fault (Gap n) _ f g lines rest = absurd g
    same_fault (Disagrees n) _ f g lines rest = absurd g
    same_fault _ y f g lines rest = absurd f

-- ONE FAULT

pub no_fault : TextIsOfOneLine → AnswersAreOne → LinesAreRetoldOnce → ReplayedHasNoFault
no_fault one answers once tables contexts input report fault r f =
    let b = lines_before tables contexts input fault f in
    let many = equal (length r.lines) (length b.lines) (no_more tables contexts one input b r.lines r.good.fit r.text)
    (not_among tables contexts one answers once input (begun_of tables contexts input report r) fault f) in
    let same = same_lines one tables r.lines b.lines [] b.tail r.good.fit b.good.fit many (append-nil (log_text r.lines) ∙ sym r.text ∙ b.text) in
    something tables contexts one answers once input fault f (subst (λ l. 0 < length l) same.0 r.begun) (sym same.1)

pub fault_is_one : TextIsOfOneLine → AnswersAreOne → LinesAreRetoldOnce → FaultIsOne
fault_is_one one answers once tables contexts input x y f g =
    let a = lines_before tables contexts input x f in
    let b = lines_before tables contexts input y g in
    let among = not_among tables contexts one answers once input in
    let many = equal (length a.lines) (length b.lines) (among b x f) (among a y g) in
    let same = same_lines one tables a.lines b.lines a.tail b.tail a.good.fit b.good.fit many (sym a.text ∙ b.text) in
    same_fault tables contexts one answers once input x y f g same.0 same.1

-- ONE REPORT

-- the lines of two reports of one input are the same
one_list : TextIsOfOneLine → (tables : List Contents) (contexts : List (List ℕ)) (input x y : List ℕ) → (a : IsReplayed tables contexts input x) → (b : IsReplayed tables contexts input y) → a.lines ≡ b.lines
one_list one tables contexts input x y a b =
    let many = equal (length a.lines) (length b.lines) (no_more tables contexts one input (begun_of tables contexts input y b) a.lines a.good.fit a.text)
    (no_more tables contexts one input (begun_of tables contexts input x a) b.lines b.good.fit b.text) in
    (same_lines one tables a.lines b.lines [] [] a.good.fit b.good.fit many (ap (λ l. l ++ []) (sym a.text ∙ b.text))).0

pub report_is_one : TextIsOfOneLine → LinesAreRetoldOnce → ReportIsOne
report_is_one one once tables contexts input x y a b =
    let lines = one_list one tables contexts input x y a b in
    let links : links_in a.lines ≡ links_in b.lines = ap links_in lines in
    a.report_is
    ∙ same_report (links_in a.lines) (totals_along a.good.history) (totals_along b.good.history) (λ link below. ap totals_after
    (once (tables_for b.lines tables) contexts (base_of link (tag_in b.lines)) (steps_of link b.lines) (a.good.history link) (b.good.history link)
    (subst (λ l. Retells (tables_for l tables) contexts (base_of link (tag_in l)) (steps_of link l) (a.good.history link)) lines (a.good.retells link below))
    (b.good.retells link (omega (arith, links, below)))))
    ∙ ap (λ n. report_of n (totals_along b.good.history)) links
    ∙ sym b.report_is

-- the report counts the lines
pub report_counts : RetoldLinesAreCounted → ReportCountsLines
report_counts counted tables contexts input report r =
    r.report_is
    ∙ same_report (links_in r.lines) (totals_along r.good.history) (counted_along r.lines r.good.history)
    (λ link below. counted (tables_for r.lines tables) contexts (base_of link (tag_in r.lines)) (steps_of link r.lines) (r.good.history link) (r.good.retells link below))
