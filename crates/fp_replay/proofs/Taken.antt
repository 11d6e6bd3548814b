-- What the lines that were taken of a log make of a replay.
use Rattle.std.proofs.Common.{◌≡◌, ℕ, ◌+◌, ◌<◌, Bool, true, false, List, [], ◌∷◌, ◌++◌, length, Option, Some, None, refl, sym, ◌∙◌, ap, subst, arith, append_assoc, append-nil, length-append}
use Rattle.std.specs.Prelude.{IfErr, IfOk, IfSome, MatchResult, OnOk, Result, Ok, Err}
use Rattle.std.specs.Io.KnownBytes.{Consumes, IsAtEnd}
use Rattle.std.proofs.KnownBytes.{Consumes-whole}
use Rattle.std.proofs.lemmas.List.Elements.{All-head, All-tail}
use Rattle.fp_book.specs.declared.line.Line.{Line}
use Rattle.fp_book.specs.declared.line.Line.TheVariants.{Head, Step}
use Rattle.fp_book.specs.declared.line.LoggedStep.{LoggedStep}
use Rattle.fp_records.specs.Table.{Contents}
use Rattle.fp_streams.specs.Following as following
use Rattle.fp_streams.specs.Line.{IsOneLine}
use Rattle.fp_streams.specs.declared.fault.LinesFault.{LinesFault}
use Rattle.fp_streams.specs.declared.fault.LinesFault.TheVariants.{Refused, TooLong}
use Rattle.fp_streams.specs.declared.fault.LinesFault.TheVariants as reading
use Rattle.fp_replay.specs.Format.{text_of}
use Rattle.fp_replay.specs.proof_only.Making.{AreNone, IsKept, IsReport, IsUnreported, TakingEnded, TakingText, TakesText, fault_at, fault_of}
use Rattle.fp_replay.specs.Replayed.{Fits, IsReplayed, log_text, report_of, tag_in, totals_along}
use Rattle.fp_replay.specs.Stopped.{BadAt, DisagreesAt, GapAt, Halts, Reaches, ReachesEnd, StepAt}
use Rattle.fp_replay.specs.proof_only.Taking.{refuses, takes}
use Rattle.fp_replay.specs.declared.links.Links.{Links}
use Rattle.fp_replay.specs.declared.replay_fault.Refusal.{Refusal}
use Rattle.fp_replay.specs.declared.replay_fault.Refusal.TheVariants.{BadLine, Gap, Disagrees, Memory}
use Rattle.fp_replay.specs.declared.replay_fault.ReplayFault.{ReplayFault}
use Rattle.fp_replay.specs.declared.replay_fault.ReplayFault.TheVariants as faults
use Rattle.fp_replay.specs.declared.replaying.Replaying.{Replaying}
use Rattle.fp_replay.proofs.Cutting.{one_cut}
use Rattle.fp_replay.proofs.LineTexts.{text_one_line, text_short}
use Rattle.fp_replay.proofs.Retelling.{kept_none, no_lines}

-- what taking a text that ended with a line feed makes of the links it makes of a replay
pub taken : (old new : Replaying) (has_line_feed : Bool) (text : List ℕ) (result : Result (Unit {0}) Refusal) → has_line_feed ≡ true → new.tables.now ≡ old.tables.now → new.contexts.now ≡ old.contexts.now
    → TakingText old.tables.now old.contexts.now old.links text result new.links
    → MatchResult result (λ _. takes old has_line_feed text new) (λ refusal. refuses old has_line_feed text refusal new)
taken old new false text result is table names taking = absurd (cc)
taken old new true text (Ok done) is table names taking = record { tables = table; contexts = names; taking = taking }
taken old new true text (Err refusal) is table names taking = taking

-- what a reader has left comes after what was read
consumed_then : (had left : Option (List ℕ)) (read : List ℕ) (P : List ℕ → Type 0) → Consumes had left read
    → ((rest : List ℕ) → (left ≡ Some rest) → P (read ++ rest)) → IfSome had P
consumed_then None left read P c h = tt
consumed_then (Some input) None read P c h = absurd c
consumed_then (Some input) (Some rest) read P c h = subst P (sym c) (h rest refl)

at_once : (left : Option (List ℕ)) (rest : List ℕ) → left ≡ Some rest → IsAtEnd left → rest ≡ []
at_once left rest e end = subst IsAtEnd e end

-- no line feed is in one line
inside : (a b x y : List ℕ) → IsOneLine a → length x < length a → a ++ b ≡ x ++ 10 ∷ y → ⊥
inside [] b x y one within e = omega (arith, within)
inside (o ∷ a) b [] y one within e = All-head (λ octet. octet ≡ 10 → ⊥) o a one (cc)
inside (o ∷ a) b (u ∷ x) y one within e =
    let rest : a ++ b ≡ x ++ 10 ∷ y = cc in inside a b x y (All-tail (λ octet. octet ≡ 10 → ⊥) o a one) (omega (arith, within)) rest

-- no line is left
last_none : (last : List ℕ) (old new : Replaying) → following.TakesLast takes old last new → (last ≡ []) × (new ≡ old)
last_none [] old new same = (refl, same)
last_none (octet ∷ octets) old new t = absurd (let no = t.taking in (cc))

module _ (tables : List Contents) (contexts : List (List ℕ)) where
  -- THE LINES

  -- a replay by these tables and names
  pub record IsBy (replaying : Replaying) : Type 0 where
    pub tables_are : replaying.tables.now ≡ tables
    pub names : replaying.contexts.now ≡ contexts

  -- what comes of a text by the tables and the names of a replay
  by_these : (at : Replaying) (has_line_feed : Bool) (text : List ℕ) (result : Result (Unit {0}) Refusal) (new : Links)
      → IsBy at → TakingEnded at.tables.now at.contexts.now at.links has_line_feed text result new
      → TakingEnded tables contexts at.links has_line_feed text result new
  by_these at has_line_feed text result new by taking =
      subst (λ c. TakingEnded c contexts at.links has_line_feed text result new) by.tables_are
      (subst (λ n. TakingEnded at.tables.now n at.links has_line_feed text result new) by.names taking)

  -- texts were taken after these lines: they are lines of the log, too
  record Took (texts : List (List ℕ)) (before : List Line) (new : Replaying) : Type 0 where
    lines : List Line
    text : log_text lines ≡ log_text before ++ following.ended texts
    many : length lines ≡ length before + length texts
    by : IsBy new
    kept : IsKept tables contexts lines new.links

  took : (texts : List (List ℕ)) (before : List Line) (old new : Replaying)
      → IsBy old → IsKept tables contexts before old.links → following.Took takes old texts new → Took texts before new
  took [] before old new by kept same = record {
    lines = before;
    text = sym (append-nil (log_text before));
    many = omega arith;
    by = subst IsBy (sym same) by;
    kept = subst (λ (r : Replaying). IsKept tables contexts before r.links) (sym same) kept;
  }
  took (text ∷ texts) before old new by kept t =
      let taken = by_these old true text (Ok tt) t.between.links by t.first.taking before kept in
      let line = taken.0 in
      let later = took texts (line ∷ before) t.between new (record { tables_are = t.first.tables ∙ by.tables_are; names = t.first.contexts ∙ by.names }) taken.3 t.later in
      let n = later.many in
      record {
        lines = later.lines;
        text =
            later.text ∙ append_assoc (log_text before) (text_of line ++ 10 ∷ []) (following.ended texts)
            ∙ ap (λ l. log_text before ++ ((l ++ 10 ∷ []) ++ following.ended texts)) (sym taken.2);
        many = omega (arith, n);
        by = later.by;
        kept = later.kept;
      }

  -- these octets are lines of a log, as many as these texts, and this rest
  record Reached (octets : List ℕ) (texts : List (List ℕ)) (rest : List ℕ) (new : Replaying) : Type 0 where
    lines : List Line
    text : octets ≡ log_text lines ++ rest
    many : length lines ≡ length texts
    by : IsBy new
    kept : IsKept tables contexts lines new.links

  reached : (old new : Replaying) (octets rest : List ℕ) (texts : List (List ℕ))
      → IsBy old → AreNone old.links → following.Reaches takes 8300 old new octets texts rest → Reached octets texts rest new
  reached old new octets rest texts by none r =
      let t = took texts [] old new by (kept_none tables contexts old.links none) r.took in
      let n = t.many in
      record { lines = t.lines; text = r.text ∙ ap (λ l. l ++ rest) (sym t.text); many = omega (arith, n); by = t.by; kept = t.kept }

  -- A LINE THAT ISN'T TAKEN

  module _ (number : ℕ) (had left : Option (List ℕ)) (octets : List ℕ) (texts : List (List ℕ)) (consumed : Consumes had left octets) (next : following.IsNext number texts) where
    -- the lines, and what is left
    reaches_then : (rest : List ℕ) (new : Replaying) (r : Reached octets texts rest new) (more : List ℕ) → Reaches tables contexts number (octets ++ more) r.lines (rest ++ more)
    reaches_then rest new r more = record {
      good = r.kept.good;
      text = ap (λ l. l ++ more) r.text ∙ append_assoc (log_text r.lines) rest more;
      number_is = next ∙ ap (λ n. n + 1) (sym r.many);
    }

    -- what follows them is no line
    bad_then : (rest : List ℕ) (new : Replaying) (r : Reached octets texts rest new) → 0 < length rest
        → ((more : List ℕ) → left ≡ Some more → (line : Line) (after : List ℕ) → Fits tables r.lines line → rest ++ more ≡ text_of line ++ 10 ∷ after → ⊥) → IfSome had (BadAt tables contexts number)
    bad_then rest new r some none =
        consumed_then had left octets (BadAt tables contexts number) consumed (λ more is. record {
          before = r.lines;
          rest = rest ++ more;
          reaches = reaches_then rest new r more;
          bad = record { is = λ lines. let size = length-append rest more in omega (arith, some, size); none = none more is };
        })

    -- it is too long
    long : (old new : Replaying) → IsBy old → AreNone old.links → following.GrowsLong takes 8300 old new octets texts → IfSome had (BadAt tables contexts number)
    long old new by none g =
        let n = length-append g.begun g.rest in
        let m = g.long in
        bad_then (g.begun ++ g.rest) new (reached old new octets (g.begun ++ g.rest) texts by none g.reaches) (omega (arith, n, m)) (λ more is line after fits e.
        inside g.begun (g.rest ++ more) (text_of line) after g.one_line (let n = text_short line fits.0 in omega (arith, n, m))
        (sym (append_assoc g.begun g.rest more) ∙ e))

    module _ (line tail : List ℕ) (at : Replaying) (new : Links) (one : IsOneLine line) where
      -- it is a step of a link
      abbrev step_then : (r : Reached octets texts (line ++ 10 ∷ tail) at) (link : ℕ) (step : LoggedStep) → Fits tables r.lines (Step link step) → line ≡ text_of (Step link step)
          → (more : List ℕ) → StepAt tables contexts number (octets ++ more)
      step_then r link step fits text_is more = record {
        before = r.lines;
        link = link;
        step = step;
        behind = tail ++ more;
        fits = fits;
        reaches = record {
          good = r.kept.good;
          text =
              (reaches_then (line ++ 10 ∷ tail) at r more).text
              ∙ ap (λ l. log_text r.lines ++ l) (append_assoc line (10 ∷ tail) more ∙ ap (λ l. l ++ 10 ∷ (tail ++ more)) text_is);
          number_is = (reaches_then (line ++ 10 ∷ tail) at r more).number_is;
        };
      }

      -- it ends with a line feed, and is refused
      refused_fed : (refusal : Refusal) (r : Reached octets texts (line ++ 10 ∷ tail) at) → TakesText tables contexts r.lines r.kept.good line (Err refusal) new
          → Halts tables contexts had left (fault_at refusal number)
      refused_fed BadLine r none =
          bad_then (line ++ 10 ∷ tail) at r (let n = length-append line (10 ∷ tail) in omega (arith, n)) (λ more is other after fits e.
          none other fits
          (one_cut 10 line (tail ++ more) (text_of other) after one (text_one_line other fits.0) (sym (append_assoc line (10 ∷ tail) more) ∙ e)).0)
      refused_fed Gap r (Step link step, fits, text_is, gap) =
          consumed_then had left octets (GapAt tables contexts number) consumed (λ more is. (step_then r link step fits text_is more, gap))
      refused_fed Disagrees r (Step link step, fits, text_is, other) =
          consumed_then had left octets (DisagreesAt tables contexts number) consumed (λ more is. (step_then r link step fits text_is more, other.0, other.1))
      refused_fed Memory r done = tt
      refused_fed Gap r (Head links tag, fits, text_is, never) = absurd never
      refused_fed Disagrees r (Head links tag, fits, text_is, never) = absurd never

      -- it is refused
      refused_by : (has_line_feed : Bool) (refusal : Refusal) → Reached octets texts (line ++ following.after_line has_line_feed tail) at
          → 0 < length (line ++ following.after_line has_line_feed tail) → (has_line_feed ≡ false → IsAtEnd left)
          → TakingEnded tables contexts at.links has_line_feed line (Err refusal) new → Halts tables contexts had left (fault_at refusal number)
      refused_by true refusal r some end taking = refused_fed refusal r (taking r.lines r.kept)
      refused_by false BadLine r some end taking =
          bad_then (line ++ []) at r some (λ more is other after fits e.
          let whole : line ++ [] ≡ text_of other ++ 10 ∷ after = sym (append-nil (line ++ [])) ∙ ap (λ l. (line ++ []) ++ l) (sym (at_once left more is (end refl))) ∙ e in
          let size = ap length whole in
          let n = length-append line [] in
          let m = length-append (text_of other) (10 ∷ after) in
          inside line [] (text_of other) after one (omega (arith, size, n, m)) whole)
      refused_by false _ r some end taking = absurd (cc)

  module _ (had left : Option (List ℕ)) (old new : Replaying) (octets : List ℕ) (by : IsBy old) (none : AreNone old.links) (consumed : Consumes had left octets) where
    -- not all of the input was read
    begun : following.Begins takes 8300 old new octets → IfSome had (ReachesEnd tables contexts left)
    begun b =
        let r = reached old new octets b.begun b.lines by none b.reaches in
        consumed_then had left octets (ReachesEnd tables contexts left) consumed (λ rest is. record {
          read = octets;
          consumed = subst (λ l. Consumes (Some (octets ++ rest)) l octets) (sym is) refl;
          lines = r.lines;
          begun = b.begun;
          text = r.text;
          one_line = b.begun_is.one_line;
          short = b.begun_is.short;
          good = r.kept.good;
        })

    pub halts : (fault : LinesFault Refusal) → following.Stops takes refuses 8300 left old new octets fault → Halts tables contexts had left (fault_of fault)
    halts (TooLong number) (texts, next, grows) = long number had left octets texts consumed next old new by none grows
    halts (Refused number refusal) (texts, next, (d, end)) =
        let r = reached old d.before_line octets (d.line ++ following.after_line d.has_line_feed d.rest) texts by none d.reaches in
        refused_by number had left octets texts consumed next d.line d.rest d.before_line new.links d.line_is.one_line d.has_line_feed refusal r d.something end
        (by_these d.before_line d.has_line_feed d.line (Err refusal) new.links r.by d.refused)
    halts reading.Memory b = tt
    halts _ b = begun b

  -- ALL LINES

  -- the octets are those lines
  pub record Whole (octets : List ℕ) (links : Links) : Type 0 where
    pub lines : List Line
    pub text : octets ≡ log_text lines
    pub kept : IsKept tables contexts lines links

  pub whole : (old new : Replaying) (octets : List ℕ) → IsBy old → AreNone old.links → following.TakesAll takes 8300 old new octets → Whole octets new.links
  whole old new octets by none t =
      let r = reached old t.before_last octets t.last t.lines by none t.reaches in
      let last = last_none t.last t.before_last new t.takes_last in
      record {
        lines = r.lines;
        text = r.text ∙ ap (λ l. log_text r.lines ++ l) last.0 ∙ append-nil (log_text r.lines);
        kept = subst (λ (s : Replaying). IsKept tables contexts r.lines s.links) (sym last.1) r.kept;
      }

  module _ (had left : Option (List ℕ)) (octets : List ℕ) (links : Links) (w : Whole octets links) (consumed : Consumes had left octets) (end : IsAtEnd left) where
    -- there is a report
    pub reported : {A : Type 0} (bytes : A → List ℕ) (final : Result A ReplayFault) → OnOk final (0 < length links.runs.items) → IfOk final (λ report. IsReport links.runs.items (bytes report))
        → IfOk final (λ report. IfSome had (λ input. IsReplayed tables contexts input (bytes report)))
    reported bytes (Err fault) some is = tt
    reported bytes (Ok report) some is =
        Consumes-whole had left octets (λ input. IsReplayed tables contexts input (bytes report)) consumed end (record {
          lines = w.lines;
          begun = lines_some w.lines w.kept;
          text = w.text;
          good = w.kept.good;
          report_is = is tables contexts (tag_in w.lines) w.kept.good.history w.kept.each ∙ ap (λ n. report_of n (totals_along w.kept.good.history)) w.kept.many;
        })
      where
        lines_some : (lines : List Line) → IsKept tables contexts lines links → 0 < length lines
        lines_some [] kept = absurd (let n = kept.many in omega (arith, n, some))
        lines_some (line ∷ lines) kept = omega arith

    -- there is none
    unreported : (fault : ReplayFault) → IsUnreported links.runs.items fault → Halts tables contexts had left fault
    unreported (faults.BadLine number) (is, none) =
        let n = ap length (no_lines tables contexts w.lines links w.kept (ap length none)) in
        consumed_then had left octets (BadAt tables contexts number) consumed (λ rest more. record {
          before = w.lines;
          rest = rest;
          reaches = record { good = w.kept.good; text = ap (λ l. l ++ rest) w.text; number_is = omega (arith, n, is) };
          bad = record {
            is = λ some. absurd (omega (arith, n, some));
            none = λ line after fits e.
                let n = ap length (sym (at_once left rest more end) ∙ e) in let size = length-append (text_of line) (10 ∷ after) in omega (arith, n, size);
          };
        })
    unreported faults.Memory done = tt
    unreported _ never = absurd never

    pub unreported_if : {A : Type 0} (final : Result A ReplayFault) → IfErr final (IsUnreported links.runs.items) → IfErr final (Halts tables contexts had left)
    unreported_if (Ok report) is = tt
    unreported_if (Err fault) is = unreported fault is
