-- How far the lines of an input were answered, from what was taken of them.
use Rattle.std.proofs.Common.{◌≡◌, ◌⊎◌, ⊎_elim, ℕ, ◌<◌, Bool, true, false, List, [], ◌∷◌, ◌++◌, length, Option, Some, None, Result, Ok, Err, refl, sym, ◌∙◌, ap, subst, arith, append_assoc, append-nil}
use Rattle.std.specs.Prelude.{IfErr, IfSome, OnOk}
use Rattle.std.specs.Io.KnownBytes.{Appends, Consumes, Keeps}
use Rattle.std.proofs.KnownBytes.{Appends-kept, Appends-nil, Appends-trans, Consumes-whole, Keeps-refl}
use Rattle.std.proofs.lemmas.List.Elements.{All-weaker}
use Rattle.fp_records.specs.Table.{Contents}
use Rattle.fp_streams.specs.Ends.{CountsWrites, WriterSays}
use Rattle.fp_streams.specs.Following as follow
use Rattle.fp_streams.specs.Following.{Follows, IsLine, Reaches, TakesAll, TakesLast, Took, after_line, ended}
use Rattle.fp_streams.specs.Line.{BeginsLong, IsOneLine, last_line, lines_of}
use Rattle.fp_streams.specs.Parting.{EndEndsLine, EndedLines, LineFeedEndsLine, LongStaysLong, NoneHasNoLine}
use Rattle.fp_streams.specs.Reads.{joined}
use Rattle.fp_streams.specs.Write.{AppendsFront}
use Rattle.fp_streams.specs.declared.fault.LinesFault.{LinesFault}
use Rattle.fp_ask.specs.proof_only.Answering.{IsAt, RefusesOne, Taker, TakesOne, Writes, asked_of, fault_of}
use Rattle.fp_ask.specs.Asked.{AnswersAll, Breaks, Stops, StopsIn, cause_of}
use Rattle.fp_ask.specs.declared.fault.AskFault.{AskFault}
use Rattle.fp_ask.specs.declared.refusal.Refusal.{Refusal}
use Rattle.fp_ask.specs.Line.{line_in}
use Rattle.fp_ask.specs.Lines.{IsBad, Solo, State, Takes, Written}
use Rattle.fp_ask.specs.declared.line.TheConstants.{MOST as most_line}
use Rattle.fp_ask.proofs.Lines.{both, long_is_bad, solo_more}

-- what holds of the lines of all octets
abbrev pub Parting : Type 0
Parting = record { line_feed : LineFeedEndsLine; end : EndEndsLine; none : NoneHasNoLine; lines : EndedLines; long : LongStaysLong }

-- these lines are good, and of what is written for them this holds
pub record Good (start : State) (old : Taker) (lines : List (List ℕ)) (holds : List ℕ → Type 0) (new : Taker) : Type 0 where
  pub written : Written
  pub solo : Solo old.contents old.contexts start lines written
  pub wrote : holds written.text
  pub at : IsAt written.state new.answerer

-- these lines were answered, one after another
pub record Done (start : State) (old : Taker) (lines : List (List ℕ)) (new : Taker) : Type 0 where
  pub contents : new.contents ≡ old.contents
  pub contexts : new.contexts ≡ old.contexts
  pub writer : new.writer ≡ old.writer
  pub fine : new.failures ≡ old.failures
  pub good : Good start old lines (Appends old.held new.held) new

-- one good line more
good : {start : State} {old new later : Taker} {lines : List (List ℕ)} {line : List ℕ} {holds : List ℕ → Type 0} (then : List ℕ → Type 0) → Done start old lines new
    → Writes new line later holds → ((text more : List ℕ) → Appends old.held new.held text → holds more → then (text ++ more))
    → Good start old (lines ++ line ∷ []) then later
good {start} {old} {new} {lines = lines} {line = line} then d writes joins =
    let g = d.good in
    let a = writes g.written.state g.at in
    record {
      written = both g.written a.written;
      solo = solo_more old.contents old.contexts start lines line g.written a.written g.solo
          (subst (λ c. Takes c old.contexts g.written.state (line_in line) a.written) d.contents
          (subst (λ n. Takes new.contents n g.written.state (line_in line) a.written) d.contexts a.takes));
      wrote = joins g.written.text a.written.text g.wrote a.text;
      at = a.at;
    }

-- one line more was answered
done_more : {start : State} {old new later : Taker} {lines : List (List ℕ)} {line : List ℕ} → Done start old lines new → TakesOne new line later → Done start old (lines ++ line ∷ []) later
done_more {old = old} {new} {later} d t = record {
  contents = t.contents ∙ d.contents;
  contexts = t.contexts ∙ d.contexts;
  writer = t.writer ∙ d.writer;
  fine = t.fine ∙ d.fine;
  good = good (Appends old.held later.held) d t.answers (Appends-trans old.held new.held later.held);
}

-- what takes lines, and is seen so
abbrev pub takes_of : {S : Type 0} → (S → Taker) → S → Bool → List ℕ → S → Type 0
takes_of seen old has_line_feed line new = TakesOne (seen old) line (seen new)

abbrev pub refuses_of : {S : Type 0} → (S → Taker) → S → Bool → List ℕ → Refusal → S → Type 0
refuses_of seen old has_line_feed line refusal new = RefusesOne (seen old) line refusal (seen new)

-- lines that were taken were answered
took_done : {S : Type 0} (seen : S → Taker) (start : State) (first : Taker) (before lines : List (List ℕ)) (old new : S)
    → Took (takes_of seen) old lines new → Done start first before (seen old) → Done start first (before ++ lines) (seen new)
took_done seen start first before [] old new is d = rw (append-nil, is) d
took_done seen start first before (line ∷ lines) old new t d =
    subst (λ l. Done start first l (seen new)) (append_assoc before (line ∷ []) lines)
    (took_done seen start first (before ++ line ∷ []) lines t.between new t.later (done_more d t.first))

-- all that was taken was answered
reached : {S : Type 0} (seen : S → Taker) {start : State} {old new : S} {octets rest : List ℕ} {lines : List (List ℕ)}
    → IsAt start (seen old).answerer → Reaches (takes_of seen) most_line old new octets lines rest → Done start (seen old) lines (seen new)
reached seen {start} {old} {new} {lines = lines} at r = took_done seen start (seen old) [] lines old new r.took (record {
  contents = refl;
  contexts = refl;
  writer = refl;
  fine = refl;
  good = record { written = record { state = start; text = [] }; solo = refl; wrote = Appends-nil (seen old).held; at = at };
})

-- the lines of what was read, and of octets after it
lines_then : {S : Type 0} (p : Parting) {takes : S → Bool → List ℕ → S → Type 0} {old new : S} {octets rest : List ℕ} {lines : List (List ℕ)} (more : List ℕ)
    → Reaches takes most_line old new octets lines rest → lines_of (octets ++ more) ≡ lines ++ lines_of (rest ++ more)
lines_then p {rest = rest} {lines} more r =
    ap (λ l. lines_of (l ++ more)) r.text ∙ ap lines_of (append_assoc (ended lines) rest more)
    ∙ p.lines lines (rest ++ more) (All-weaker (IsLine most_line) IsOneLine (λ l is. is.one_line) lines r.lines_are)

-- this line comes after others in all that may come
abbrev Among : List (List ℕ) → List ℕ → List ℕ → Type 0
Among first line octets = (behind : List (List ℕ)) × (lines_of octets ≡ first ++ line ∷ behind)

-- a line that was handed over is the next one, and the last one without a line feed
next_line : (p : Parting) (has_line_feed : Bool) (line rest more : List ℕ) → IsOneLine line → 0 < length (line ++ after_line has_line_feed rest)
    → (has_line_feed ≡ false → more ≡ []) → Among [] line ((line ++ after_line has_line_feed rest) ++ more)
next_line p true line rest more one some none =
    (lines_of (rest ++ more), ap lines_of (append_assoc line (10 ∷ rest) more) ∙ p.line_feed line (rest ++ more) one)
next_line p false line rest more one some none =
    ([], rw (none refl, append-nil, append-nil) (p.end line one (subst (λ l. 0 < length l) (append-nil line) some)))

-- a line that was declined is the next one
declined_line : {S F : Type 0} (p : Parting) {takes : S → Bool → List ℕ → S → Type 0} {refuses : S → Bool → List ℕ → F → S → Type 0} {old new : S} {octets : List ℕ} {lines : List (List ℕ)} {fault : F} (more : List ℕ)
    → (d : follow.Declines takes refuses most_line old new octets lines fault) → (d.has_line_feed ≡ false → more ≡ []) → Among lines d.line (octets ++ more)
declined_line p {lines = lines} more d none =
    let n = next_line p d.has_line_feed d.line d.rest more d.line_is.one_line d.something none in
    (n.0, lines_then p more d.reaches ∙ ap (λ l. lines ++ l) n.1)

-- a line that is too long
first_long : (lines : List (List ℕ)) → BeginsLong most_line lines → (line : List ℕ) × (behind : List (List ℕ)) × (lines ≡ line ∷ behind) × (most_line < length line)
first_long [] long = absurd long
first_long (line ∷ lines) long = (line, lines, refl, long)

-- nothing was read and nothing written
pub nothing_broken : (contents : Contents) (contexts : List (List ℕ)) (start : State) (had old : Option (List ℕ)) → IfSome had (Breaks contents contexts start had old old)
nothing_broken contents contexts start None old = tt
nothing_broken contents contexts start (Some input) old = record {
  read = [];
  consumed = refl;
  first = [];
  behind = lines_of [];
  lines_read = refl;
  others = lines_of input;
  lines = refl;
  written = record { state = start; text = [] };
  solo = refl;
  front = record { front = []; rest = []; wrote = Appends-nil old; whole = refl };
}

module _ {S : Type 0} (p : Parting) (seen : S → Taker) (start : State) (old new : S) (octets rest : List ℕ) (at : IsAt start (seen old).answerer) where
  -- why no more lines were answered of what was read and what is left
  abbrev Why : AskFault → Type 0
  Why fault = StopsIn (seen old).contents (seen old).contexts start (Some rest) (seen old).held (seen new).held fault (octets ++ rest)

  -- these lines come first in all that may come after what was read
  broke : {first : List (List ℕ)} {then : Taker} → ((more : List ℕ) → (rest ≡ [] → more ≡ []) → (behind : List (List ℕ)) × (lines_of (octets ++ more) ≡ first ++ behind))
      → Good start (seen old) first (AppendsFront (seen old).held (seen new).held) then → Why AskFault.Memory
  broke {first} parts g =
      let here = parts [] (λ _. refl) in
      let all = parts rest (λ e. e) in
      record {
        read = octets;
        consumed = refl;
        first = first;
        behind = here.0;
        lines_read = ap lines_of (sym (append-nil octets)) ∙ here.1;
        others = all.0;
        lines = all.1;
        written = g.written;
        solo = g.solo;
        front = g.wrote;
      }

  -- all of a text is a prefix of it
  whole : {first : List (List ℕ)} {then : Taker} → Good start (seen old) first (Appends (seen old).held then.held) then → Keeps then.held (seen new).held
      → Good start (seen old) first (AppendsFront (seen old).held (seen new).held) then
  whole {then = then} g same = record {
    written = g.written;
    solo = g.solo;
    wrote = record { front = g.written.text; rest = []; wrote = Appends-kept (seen old).held then.held (seen new).held g.written.text g.wrote same; whole = append-nil g.written.text };
    at = g.at;
  }

  -- this line is bad
  bad_line : {first : List (List ℕ)} {then : Taker} (number : ℕ) (line : List ℕ) → follow.IsNext number first → (g : Good start (seen old) first (Appends (seen old).held then.held) then)
      → Keeps then.held (seen new).held → IsBad g.written.state (line_in line) → Among first line (octets ++ rest) → Why (AskFault.BadLine number)
  bad_line {first} {then} number line is g same bad among = record {
    before = first;
    line = line;
    behind = among.0;
    lines = among.1;
    number_is = is;
    written = g.written;
    solo = g.solo;
    bad = bad;
    wrote = Appends-kept (seen old).held then.held (seen new).held g.written.text g.wrote same;
  }

  -- the reading came to a halt
  halted : follow.Begins (takes_of seen) most_line old new octets → Why AskFault.ReadFault
  halted b =
      let g = (reached seen at b.reaches).good in
      record {
        read = octets;
        consumed = refl;
        ended = b.lines;
        begun = b.begun;
        lines = lines_then p (10 ∷ []) b.reaches ∙ ap (λ l. b.lines ++ l) (p.line_feed b.begun [] b.begun_is.one_line ∙ ap (λ l. b.begun ∷ l) p.none);
        written = g.written;
        solo = g.solo;
        wrote = g.wrote;
      }

  -- the answers to a line were cut short
  cut_short : {lines : List (List ℕ)} {refusal : Refusal} (d : follow.Declines (takes_of seen) (refuses_of seen) most_line old new octets lines refusal) → (d.has_line_feed ≡ false → rest ≡ [])
      → Writes (seen d.before_line) d.line (seen new) (AppendsFront (seen d.before_line).held (seen new).held) → Why AskFault.Memory
  cut_short {lines} d end writes =
      broke (λ more none. let n = declined_line p more d (λ h. none (end h)) in (n.0, n.1 ∙ sym (append_assoc lines (d.line ∷ []) n.0)))
      (good {later = seen new} (AppendsFront (seen old).held (seen new).held) (reached seen at d.reaches) writes (λ text more wrote f. record {
        front = text ++ f.front;
        rest = f.rest;
        wrote = Appends-trans (seen old).held (seen d.before_line).held (seen new).held text f.front wrote f.wrote;
        whole = append_assoc text f.front f.rest ∙ ap (λ l. text ++ l) f.whole;
      }))

  -- the same, or nothing was written for it
  broke_off : {lines : List (List ℕ)} {refusal : Refusal} (d : follow.Declines (takes_of seen) (refuses_of seen) most_line old new octets lines refusal) → (d.has_line_feed ≡ false → rest ≡ [])
      → Writes (seen d.before_line) d.line (seen new) (AppendsFront (seen d.before_line).held (seen new).held) ⊎ Keeps (seen d.before_line).held (seen new).held → Why AskFault.Memory
  broke_off d end why = ⊎_elim
      (λ writes. cut_short d end writes)
      (λ same. broke (λ more none. let n = declined_line p more d (λ h. none (end h)) in (d.line ∷ n.0, n.1)) (whole (reached seen at d.reaches).good same))
      why

  -- each fault, with what is left of the input
  stopped_by : (fault : LinesFault Refusal) → follow.Stops (takes_of seen) (refuses_of seen) most_line (Some rest) old new octets fault → Why (fault_of fault)
  stopped_by (LinesFault.TooLong number) (taken, is, g) =
      let long = first_long (lines_of (g.begun ++ (g.rest ++ rest))) (p.long most_line g.begun (g.rest ++ rest) g.one_line g.long) in
      let good = (reached seen at g.reaches).good in
      bad_line number long.0 is good (Keeps-refl (seen new).held) (long_is_bad good.written.state long.0 long.3)
      (long.1, lines_then p rest g.reaches ∙ ap (λ l. taken ++ l) (ap lines_of (append_assoc g.begun g.rest rest) ∙ long.2))
  stopped_by (LinesFault.Refused number Refusal.BadLine) (taken, is, (d, end)) =
      let good = (reached seen at d.reaches).good in
      bad_line number d.line is good d.refused.why.1 (d.refused.why.0 good.written.state good.at) (declined_line p rest d end)
  stopped_by (LinesFault.Refused number Refusal.WriteFault) (taken, is, (d, end)) = broke_off d end d.refused.why
  stopped_by (LinesFault.Refused number Refusal.Memory) (taken, is, (d, end)) = broke_off d end d.refused.why
  stopped_by LinesFault.ReadFault b = halted b
  stopped_by LinesFault.TurnLimit b = halted b
  stopped_by LinesFault.Memory b = broke (λ more _. (lines_of (b.rest ++ more), lines_then p more b.reaches)) (whole (reached seen at b.reaches).good (Keeps-refl (seen new).held))

-- why no more lines were answered
stopped : {S : Type 0} (p : Parting) (seen : S → Taker) (start : State) (had left : Option (List ℕ)) (old new : S) (octets : List ℕ) (fault : LinesFault Refusal)
    → IsAt start (seen old).answerer → Consumes had left octets → follow.Stops (takes_of seen) (refuses_of seen) most_line left old new octets fault
    → IfSome had (StopsIn (seen old).contents (seen old).contexts start left (seen old).held (seen new).held (fault_of fault))
stopped p seen start None left old new octets fault at consumed stops = tt
stopped p seen start (Some input) None old new octets fault at consumed stops = absurd consumed
stopped p seen start (Some input) (Some rest) old new octets fault at consumed stops = rw consumed (stopped_by p seen start old new octets rest at fault stops)

-- the last line
took_last : {S : Type 0} (seen : S → Taker) (start : State) (first : Taker) (lines : List (List ℕ)) (last : List ℕ) (old new : S)
    → Done start first lines (seen old) → TakesLast (takes_of seen) old last new → Done start first (lines ++ last_line last) (seen new)
took_last seen start first lines [] old new d is = rw (append-nil, is) d
took_last seen start first lines (octet ∷ octets) old new d t = done_more d t

-- octets without a line feed are the last line, if there are any
last_lines : (p : Parting) (last : List ℕ) → IsOneLine last → lines_of last ≡ last_line last
last_lines p [] one = refl
last_lines p (octet ∷ octets) one = p.end (octet ∷ octets) one (omega arith)

-- all lines that were taken were answered
all_done : {S : Type 0} (seen : S → Taker) {start : State} {old new : S} {octets : List ℕ} → IsAt start (seen old).answerer
    → (a : TakesAll (takes_of seen) most_line old new octets) → Done start (seen old) (a.lines ++ last_line a.last) (seen new)
all_done seen {start} {old} {new} at a = took_last seen start (seen old) a.lines a.last a.before_last new (reached seen at a.reaches) a.takes_last

-- THE CLAUSES OF A RUN

-- all lines were answered, if the run ended well,
pub answered_is : {S A : Type 0} (p : Parting) (seen : S → Taker) {start : State} {reads : ℕ} {had left : Option (List ℕ)} {before after : Option (List (List ℕ))} {old new : S} (result : Result A (LinesFault Refusal))
    → IsAt start (seen old).answerer → Follows (takes_of seen) (refuses_of seen) most_line reads had left before after old new result
    → OnOk (asked_of result) (IfSome had (AnswersAll (seen old).contents (seen old).contexts start (seen old).held (seen new).held))
answered_is p seen {start} {had = had} {left} {old = old} {new} (Ok done) at f =
    let octets = joined f.pieces in
    let a = f.lines in
    let g = (all_done seen at a).good in
    let lines_are : a.lines ++ last_line a.last ≡ lines_of octets =
    ap (λ l. a.lines ++ l) (sym (ap lines_of (append-nil a.last) ∙ last_lines p a.last a.last_is.one_line)) ∙ sym (lines_then p [] a.reaches) ∙ ap lines_of (append-nil octets) in
    Consumes-whole had left octets (AnswersAll (seen old).contents (seen old).contexts start (seen old).held (seen new).held) f.consumed f.stop.end (record {
      written = g.written;
      solo = subst (λ l. Solo (seen old).contents (seen old).contexts start l g.written) lines_are g.solo;
      wrote = g.wrote;
    })
answered_is p seen (Err fault) at f = tt

-- and if not, this is why
pub stopped_is : {S A : Type 0} (p : Parting) (seen : S → Taker) {start : State} {reads : ℕ} {had left : Option (List ℕ)} {before after : Option (List (List ℕ))} {old new : S} (result : Result A (LinesFault Refusal))
    → IsAt start (seen old).answerer → Follows (takes_of seen) (refuses_of seen) most_line reads had left before after old new result
    → IfErr (asked_of result) (Stops (seen old).contents (seen old).contexts start had left (seen old).held (seen new).held)
stopped_is p seen (Ok done) at f = tt
stopped_is p seen {start} {had = had} {left} {old = old} {new} (Err fault) at f = stopped p seen start had left old new (joined f.pieces) fault at f.consumed f.lines

-- the writer is lent as before, and what is known of its failures
abbrev pub Lent : (ℕ → ℕ → Type 0) → Taker → Taker → Type 0
Lent counts old new = (new.writer ≡ old.writer) × counts old.failures new.failures

-- after lines that were answered neither has changed
lent : {start : State} {old new : Taker} {lines : List (List ℕ)} → Done start old lines new → Lent (λ o n. n ≡ o) old new
lent d = (d.writer, d.fine)

-- after one that was refused, by its fault
refused : {S : Type 0} (seen : S → Taker) {start : State} (number : ℕ) {old new : S} {octets : List ℕ} {taken : List (List ℕ)} (refusal : Refusal)
    → IsAt start (seen old).answerer → follow.Declines (takes_of seen) (refuses_of seen) most_line old new octets taken refusal
    → Lent (λ o n. WriterSays o n (cause_of (fault_of (LinesFault.Refused number refusal)))) (seen old) (seen new)
refused seen number Refusal.BadLine at d = let done = reached seen at d.reaches in (d.refused.writer ∙ done.writer, d.refused.failures ∙ done.fine)
refused seen number Refusal.WriteFault at d =
    let done = reached seen at d.reaches in (d.refused.writer ∙ done.writer, λ is. d.refused.failures (is ∙ sym done.fine))
refused seen number Refusal.Memory at d = let done = reached seen at d.reaches in (d.refused.writer ∙ done.writer, d.refused.failures ∙ done.fine)

-- and after a run
pub writer_is : {S A : Type 0} (seen : S → Taker) {start : State} {reads : ℕ} {had left : Option (List ℕ)} {before after : Option (List (List ℕ))} {old new : S} (result : Result A (LinesFault Refusal))
    → IsAt start (seen old).answerer → Follows (takes_of seen) (refuses_of seen) most_line reads had left before after old new result
    → Lent (CountsWrites cause_of (asked_of result)) (seen old) (seen new)
writer_is seen (Ok done) at f = lent (all_done seen at f.lines)
writer_is seen (Err (LinesFault.TooLong number)) at f = lent (reached seen at f.lines.2.reaches)
writer_is seen (Err (LinesFault.Refused number refusal)) at f = refused seen number refusal at f.lines.2.0
writer_is seen (Err LinesFault.ReadFault) at f = lent (reached seen at f.lines.reaches)
writer_is seen (Err LinesFault.TurnLimit) at f = lent (reached seen at f.lines.reaches)
writer_is seen (Err LinesFault.Memory) at f = lent (reached seen at f.lines.reaches)
