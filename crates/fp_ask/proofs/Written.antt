-- What was written for one line.
use Rattle.std.proofs.Common.{◌≡◌, ◌≢◌, ◌⊎◌, ℕ, false, List, [], Result, Ok, Err, Some, refl, sym, ◌∙◌, subst, append-nil, inl, inr}
use Rattle.std.specs.Prelude.{IfErr, MatchResult, OnErr, OnOk}
use Rattle.std.specs.Io.KnownBytes.{Appends, Keeps}
use Rattle.std.proofs.KnownBytes.{Appends-kept, Keeps-trans}
use Rattle.fp_streams.specs.Write.{AppendsFront}
use Rattle.fp_ask.specs.proof_only.Answering.{IsAt, RefusesOne, Taker, TakesOne, Taking, Writes, WriterFailed, is_write_fault}
use Rattle.fp_ask.specs.Line.{text_of}
use Rattle.fp_ask.specs.declared.refusal.Refusal.{Refusal}
use Rattle.fp_ask.specs.declared.refusal.Refusal.TheVariants.{BadLine, WriteFault, Memory}

-- what holds of the lines of its frames holds of what is written for it
written : (old new : Taker) (line : List ℕ) (frames : List (List ℕ)) (holds : List ℕ → Type 0)
    → Taking old.contents old.contexts line old.answerer (Some frames) new.answerer → holds (text_of frames) → Writes old line new holds
written old new line frames holds taking h state at =
    let a = taking state at in
    record { written = a.written; takes = a.takes; text = subst holds (sym a.text) h; at = a.at }

-- what a line made of the link and of the output
pub line_written : {A : Type 0} (old new : Taker) (line : List ℕ) (frames : List (List ℕ)) (result : Result A Refusal)
    → new.contents ≡ old.contents → new.contexts ≡ old.contexts → new.writer ≡ old.writer
    → Taking old.contents old.contexts line old.answerer (Some frames) new.answerer
    → OnOk result (Appends old.held new.held (text_of frames)) → OnErr result (AppendsFront old.held new.held (text_of frames))
    → IfErr result (λ refusal. refusal ≢ BadLine)
    → MatchResult result (λ _. new.failures ≡ old.failures) (λ refusal. WriterFailed refusal old.failures new.failures)
    → MatchResult result (λ _. TakesOne old line new) (λ refusal. RefusesOne old line refusal new)
line_written old new line frames (Ok done) contents contexts writer taking wrote front good failures = record {
  contents = contents;
  contexts = contexts;
  writer = writer;
  answers = written old new line frames (Appends old.held new.held) taking wrote;
  fine = failures;
}
line_written old new line frames (Err BadLine) contents contexts writer taking wrote front good failures = absurd (good refl)
line_written old new line frames (Err WriteFault) contents contexts writer taking wrote front good failures =
    record { writer = writer; why = inl (written old new line frames (AppendsFront old.held new.held) taking front); failures = failures }
line_written old new line frames (Err Memory) contents contexts writer taking wrote front good failures =
    record { writer = writer; why = inl (written old new line frames (AppendsFront old.held new.held) taking front); failures = failures }

-- what is so once the writer handed on what it holds: it holds the same, and may have failed
pub record Handed (mid new : Taker) : Type 0 where
  pub contents : new.contents ≡ mid.contents
  pub contexts : new.contexts ≡ mid.contexts
  pub answerer : new.answerer ≡ mid.answerer
  pub writer : new.writer ≡ mid.writer
  pub held : Keeps mid.held new.held

-- what was written is still written
still : (old mid new : Taker) (line : List ℕ) → Handed mid new → (holds then : List ℕ → Type 0) → ((text : List ℕ) → holds text → then text)
    → Writes old line mid holds → Writes old line new then
still old mid new line h holds then moves writes state at =
    let a = writes state at in
    record { written = a.written; takes = a.takes; text = moves a.written.text a.text; at = subst (IsAt a.written.state) (sym h.answerer) a.at }

-- a front of it too
still_front : (old mid new : Taker) (line : List ℕ) → Handed mid new → Writes old line mid (AppendsFront old.held mid.held) ⊎ Keeps old.held mid.held
    → Writes old line new (AppendsFront old.held new.held) ⊎ Keeps old.held new.held
still_front old mid new line h (inl writes) = inl (still old mid new line h (AppendsFront old.held mid.held) (AppendsFront old.held new.held)
    (λ text f. record { front = f.front; rest = f.rest; wrote = Appends-kept old.held mid.held new.held f.front f.wrote h.held; whole = f.whole }) writes)
still_front old mid new line h (inr same) = inr (Keeps-trans old.held mid.held new.held same h.held)

-- a line that was answered or refused, once that was handed on,
pub handed_on : {A : Type 0} (old mid new : Taker) (line : List ℕ) (result : Result A Refusal) → Handed mid new → new.failures ≡ mid.failures
    → MatchResult result (λ _. TakesOne old line mid) (λ refusal. RefusesOne old line refusal mid)
    → MatchResult result (λ _. TakesOne old line new) (λ refusal. RefusesOne old line refusal new)
handed_on old mid new line (Ok done) h fine t = record {
  contents = h.contents ∙ t.contents;
  contexts = h.contexts ∙ t.contexts;
  writer = h.writer ∙ t.writer;
  answers = still old mid new line h (Appends old.held mid.held) (Appends old.held new.held)
      (λ text wrote. Appends-kept old.held mid.held new.held text wrote h.held) t.answers;
  fine = fine ∙ t.fine;
}
handed_on old mid new line (Err BadLine) h fine r =
    record { writer = h.writer ∙ r.writer; why = (r.why.0, Keeps-trans old.held mid.held new.held r.why.1 h.held); failures = fine ∙ r.failures }
handed_on old mid new line (Err WriteFault) h fine r =
    record { writer = h.writer ∙ r.writer; why = still_front old mid new line h r.why; failures = λ same. r.failures (sym fine ∙ same) }
handed_on old mid new line (Err Memory) h fine r =
    record { writer = h.writer ∙ r.writer; why = still_front old mid new line h r.why; failures = fine ∙ r.failures }

-- and once the writer failed at that
pub not_handed_on : {A : Type 0} (old mid new : Taker) (line : List ℕ) (result : Result A Refusal) → is_write_fault result ≡ false
    → Handed mid new → new.failures ≢ mid.failures
    → MatchResult result (λ _. TakesOne old line mid) (λ refusal. RefusesOne old line refusal mid) → RefusesOne old line WriteFault new
not_handed_on old mid new line (Ok done) other h failed t = record {
  writer = h.writer ∙ t.writer;
  why = inl (still old mid new line h (Appends old.held mid.held) (AppendsFront old.held new.held) (λ text wrote. record {
    front = text;
    rest = [];
    wrote = Appends-kept old.held mid.held new.held text wrote h.held;
    whole = append-nil text;
  }) t.answers);
  failures = λ same. failed (same ∙ sym t.fine);
}
not_handed_on old mid new line (Err BadLine) other h failed r =
    record { writer = h.writer ∙ r.writer; why = inr (Keeps-trans old.held mid.held new.held r.why.1 h.held); failures = λ same. failed (same ∙ sym r.failures) }
not_handed_on old mid new line (Err WriteFault) other h failed r = absurd (cc)
not_handed_on old mid new line (Err Memory) other h failed r =
    record { writer = h.writer ∙ r.writer; why = still_front old mid new line h r.why; failures = λ same. failed (same ∙ sym r.failures) }
