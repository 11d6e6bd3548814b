-- What one line makes of a link and its moment, and of what is written.
use Rattle.std.specs.Prelude.{◌≡◌, ◌≢◌, ◌⊎◌, ℕ, Bool, true, false, List, Option, Some, None, Result, Ok, Err}
use Rattle.std.specs.Io.KnownBytes.{Appends, Keeps}
use Rattle.fp_records.specs.Table.{Contents}
use Rattle.fp_streams.specs.Write.{AppendsFront}
use Rattle.fp_streams.specs.declared.fault.LinesFault.{LinesFault}
use Rattle.fp_streams.specs.declared.fault.LinesFault.TheVariants as faults
use Rattle.fp_ask.specs.declared.answerer.Answerer.{Answerer}
use Rattle.fp_ask.specs.declared.answering.Answering.{Answering}
use Rattle.fp_ask.specs.declared.refusal.Refusal.{Refusal}
use Rattle.fp_ask.specs.declared.refusal.Refusal.TheVariants.{BadLine, WriteFault, Memory}
use Rattle.fp_ask.specs.declared.fault.AskFault.{AskFault}
use Rattle.fp_ask.specs.declared.fault.AskFault.TheVariants as ask
use Rattle.fp_ask.specs.declared.line.Line.{Line}
use Rattle.fp_ask.specs.declared.line.Line.TheVariants.{Message, Wait}
use Rattle.fp_ask.specs.Line.{Input, line_in, message, text_of, wait}
use Rattle.fp_ask.specs.Lines.{IsBad, State, Takes, Written}
use Rattle.fp_ask.specs.proof_only.Serving.{Tells}

-- what a line that was read says
abbrev pub input_of : Line → Input
input_of (Message frame) = message frame
input_of (Wait milliseconds) = wait milliseconds

-- the moment and the dialogues are these
pub record IsAt (state : State) (a : Answerer) : Type 0 where
  pub moment : state.moment ≡ a.moment
  pub tells : Tells state.link a.link

-- the line is good: of what is written for it this holds, and what is so then
pub record Answers (contents : Contents) (contexts : List (List ℕ)) (state : State) (line : List ℕ) (new : Answerer) (holds : List ℕ → Type 0) : Type 0 where
  pub written : Written
  pub takes : Takes contents contexts state (line_in line) written
  pub text : holds written.text
  pub at : IsAt written.state new

-- what comes of a line: these frames are sent for a good one; a bad line has no frames
abbrev pub Taken : Contents → List (List ℕ) → State → List ℕ → Option (List (List ℕ)) → Answerer → Type 0
Taken contents contexts state line None new = IsBad state (line_in line)
Taken contents contexts state line (Some frames) new = Answers contents contexts state line new (λ text. text ≡ text_of frames)

-- whatever was so before
abbrev pub Taking : Contents → List (List ℕ) → List ℕ → Answerer → Option (List (List ℕ)) → Answerer → Type 0
Taking contents contexts line old frames new = (state : State) → IsAt state old → Taken contents contexts state line frames new

-- what takes lines: what they are answered from, the link with its moment, and the writer: the name by which it is
-- lent, what it holds, and how often it failed
pub record Taker : Type 0 where
  pub contents : Contents
  pub contexts : List (List ℕ)
  pub answerer : Answerer
  pub writer : ℕ
  pub held : Option (List ℕ)
  pub failures : ℕ

-- seen so, by what its writer says of itself
abbrev pub seen : {W : Type 0} → (W → Option (List ℕ)) → (W → ℕ) → Answering W → Taker
seen contents_of failures_of a = record {
  contents = a.table.now;
  contexts = a.contexts.now;
  answerer = a.answerer.now;
  writer = a.writer.ghost_name;
  held = contents_of a.writer.now;
  failures = failures_of a.writer.now;
}

-- the line is good, and of what is written for it this holds, whatever was so before
abbrev pub Writes : Taker → List ℕ → Taker → (List ℕ → Type 0) → Type 0
Writes old line new holds =
    (state : State) → IsAt state old.answerer → Answers old.contents old.contexts state line new.answerer holds

-- the line is good, and what is written for it was written
pub record TakesOne (old : Taker) (line : List ℕ) (new : Taker) : Type 0 where
  pub contents : new.contents ≡ old.contents
  pub contexts : new.contexts ≡ old.contexts
  pub writer : new.writer ≡ old.writer
  pub answers : Writes old line new (Appends old.held new.held)
  pub fine : new.failures ≡ old.failures

-- A bad line: nothing was written. Else the line is good, and a prefix of what is written for it was written; or nothing
-- was written.
abbrev pub Refuses : Taker → List ℕ → Refusal → Taker → Type 0
Refuses old line BadLine new = ((state : State) → IsAt state old.answerer → IsBad state (line_in line)) × Keeps old.held new.held
Refuses old line _ new = Writes old line new (AppendsFront old.held new.held) ⊎ Keeps old.held new.held

-- the failures of the writer: it failed exactly if that is why
abbrev pub WriterFailed : Refusal → ℕ → ℕ → Type 0
WriterFailed BadLine old new = new ≡ old
WriterFailed WriteFault old new = new ≢ old
WriterFailed Memory old new = new ≡ old

-- the line was refused
pub record RefusesOne (old : Taker) (line : List ℕ) (refusal : Refusal) (new : Taker) : Type 0 where
  pub writer : new.writer ≡ old.writer
  pub why : Refuses old line refusal new
  pub failures : WriterFailed refusal old.failures new.failures

-- the line was refused since the writer failed
abbrev pub is_write_fault : {A : Type 0} → Result A Refusal → Bool
is_write_fault (Err WriteFault) = true
is_write_fault _ = false

-- the result of `ask`, from that of `follow_lines`
abbrev pub fault_of : LinesFault Refusal → AskFault
fault_of (faults.TooLong number) = ask.BadLine number
fault_of (faults.Refused number BadLine) = ask.BadLine number
fault_of (faults.Refused number WriteFault) = ask.WriteFault
fault_of (faults.Refused number Memory) = ask.Memory
fault_of faults.ReadFault = ask.ReadFault
fault_of faults.TurnLimit = ask.TurnLimit
fault_of faults.Memory = ask.Memory

abbrev pub asked_of : {A : Type 0} → Result A (LinesFault Refusal) → Result A AskFault
asked_of (Ok done) = Ok done
asked_of (Err fault) = Err (fault_of fault)
