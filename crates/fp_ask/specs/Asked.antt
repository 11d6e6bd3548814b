-- How far the lines of an input were answered, from what was so before the first of them, and why no further.
use Rattle.std.specs.Prelude.{◌≡◌, ℕ, ◌+◌, List, [], ◌∷◌, ◌++◌, Option, Some, IfSome, length}
use Rattle.std.specs.Io.KnownBytes.{Appends, Consumes}
use Rattle.fp_records.specs.Table.{Contents}
use Rattle.fp_streams.specs.Ends.{Cause, limit_reached, maybe_at_end, reader_failed, writer_failed}
use Rattle.fp_streams.specs.Line.{lines_of}
use Rattle.fp_streams.specs.Write.{AppendsFront}
use Rattle.fp_ask.specs.declared.fault.AskFault.{AskFault}
use Rattle.fp_ask.specs.declared.fault.AskFault.TheVariants.{BadLine, ReadFault, WriteFault, TurnLimit, Memory}
use Rattle.fp_ask.specs.Line.{line_in}
use Rattle.fp_ask.specs.Lines.{IsBad, Solo, State, Written}

-- all lines of the input are good, and what is written for them was written
pub record AnswersAll (contents : Contents) (contexts : List (List ℕ)) (start : State) (old new : Option (List ℕ)) (input : List ℕ) : Type 0 where
  pub written : Written
  pub solo : Solo contents contexts start (lines_of input) written
  pub wrote : Appends old new written.text

-- the line of this number is bad, those before it are good, and what is written for those was written
pub record StopsAt (contents : Contents) (contexts : List (List ℕ)) (start : State) (number : ℕ) (old new : Option (List ℕ)) (input : List ℕ) : Type 0 where
  pub before : List (List ℕ)
  pub line : List ℕ
  pub behind : List (List ℕ)
  pub lines : lines_of input ≡ before ++ line ∷ behind
  pub number_is : number ≡ length before + 1
  pub written : Written
  pub solo : Solo contents contexts start before written
  pub bad : IsBad written.state (line_in line)
  pub wrote : Appends old new written.text

-- This much of the input was read. Each line of it that a line feed ended is good, and what is written for them was
-- written; with a line feed after what was read there would be one line more.
pub record Halts (contents : Contents) (contexts : List (List ℕ)) (start : State) (left old new : Option (List ℕ)) (input : List ℕ) : Type 0 where
  pub read : List ℕ
  pub consumed : Consumes (Some input) left read
  pub ended : List (List ℕ)
  pub begun : List ℕ
  pub lines : lines_of (read ++ 10 ∷ []) ≡ ended ++ begun ∷ []
  pub written : Written
  pub solo : Solo contents contexts start ended written
  pub wrote : Appends old new written.text

-- This much of the input was read. The first lines of that are lines of the input, and good, and a front of what is
-- written for them was written.
pub record Breaks (contents : Contents) (contexts : List (List ℕ)) (start : State) (left old new : Option (List ℕ)) (input : List ℕ) : Type 0 where
  pub read : List ℕ
  pub consumed : Consumes (Some input) left read
  pub first : List (List ℕ)
  pub behind : List (List ℕ)
  pub lines_read : lines_of read ≡ first ++ behind
  pub others : List (List ℕ)
  pub lines : lines_of input ≡ first ++ others
  pub written : Written
  pub solo : Solo contents contexts start first written
  pub front : AppendsFront old new written.text

-- why the lines of an input weren't all answered, of a reader that has these octets left
abbrev pub StopsIn : Contents → List (List ℕ) → State → Option (List ℕ) → Option (List ℕ) → Option (List ℕ) → AskFault → List ℕ → Type 0
StopsIn contents contexts start left old new (BadLine number) input = StopsAt contents contexts start number old new input
StopsIn contents contexts start left old new ReadFault input = Halts contents contexts start left old new input
StopsIn contents contexts start left old new WriteFault input = Breaks contents contexts start left old new input
StopsIn contents contexts start left old new TurnLimit input = Halts contents contexts start left old new input
StopsIn contents contexts start left old new Memory input = Breaks contents contexts start left old new input

-- and of a reader that had these octets, or of which that isn't known
abbrev pub Stops : Contents → List (List ℕ) → State → Option (List ℕ) → Option (List ℕ) → Option (List ℕ) → Option (List ℕ) → AskFault → Type 0
Stops contents contexts start had left old new fault = IfSome had (StopsIn contents contexts start left old new fault)

-- what a fault says of the reader and the writer
abbrev pub cause_of : AskFault → Cause
cause_of ReadFault = reader_failed
cause_of WriteFault = writer_failed
cause_of TurnLimit = limit_reached
cause_of _ = maybe_at_end
