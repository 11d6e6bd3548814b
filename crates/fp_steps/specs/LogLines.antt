-- What a line of a log may hold, and which lines are the log of a run.
use Rattle.std.specs.Prelude.{◌≡◌, ℕ, ◌^◌, ◌≤◌, ◌<◌, List, length, slice_index, ⊤}
use Rattle.std.specs.List.{AllByRecursion}
use Rattle.fp_digits.specs.declared.moment.TheConstants.Moment.{END}
use Rattle.fp_frames.specs.Frame.{IsMessageLength}
use Rattle.fp_book.specs.declared.answers.Posted.{Posted}
use Rattle.fp_book.specs.declared.answers.Posted.TheVariants.{Aborted, Accepted, Discarded, Ended, Opened}
use Rattle.fp_book.specs.declared.line.Line.{Line}
use Rattle.fp_book.specs.declared.line.Line.TheVariants as lines
use Rattle.fp_book.specs.declared.line.LoggedStep.{LoggedStep}
use Rattle.fp_book.specs.declared.answers.Given.{Given}
use Rattle.fp_book.specs.declared.answers.Given.TheVariants.{Dropped, Queued, Silent}
use Rattle.fp_book.specs.declared.line.LoggedStep.TheVariants.{Down, Gap, Give, Lost, Pick, Post, PutBack, Sent, Take, Tick, Unsent}
use Rattle.fp_records.specs.Table.{Contents}
use Rattle.fp_tids.specs.Identifiers.{base_of, last_tag}
use Rattle.fp_steps.specs.declared.output.Output.{Output}
use Rattle.fp_steps.specs.declared.step.Step.{Step}
use Rattle.fp_steps.specs.Answers.{AllAnswered}
use Rattle.fp_steps.specs.History.{Event, Tells}
use Rattle.fp_steps.specs.Places.{greatest_place, handed_in, last_place}
use Rattle.fp_steps.specs.Told.{log_of}

-- the numbers of an answer have at most 32 bits
abbrev pub IsInRange : Posted → Type 0
IsInRange (Opened local) = local < 2 ^ 32
IsInRange (Accepted entries) = entries < 2 ^ 32
IsInRange (Aborted cause) = ⊤
IsInRange Ended = ⊤
IsInRange Discarded = ⊤

-- each of these is an octet
abbrev pub AreOctets : List ℕ → Type 0
AreOctets octets = (i : ℕ) → slice_index octets i < 256

-- a message of 1 to 4,096 octets that came before the year 2100, and its answer
pub record IsPosting (moment : ℕ) (message : List ℕ) (answer : Posted) : Type 0 where
  pub in_time : moment < END
  pub size : IsMessageLength (length message)
  pub octets : AreOctets message
  pub numbers : IsInRange answer

-- the numbers of what became of requests have at most 32 bits
abbrev pub IsCounted : Given → Type 0
IsCounted Silent = ⊤
IsCounted (Queued count) = count < 2 ^ 32
IsCounted (Dropped count) = count < 2 ^ 32

-- the table by which a message was read has a place up to this one
abbrev pub HasPlace : ℕ → LoggedStep → Type 0
HasPlace last (Post table moment message answer) = table ≤ last
HasPlace last _ = ⊤

-- what a step may hold: moments before the year 2100, tables of the places 0 to 65,535, births, positions and numbers of
-- lost steps of at most 64 bits, other numbers of at most 32
abbrev pub IsStep : LoggedStep → Type 0
IsStep (Post table moment message answer) = (table ≤ greatest_place) × IsPosting moment message answer
IsStep (Lost moment message answer) = IsPosting moment message answer
IsStep (Tick moment added wanting) = (moment < END) × (added < 2 ^ 32) × (wanting < 2 ^ 32)
IsStep (Take birth position count) = (birth < 2 ^ 64) × (position < 2 ^ 64) × (count < 2 ^ 32)
IsStep (Give birth position served given) = (birth < 2 ^ 64) × (position < 2 ^ 64) × (served < 2 ^ 32) × IsCounted given
IsStep (PutBack birth position) = (birth < 2 ^ 64) × (position < 2 ^ 64)
IsStep (Pick birth) = birth < 2 ^ 64
IsStep (Sent birth) = birth < 2 ^ 64
IsStep (Unsent birth) = birth < 2 ^ 64
IsStep Down = ⊤
IsStep (Gap lost) = lost < 2 ^ 64

-- a line of a log: there are one to eight links and a tag of 0 to 4,094, and a step is of one of eight links
abbrev pub IsLine : Line → Type 0
IsLine (lines.Head links tag) = (1 ≤ links) × (links ≤ 8) × (tag ≤ last_tag)
IsLine (lines.Step link step) = (link < 8) × IsStep step

-- a line of the log of a run with this tag: the place of a table is at most its last one
abbrev pub IsLineOf : ℕ → Line → Type 0
IsLineOf tag (lines.Head links other) = IsLine (lines.Head links other)
IsLineOf tag (lines.Step link step) = IsLine (lines.Step link step) × HasPlace (last_place tag) step

-- these lines are the log of a link and a tag, by its steps and outputs: whatever history these are of, they are its lines
pub record IsLog (link tag : ℕ) (steps : List Step) (outputs : List Output) (log : List Line) : Type 0 where
  pub lines_are : (tables : List Contents) (contexts : List (List ℕ)) (h : List Event) → Tells (handed_in tag tables) contexts steps outputs h
      → AllAnswered (base_of link tag) h → log ≡ log_of link tag h
  pub in_range : AllByRecursion (IsLineOf tag) log
