-- The text of the lines of a log (own): fields with single blanks between them. Numbers are decimal, without leading
-- zeros; octets are two hexadecimal digits each, in upper case. What a line may hold is said by IsLine of fp_steps.
use Rattle.std.specs.Prelude.{ℕ, ◌==◌, List, [], ◌∷◌, ◌++◌, codes, decimal, if◌then◌else◌}
use Rattle.std.specs.Int.{w32, to_be_bytes}
use Rattle.std.specs.List.{join_with_byte}
use Rattle.hex.specs.Hex.{encode_upper}
use Rattle.fp_q773.specs.ProviderAbort.{cause_code}
use Rattle.fp_book.specs.declared.answers.Given.{Given}
use Rattle.fp_book.specs.declared.answers.Given.TheVariants.{Dropped, Queued, Silent}
use Rattle.fp_book.specs.declared.answers.Posted.{Posted}
use Rattle.fp_book.specs.declared.answers.Posted.TheVariants.{Aborted, Accepted, Discarded, Ended, Opened}
use Rattle.fp_book.specs.declared.line.Line.{Line}
use Rattle.fp_book.specs.declared.line.Line.TheVariants.{Head, Step}
use Rattle.fp_book.specs.declared.line.LoggedStep.{LoggedStep}
use Rattle.fp_book.specs.declared.line.LoggedStep.TheVariants.{Down, Gap, Give, Lost, Pick, Post, PutBack, Sent, Take, Tick, Unsent}
pub use Rattle.fp_steps.specs.LogLines.{IsCounted, IsLine, IsInRange, IsPosting, IsStep}

-- a local transaction identifier: its four octets
abbrev pub identifier_text : ℕ → List ℕ
identifier_text local = encode_upper (to_be_bytes w32 local)

-- what became of a message
abbrev pub posted_text : Posted → List ℕ
posted_text (Opened local) = codes "O" ++ identifier_text local
posted_text (Accepted entries) = codes "A" ++ decimal entries
posted_text (Aborted cause) = codes "X" ++ decimal (cause_code cause)
posted_text Ended = codes "E"
posted_text Discarded = codes "D"

-- what became of requests
abbrev pub given_text : Given → List ℕ
given_text (Queued count) = codes "Q" ++ decimal count
given_text (Dropped count) = codes "D" ++ decimal count
given_text Silent = codes "S"

-- the fields of a step, its letter first; the lines are in the order of those of IsStep, which says the ranges, and of
-- step_in, which reads the fields
abbrev pub fields_of : LoggedStep → List (List ℕ)
fields_of (Post table moment message answer) = codes "P" ∷ decimal moment ∷ decimal table ∷ encode_upper message ∷ posted_text answer ∷ []
fields_of (Lost moment message answer) = codes "L" ∷ decimal moment ∷ encode_upper message ∷ posted_text answer ∷ []
fields_of (Tick moment added wanting) = codes "K" ∷ decimal moment ∷ decimal added ∷ decimal wanting ∷ []
fields_of (Take birth position count) = codes "T" ∷ decimal birth ∷ decimal position ∷ decimal count ∷ []
fields_of (Give birth position served given) = codes "G" ∷ decimal birth ∷ decimal position ∷ decimal served ∷ given_text given ∷ []
fields_of (PutBack birth position) = codes "B" ∷ decimal birth ∷ decimal position ∷ []
fields_of (Pick birth) = codes "Q" ∷ decimal birth ∷ []
fields_of (Sent birth) = codes "Y" ∷ decimal birth ∷ []
fields_of (Unsent birth) = codes "U" ∷ decimal birth ∷ []
fields_of Down = codes "N" ∷ []
fields_of (Gap lost) = codes "Z" ∷ decimal lost ∷ []

-- the fields of a head after the name of the format: its version, how many links there are, and the tag of the run; a
-- run without one has an older version
abbrev pub head_fields : ℕ → ℕ → List (List ℕ)
head_fields links tag =
    if tag == 0 then codes "4" ∷ decimal links ∷ [] else codes "5" ∷ decimal links ∷ decimal tag ∷ []

-- the text of a line, without its line feed: the head names the format, and a step begins with its link
abbrev pub text_of : Line → List ℕ
text_of (Head links tag) = join_with_byte 32 (codes "fplog" ∷ head_fields links tag)
text_of (Step link step) = join_with_byte 32 (decimal link ∷ fields_of step)
