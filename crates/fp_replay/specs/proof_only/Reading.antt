-- What is told by the fields after a letter.
use Rattle.std.specs.Prelude.{◌≡◌, ℕ, List, [], ◌∷◌, decimal, Result, IfOk, MatchResult}
use Rattle.std.specs.List.{join_with_byte}
use Rattle.hex.specs.Hex.{encode_upper}
use Rattle.fp_book.specs.declared.answers.Given.{Given}
use Rattle.fp_book.specs.declared.answers.Posted.{Posted}
use Rattle.fp_book.specs.declared.line.LoggedStep.{LoggedStep}
use Rattle.fp_replay.specs.declared.fault.LineFault.{LineFault}
use Rattle.fp_replay.specs.declared.fault.LineFault.TheVariants.{Memory}
use Rattle.fp_replay.specs.Format.{IsStep, fields_of, given_text, posted_text}

-- the text of a step, its letter first
abbrev pub step_text : LoggedStep → List ℕ
step_text step = join_with_byte 32 (fields_of step)

-- fields, each after a blank
abbrev pub behind_blanks : List (List ℕ) → List ℕ
behind_blanks fields = 32 ∷ join_with_byte 32 fields

-- the fields of a message that was posted
abbrev pub post_fields : ℕ → ℕ → List ℕ → Posted → List ℕ
post_fields table moment message answer =
    behind_blanks (decimal moment ∷ decimal table ∷ encode_upper message ∷ posted_text answer ∷ [])

-- the fields of a message for which memory ran out
abbrev pub lost_fields : ℕ → List ℕ → Posted → List ℕ
lost_fields moment message answer = behind_blanks (decimal moment ∷ encode_upper message ∷ posted_text answer ∷ [])

-- the fields of a tick
abbrev pub tick_fields : ℕ → ℕ → ℕ → List ℕ
tick_fields moment added wanting = behind_blanks (decimal moment ∷ decimal added ∷ decimal wanting ∷ [])

-- the fields of a turn
abbrev pub turn_fields : ℕ → ℕ → List ℕ
turn_fields birth position = behind_blanks (decimal birth ∷ decimal position ∷ [])

-- the fields of a turn, and of a number of its entries
abbrev pub entries_fields : ℕ → ℕ → ℕ → List ℕ
entries_fields birth position count = behind_blanks (decimal birth ∷ decimal position ∷ decimal count ∷ [])

-- the fields of a turn that is given back
abbrev pub give_fields : ℕ → ℕ → ℕ → Given → List ℕ
give_fields birth position served given =
    behind_blanks (decimal birth ∷ decimal position ∷ decimal served ∷ given_text given ∷ [])

-- the field of a parcel
abbrev pub parcel_fields : ℕ → List ℕ
parcel_fields birth = behind_blanks (decimal birth ∷ [])

-- the field of a gap
abbrev pub gap_fields : ℕ → List ℕ
gap_fields lost = behind_blanks (decimal lost ∷ [])

-- just the step is read whose text is this letter and what comes after it, unless memory runs out
pub record ReadsStep (letter : ℕ) (fields : List ℕ) (read : Result LoggedStep LineFault) : Type 0 where
  pub found : IfOk read (λ step. IsStep step × (letter ∷ fields ≡ step_text step))
  pub only : (step : LoggedStep) → IsStep step → letter ∷ fields ≡ step_text step
      → MatchResult read (λ told. told ≡ step) (λ fault. fault ≡ Memory)
