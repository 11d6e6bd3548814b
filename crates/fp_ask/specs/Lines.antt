-- What is written for the lines of an input, one after another: the dialogues are a plain list, and what a line brings
-- is served and written before the next line comes.
use Rattle.std.specs.Prelude.{◌≡◌, ℕ, ◌+◌, ◌<◌, ◌≤◌, true, List, [], ◌∷◌, ◌++◌, Option, Some, None, ⊤}
use Rattle.fp_digits.specs.declared.moment.TheConstants.Moment.{END}
use Rattle.fp_entry.specs.declared.prepared.Prepared.{Prepared}
use Rattle.fp_entry.specs.Prepared.{IsPrepared}
use Rattle.fp_records.specs.Table.{Contents}
use Rattle.fp_ask.specs.Line.{Input, message, wait, line_in, text_of}
use Rattle.fp_ask.specs.Solo.{Outcome, LinkState, at_first, is_read, post, tick}

-- what is so between two lines: the moment, and the dialogues
pub record State : Type 0 where
  pub moment : ℕ
  pub link : LinkState

-- before the first line, on a link on which serials are added to this base
abbrev pub at_start : ℕ → ℕ → State
at_start base moment = record { moment = moment; link = at_first base }

-- what is so then, and the text that is written
pub record Written : Type 0 where
  pub state : State
  pub text : List ℕ

-- what came of a message, or of a moment, at this moment
abbrev pub written_at : ℕ → Outcome → Written
written_at moment outcome = record { state = record { moment = moment; link = outcome.link }; text = text_of outcome.frames }

-- a message comes: it is read as this at the moment, and what is written is what is sent for it
pub record TakesMessage (contents : Contents) (contexts : List (List ℕ)) (state : State) (octets : List ℕ) (written : Written) : Type 0 where
  pub came : Prepared
  pub prepared : IsPrepared contents contexts octets state.moment came
  pub read : is_read came ≡ true
  pub written_is : written ≡ written_at state.moment (post state.link came)

-- time passes: there is a moment that much later, and what is written is what is sent at it
pub record TakesWait (state : State) (milliseconds : ℕ) (written : Written) : Type 0 where
  pub in_time : state.moment + milliseconds < END
  pub written_is : written ≡ written_at (state.moment + milliseconds) (tick state.link (state.moment + milliseconds))

-- a good line comes
abbrev pub Takes : Contents → List (List ℕ) → State → Option Input → Written → Type 0
Takes contents contexts state None written = ⊥
Takes contents contexts state (Some (message octets)) written = TakesMessage contents contexts state octets written
Takes contents contexts state (Some (wait milliseconds)) written = TakesWait state milliseconds written

-- a bad line: it says nothing that is taken, or there is no moment that much later
abbrev pub IsBad : State → Option Input → Type 0
IsBad state None = ⊤
IsBad state (Some (message octets)) = ⊥
IsBad state (Some (wait milliseconds)) = END ≤ state.moment + milliseconds

-- these lines are good, one after the other, and this is what is so after them, and all that is written for them
abbrev pub Solo : Contents → List (List ℕ) → State → List (List ℕ) → Written → Type 0
Solo contents contexts state [] written = written ≡ record { state = state; text = [] }
Solo contents contexts state (line ∷ lines) written =
    (first : Written) × (rest : Written) × Takes contents contexts state (line_in line) first
    × Solo contents contexts first.state lines rest
    × (written ≡ record { state = rest.state; text = first.text ++ rest.text })
