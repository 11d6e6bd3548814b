-- How the tokens that a run keeps stand to its book.
use Rattle.std.specs.Prelude.{◌≡◌, ℕ, ◌==◌, List, [], ◌∷◌, Option, Some, None, filter, find, option_map, option_to_list, vec_capacity}
use Rattle.std.specs.Global.{Vec}
use Rattle.std.specs.FinMap.{get}
use Rattle.fp_book.specs.declared.line.Line.{Line}
use Rattle.fp_book.specs.declared.parcel.Parcel.{Parcel}
use Rattle.fp_book.specs.Calls.{IsOut, turn_of}
use Rattle.fp_book.specs.Shelf.{Shelf, Sound}
use Rattle.fp_row.specs.Turn.{birth_of}
use Rattle.fp_row.specs.declared.turn.Turn.{Turn}

-- the turns of one dialogue
abbrev pub turns_at : ℕ → List Turn → List Turn
turns_at local turns = filter (λ (t : Turn). t.local == local) turns

-- the turn of a dialogue is taken out of the turns, if one is there
pub record TakesFirst (local : ℕ) (old : List Turn) (turn : Turn) (new : List Turn) : Type 0 where
  pub local_is : turn.local ≡ local
  pub stays : (d : ℕ) → turns_at d old ≡ turns_at d (turn ∷ new)

abbrev pub TakesOut : ℕ → List Turn → Option Turn → List Turn → Type 0
TakesOut local old None new = (turns_at local old ≡ []) × (new ≡ old)
TakesOut local old (Some turn) new = TakesFirst local old turn new

-- the local transaction identifier of the dialogue with this birth, if its turn is there
abbrev pub local_in : List Turn → ℕ → Option ℕ
local_in turns birth = option_map (λ (t : Turn). t.local) (find (λ (t : Turn). birth_of t == birth) turns)

-- the parcel is the one that is out, and there is none where none is
abbrev pub ParcelIs : Option Parcel → Shelf → Type 0
ParcelIs None s = s.outbox.out ≡ None
ParcelIs (Some parcel) s = IsOut s parcel

-- they are those that the book handed out, each once
pub record Holds (turns : List Turn) (parcel : Option Parcel) (s : Shelf) : Type 0 where
  pub turns_are : (local : ℕ) → turns_at local turns ≡ option_to_list (turn_of (get s.rows local))
  pub parcel_is : ParcelIs parcel s

-- room for one line of a log, with none in it
pub record IsPlace (lines : Vec Line) : Type 0 where
  pub none : lines.items ≡ []
  pub room : vec_capacity lines ≡ 1

-- what each run keeps between two steps: nothing is left in the log of its book
pub record IsKept (turns : List Turn) (parcel : Option Parcel) (book : Shelf) (lines : Vec Line) : Type 0 where
  pub sound : Sound book
  pub holds : Holds turns parcel book
  pub log : book.log ≡ []
  pub place : IsPlace lines
