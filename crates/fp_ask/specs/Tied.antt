-- How the plain list of dialogues describes a book in which nothing waits.
use Rattle.std.specs.Prelude.{◌≡◌, ◌≤◌, ◌==◌, ℕ, Bool, false, List, [], Option, Some, None, count_by, if◌then◌else◌}
use Rattle.std.specs.Option.{option_and_then, option_map_or}
use Rattle.std.specs.Ordering.{nat_cmp}
use Rattle.std.specs.FinMap.{FinMap, get}
use Rattle.fp_book.specs.Outbox.{nothing}
use Rattle.fp_book.specs.Shelf.{Shelf, Sound, base}
use Rattle.fp_entry.specs.declared.prepared.Prepared.{Prepared}
use Rattle.fp_entry.specs.Prepared.{IsPrepared}
use Rattle.fp_q773.specs.Tid.{octets_of}
use Rattle.fp_records.specs.Table.{Contents}
use Rattle.fp_row.specs.declared.row.Row.{Row}
use Rattle.fp_row.specs.Row.{is_admitted, has_turn_out}
use Rattle.fp_ask.specs.Solo.{Dialogue, LinkState, Outcome, found}

abbrev pub Rows : Type 0
Rows = FinMap nat_cmp Row

-- a dialogue as the plain list has it
abbrev pub dialogue_of : Row → Dialogue
dialogue_of row = record { birth = row.birth; local = row.local; peer = octets_of row.peer; core = row.core }

-- the list has those that are admitted
abbrev pub live : Option Row → Option Dialogue
live o = option_and_then (λ row. if is_admitted row then Some (dialogue_of row) else None) o

-- whether a turn is out
abbrev pub is_out : Option Row → Bool
is_out o = option_map_or has_turn_out o false

-- the link is up, nothing waits, and nothing is out
pub record Rest (s : Shelf) : Type 0 where
  pub sound : Sound s
  pub link : s.link ≡ 0
  pub up : s.is_down ≡ false
  pub idle : (local : ℕ) → is_out (get s.rows local) ≡ false
  pub ready : s.ready ≡ []
  pub outbox : s.outbox ≡ nothing

-- the list has the dialogues that are admitted, and no others
abbrev pub Same : List Dialogue → Rows → Type 0
Same dialogues rows = (local : ℕ) → found local dialogues ≡ live (get rows local)

-- how often a dialogue is in the list
abbrev pub times : ℕ → List Dialogue → ℕ
times local dialogues = count_by (λ (dialogue : Dialogue). dialogue.local == local) dialogues

-- the plain list describes this book
pub record Matches (w : LinkState) (s : Shelf) : Type 0 where
  pub bases : w.base ≡ base s
  pub births : w.births ≡ s.births
  pub entries : w.entries ≡ s.entries
  pub free : w.free ≡ s.free
  pub same : Same w.dialogues s.rows
  pub once : (local : ℕ) → times local w.dialogues ≤ 1

-- a book went on as the plain list does, and these frames were sent
pub record GoesOn (p : Outcome) (new : Shelf) (frames : List (List ℕ)) : Type 0 where
  pub matches : Matches p.link new
  pub frames_are : frames ≡ p.frames

-- whatever list describes the book before
abbrev pub Follows : (LinkState → Outcome) → Shelf → Shelf → List (List ℕ) → Type 0
Follows play old new frames = (w : LinkState) → Matches w old → GoesOn (play w) new frames

-- a message that was read from a frame, by some records and names
pub record IsOfFrame (came : Prepared) : Type 0 where
  pub contents : Contents
  pub contexts : List (List ℕ)
  pub octets : List ℕ
  pub moment : ℕ
  pub prepared : IsPrepared contents contexts octets moment came
