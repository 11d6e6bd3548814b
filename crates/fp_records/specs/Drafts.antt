-- What the text of a records file says, before the table is made of it.
use Rattle.std.specs.Prelude.{◌≡◌, ℕ, List, Result, Ok, Err}
use Rattle.fp_records.specs.File.{File, FirstFault, IsFile}
use Rattle.fp_records.specs.Gathered.{Gathered}
use Rattle.fp_records.specs.declared.draft.Draft.{Draft}
use Rattle.fp_records.specs.declared.fault.RecordsFault.{RecordsFault}
use Rattle.fp_records.specs.declared.fault.RecordsFault.TheVariants.{Record, Memory}

-- the head of a file, and its items by their numbers
pub record IsDraft (file : File) (draft : Draft) : Type 0 where
  pub head : draft.head ≡ record { key = file.key; offset = file.offset }
  pub items : Gathered file.items draft.gathering

-- an answer is what the records of a text say: the file by its numbers, or their first fault; or memory ran out
abbrev pub Drafts : Result Draft RecordsFault → List (List (List ℕ)) → Type 0
Drafts (Ok draft) rows = (file : File) × IsFile rows file × IsDraft file draft
Drafts (Err (Record at reason)) rows = FirstFault rows at reason
Drafts (Err Memory) rows = Unit {0}
