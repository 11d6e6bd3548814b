-- What a post reports of its message, beside what became of it.
use Rattle.std.specs.Prelude.{◌≡◌, ℕ, Bool, true, false}
use Rattle.fp_book.specs.declared.answers.Posted.{Posted}
use Rattle.fp_book.specs.declared.answers.Posted.TheVariants.{Opened, Accepted}
use Rattle.fp_book.specs.declared.answers.Receipt.{Receipt}
use Rattle.fp_book.specs.Calls.{Follows, asks_for_memory}
use Rattle.fp_book.specs.Rules.{verdict}
use Rattle.fp_book.specs.Shelf.{Shelf}
use Rattle.fp_entry.specs.declared.prepared.Prepared.{Prepared}
use Rattle.fp_entry.specs.declared.prepared.Prepared.TheVariants.{Lost}
use Rattle.fp_entry.specs.Prepared.{arrival_of, components_of}

-- how many components of a message are accepted, by the answer
abbrev pub accepted_components : Posted → Prepared → ℕ
accepted_components (Opened local) came = components_of came
accepted_components (Accepted count) came = components_of came
accepted_components _ came = 0

-- a message as it is treated: as it came, or as one that was lost
abbrev pub treated_as : Bool → Prepared → Prepared
treated_as false came = came
treated_as true came = Lost (arrival_of came)

pub record IsReceipt (old : Shelf) (came : Prepared) (receipt : Receipt) (new : Shelf) : Type 0 where
  -- its components, if it was accepted
  pub components : receipt.components ≡ accepted_components receipt.posted came
  -- memory ran out in this call only if it was asked for, as it is for no message that is refused
  pub asked : receipt.lost ≡ true → asks_for_memory (verdict old came) came ≡ true
  -- then it was treated, and logged, as one that was lost; and else as it came
  pub follows : Follows (verdict old (treated_as receipt.lost came)) old (treated_as receipt.lost came) receipt.posted new
