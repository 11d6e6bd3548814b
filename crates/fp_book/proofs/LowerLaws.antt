-- The laws of the layers below that the proofs here rest on.
use Rattle.fp_book.proofs.Names.{AsksOnceAtMost, GivingLeavesSerials, ReturningKeepsSerials, SerialsAreShown}

pub record LowerLaws : Type 0 where
  -- no entry requests more than one frame
  pub asks : AsksOnceAtMost
  -- serials are distinct, and an identifier shows its serial
  pub gives : GivingLeavesSerials
  pub ends : ReturningKeepsSerials
  pub shown : SerialsAreShown
