-- A message comes for which there is memory.
use Rattle.std.proofs.Common.{◌≡◌, false, sym, subst}
use Rattle.fp_book.specs.declared.answers.Receipt.{Receipt}
use Rattle.fp_book.specs.Calls.{Follows}
use Rattle.fp_book.specs.Receipt.{IsReceipt, treated_as}
use Rattle.fp_book.specs.Rules as book
use Rattle.fp_book.specs.Shelf.{Shelf, Sound}
use Rattle.fp_book.proofs.Fits.{verdict_allowed}
use Rattle.fp_entry.specs.declared.prepared.Prepared.{Prepared}
use Rattle.fp_entry.specs.Prepared.{arrival_of}
use Rattle.fp_ask.specs.Solo.{LinkState, outcome, post}
use Rattle.fp_ask.specs.Tied.{Matches, Rest}
use Rattle.fp_ask.specs.proof_only.Serving.{Came, Fit}
use Rattle.fp_ask.proofs.Arriving.{follows_came, follows_fit}
use Rattle.fp_ask.proofs.Resting.{verdict_is}

module _ {s new : Shelf} {came : Prepared} {receipt : Receipt} (r : Rest s) (is : IsReceipt s came receipt new) (kept : receipt.lost ≡ false) where
  -- so the book did what it does with the message as it came
  followed : Follows (book.verdict s came) s came receipt.posted new
  followed = subst (λ lost. Follows (book.verdict s (treated_as lost came)) s (treated_as lost came) receipt.posted new) kept is.follows

  -- it is ready to be served,
  pub posted_fit : Sound new → Fit new
  posted_fit sound = follows_fit (book.verdict s came) s new came receipt.posted r sound (verdict_allowed s came) followed

  -- and is described by the list
  pub posted_came : (w : LinkState) → Matches w s → Came (post w came) new
  posted_came w m =
      subst (λ v. Came (outcome w (arrival_of came).ids.orig (arrival_of came).moment (book.entries_in came) v) new) (sym (verdict_is s w came r m))
      (follows_came (book.verdict s came) s new w came receipt.posted r m (verdict_allowed s came) followed)
