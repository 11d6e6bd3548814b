-- What a call made of its reader and its writer, by the fault that it returns.
use Rattle.std.specs.Prelude.{◌≡◌, ◌≢◌, ℕ, ◌<◌, ◌≤◌, ◌⊎◌, List, [], ◌++◌, Option, Result, MatchResult, length}
use Rattle.std.specs.List.{All}
use Rattle.std.specs.Io.KnownBytes.{Consumes}
use Rattle.fp_streams.specs.Grows.{Grows}
use Rattle.fp_streams.specs.Reads.{IsEnd, IsPiece, joined, most_read}

-- what a fault says of them: one of them failed, or the limit on reads was reached, or neither is so; and whether the
-- end of the input had been read
pub data Cause : Type 0 where
  reader_failed : Cause
  limit_reached : Cause
  writer_failed : Cause
  writer_failed_at_end : Cause
  before_end : Cause
  maybe_at_end : Cause

-- how many reads gave octets, and what one more gave, after a fault
abbrev pub ReadsStop : ℕ → ℕ → Option (List ℕ) → List (List ℕ) → Cause → Type 0
ReadsStop reads count left last reader_failed = (last ≡ []) × (count < reads)
ReadsStop reads count left last limit_reached = (last ≡ []) × (count ≡ reads)
ReadsStop reads count left last writer_failed_at_end = IsEnd reads count left last
ReadsStop reads count left last before_end = (last ≡ []) × (count ≤ reads)
ReadsStop reads count left last _ = ((last ≡ []) × (count ≤ reads)) ⊎ IsEnd reads count left last

-- and after any result: without a fault, the end was read
abbrev pub ReadsEnd : {F A : Type 0} → (F → Cause) → ℕ → ℕ → Option (List ℕ) → List (List ℕ) → Result A F → Type 0
ReadsEnd cause reads count left last result =
    MatchResult result (λ _. IsEnd reads count left last) (λ fault. ReadsStop reads count left last (cause fault))

-- pieces were read, and perhaps the end of the input
pub record Reads {F A : Type 0} (cause : F → Cause) (reads : ℕ) (had left : Option (List ℕ)) (before after : Option (List (List ℕ))) (result : Result A F) : Type 0 where
  pub pieces : List (List ℕ)
  pub sizes : All (IsPiece most_read) pieces
  pub last : List (List ℕ)
  pub read : Grows before after (pieces ++ last)
  pub consumed : Consumes had left (joined pieces)
  pub stop : ReadsEnd cause reads (length pieces) left last result

-- the failures of the reader: it failed exactly if the fault says so
abbrev pub ReaderSays : ℕ → ℕ → Cause → Type 0
ReaderSays old new reader_failed = new ≢ old
ReaderSays old new _ = new ≡ old

abbrev pub CountsReads : {F A : Type 0} → (F → Cause) → Result A F → ℕ → ℕ → Type 0
CountsReads cause result old new = MatchResult result (λ _. new ≡ old) (λ fault. ReaderSays old new (cause fault))

-- and those of the writer
abbrev pub WriterSays : ℕ → ℕ → Cause → Type 0
WriterSays old new writer_failed = new ≢ old
WriterSays old new writer_failed_at_end = new ≢ old
WriterSays old new _ = new ≡ old

abbrev pub CountsWrites : {F A : Type 0} → (F → Cause) → Result A F → ℕ → ℕ → Type 0
CountsWrites cause result old new = MatchResult result (λ _. new ≡ old) (λ fault. WriterSays old new (cause fault))
