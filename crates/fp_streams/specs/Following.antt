-- Lines that are taken one after another while they are read, and why no more was taken.
use Rattle.std.specs.Prelude.{◌≡◌, ℕ, ◌+◌, ◌<◌, ◌≤◌, Bool, true, false, List, [], ◌∷◌, ◌++◌, Option, Result, MatchResult, length}
use Rattle.std.specs.List.{All, flat_map}
use Rattle.std.specs.Io.KnownBytes.{Consumes, IsAtEnd}
use Rattle.fp_streams.specs.Ends.{Cause, ReadsEnd, before_end, limit_reached, maybe_at_end, reader_failed}
use Rattle.fp_streams.specs.Grows.{Grows}
use Rattle.fp_streams.specs.Line.{IsOneLine}
use Rattle.fp_streams.specs.Reads.{IsPiece, joined, most_read}
use Rattle.fp_streams.specs.declared.fault.LinesFault.{LinesFault}
use Rattle.fp_streams.specs.declared.fault.LinesFault.TheVariants.{Memory, ReadFault, Refused, TooLong, TurnLimit}

-- lines, each with the line feed that ends it
abbrev pub ended : List (List ℕ) → List ℕ
ended lines = flat_map (λ (line : List ℕ). line ++ 10 ∷ []) lines

-- octets without a line feed, at most as many as a line may have
pub record IsLine (most : ℕ) (line : List ℕ) : Type 0 where
  pub one_line : IsOneLine line
  pub short : length line ≤ most

-- one relation and then the other, with what is between them
pub record Through {S : Type 0} (one rest : S → Type 0) : Type 0 where
  pub between : S
  pub first : one between
  pub later : rest between

-- these lines, each with a line feed, were taken one after another
abbrev pub Took : {S : Type 0} → (S → Bool → List ℕ → S → Type 0) → S → List (List ℕ) → S → Type 0
Took takes old [] new = new ≡ old
Took takes old (line ∷ lines) new = Through (takes old true line) (λ between. Took takes between lines new)

-- the octets are lines, each with a line feed and each taken, and this rest
pub record Reaches {S : Type 0} (takes : S → Bool → List ℕ → S → Type 0) (most : ℕ) (old new : S) (octets : List ℕ) (lines : List (List ℕ)) (rest : List ℕ) : Type 0 where
  pub text : octets ≡ ended lines ++ rest
  pub lines_are : All (IsLine most) lines
  pub took : Took takes old lines new

-- what came after the last line feed was taken as the last line, if anything did
abbrev pub TakesLast : {S : Type 0} → (S → Bool → List ℕ → S → Type 0) → S → List ℕ → S → Type 0
TakesLast takes old [] new = new ≡ old
TakesLast takes old (octet ∷ octets) new = takes old false (octet ∷ octets) new

-- all lines of the octets were taken
pub record TakesAll {S : Type 0} (takes : S → Bool → List ℕ → S → Type 0) (most : ℕ) (old new : S) (octets : List ℕ) : Type 0 where
  pub lines : List (List ℕ)
  pub last : List ℕ
  pub before_last : S
  pub reaches : Reaches takes most old before_last octets lines last
  pub last_is : IsLine most last
  pub takes_last : TakesLast takes before_last last new

-- what comes after a line: its line feed and more, or nothing
abbrev pub after_line : Bool → List ℕ → List ℕ
after_line true rest = 10 ∷ rest
after_line false rest = []

-- after these lines, which were taken, this one was refused
pub record Declines {S F : Type 0} (takes : S → Bool → List ℕ → S → Type 0) (refuses : S → Bool → List ℕ → F → S → Type 0) (most : ℕ) (old new : S) (octets : List ℕ) (lines : List (List ℕ)) (fault : F) : Type 0 where
  pub line : List ℕ
  pub has_line_feed : Bool
  pub rest : List ℕ
  pub before_line : S
  pub reaches : Reaches takes most old before_line octets lines (line ++ after_line has_line_feed rest)
  pub line_is : IsLine most line
  pub something : 0 < length (line ++ after_line has_line_feed rest)
  pub refused : refuses before_line has_line_feed line fault new

-- this line was refused; one without a line feed is the last one of the input
abbrev pub IsDeclined : {S F : Type 0} → (S → Bool → List ℕ → S → Type 0) → (S → Bool → List ℕ → F → S → Type 0) → ℕ → Option (List ℕ) → S → S → List ℕ → List (List ℕ) → F → Type 0
IsDeclined takes refuses most left old new octets lines fault =
    (declines : Declines takes refuses most old new octets lines fault) × (declines.has_line_feed ≡ false → IsAtEnd left)

-- after these lines, which were taken, the next one is too long, whatever follows
pub record GrowsLong {S : Type 0} (takes : S → Bool → List ℕ → S → Type 0) (most : ℕ) (old new : S) (octets : List ℕ) (lines : List (List ℕ)) : Type 0 where
  pub begun : List ℕ
  pub rest : List ℕ
  pub reaches : Reaches takes most old new octets lines (begun ++ rest)
  pub one_line : IsOneLine begun
  pub long : most < length begun

-- each line with a line feed was taken, and the next line was begun
pub record Begins {S : Type 0} (takes : S → Bool → List ℕ → S → Type 0) (most : ℕ) (old new : S) (octets : List ℕ) : Type 0 where
  pub lines : List (List ℕ)
  pub begun : List ℕ
  pub reaches : Reaches takes most old new octets lines begun
  pub begun_is : IsLine most begun

-- lines were taken, maybe not all
pub record Breaks {S : Type 0} (takes : S → Bool → List ℕ → S → Type 0) (most : ℕ) (old new : S) (octets : List ℕ) : Type 0 where
  pub lines : List (List ℕ)
  pub rest : List ℕ
  pub reaches : Reaches takes most old new octets lines rest

-- this is the number of the line after these
abbrev pub IsNext : ℕ → List (List ℕ) → Type 0
IsNext number lines = number ≡ length lines + 1

-- which lines were taken, and why no more
abbrev pub Stops : {S F : Type 0} → (S → Bool → List ℕ → S → Type 0) → (S → Bool → List ℕ → F → S → Type 0) → ℕ → Option (List ℕ) → S → S → List ℕ → LinesFault F → Type 0
Stops takes refuses most left old new octets (TooLong number) =
    (lines : List (List ℕ)) × IsNext number lines × GrowsLong takes most old new octets lines
Stops takes refuses most left old new octets (Refused number fault) =
    (lines : List (List ℕ)) × IsNext number lines × IsDeclined takes refuses most left old new octets lines fault
Stops takes refuses most left old new octets ReadFault = Begins takes most old new octets
Stops takes refuses most left old new octets TurnLimit = Begins takes most old new octets
Stops takes refuses most left old new octets Memory = Breaks takes most old new octets

-- what a fault says of the reader
abbrev pub cause_of : {F : Type 0} → LinesFault F → Cause
cause_of (Refused number fault) = maybe_at_end
cause_of ReadFault = reader_failed
cause_of TurnLimit = limit_reached
cause_of _ = before_end

-- Pieces were read, and perhaps the end of the input. The lines of what was read were taken in their order: all of them,
-- or those before the fault.
pub record Follows {S F A : Type 0} (takes : S → Bool → List ℕ → S → Type 0) (refuses : S → Bool → List ℕ → F → S → Type 0) (most reads : ℕ) (had left : Option (List ℕ)) (before after : Option (List (List ℕ))) (old new : S) (result : Result A (LinesFault F)) : Type 0 where
  pub pieces : List (List ℕ)
  pub sizes : All (IsPiece most_read) pieces
  pub last : List (List ℕ)
  pub read : Grows before after (pieces ++ last)
  pub consumed : Consumes had left (joined pieces)
  pub stop : ReadsEnd cause_of reads (length pieces) left last result
  pub lines : MatchResult result (λ _. TakesAll takes most old new (joined pieces)) (Stops takes refuses most left old new (joined pieces))
