-- What one piece of an input makes of the lines that were taken, between two reads.
use Rattle.std.specs.Prelude.{◌≡◌, ℕ, ◌+◌, ◌<◌, Bool, false, true, List, length}
use Rattle.fp_streams.specs.Following.{Declines, GrowsLong, IsLine, Reaches}
use Rattle.fp_streams.specs.declared.fault.LinesFault.{LinesFault}
use Rattle.fp_streams.specs.declared.fault.LinesFault.TheVariants as faults
use Rattle.fp_streams.specs.declared.following.Stop.{Stop}
use Rattle.fp_streams.specs.declared.following.Stop.TheVariants.{Memory, Refused, TooLong}

-- each line with a line feed was taken, and this was begun after them
pub record Feeds {S : Type 0} (takes : S → Bool → List ℕ → S → Type 0) (most : ℕ) (old new : S) (octets : List ℕ) (taken now : ℕ) (begun : List ℕ) : Type 0 where
  pub lines : List (List ℕ)
  pub taken_is : now ≡ taken + length lines
  pub reaches : Reaches takes most old new octets lines begun
  pub begun_is : IsLine most begun

-- which lines were taken, and why no more
abbrev pub Ends : {S F : Type 0} → (S → Bool → List ℕ → S → Type 0) → (S → Bool → List ℕ → F → S → Type 0) → ℕ → S → S → List ℕ → List (List ℕ) → Stop F → Type 0
Ends takes refuses most old new octets lines TooLong = GrowsLong takes most old new octets lines
Ends takes refuses most old new octets lines (Refused fault) =
    (declines : Declines takes refuses most old new octets lines fault) × (declines.has_line_feed ≡ true)
Ends takes refuses most old new octets lines Memory = (rest : List ℕ) × Reaches takes most old new octets lines rest

-- the count of lines that were taken grew by theirs
abbrev pub FeedStops : {S F : Type 0} → (S → Bool → List ℕ → S → Type 0) → (S → Bool → List ℕ → F → S → Type 0) → ℕ → S → S → List ℕ → ℕ → ℕ → Stop F → Type 0
FeedStops takes refuses most old new octets taken now stop =
    (lines : List (List ℕ)) × (now ≡ taken + length lines) × Ends takes refuses most old new octets lines stop

-- the last line was refused
abbrev pub RefusesLast : {S F : Type 0} → (S → Bool → List ℕ → F → S → Type 0) → S → List ℕ → F → S → Type 0
RefusesLast refuses old line fault new = (0 < length line) × refuses old false line fault new

-- the fault where the next line has this number
abbrev pub fault_at : {F : Type 0} → ℕ → Stop F → LinesFault F
fault_at number TooLong = faults.TooLong number
fault_at number (Refused fault) = faults.Refused number fault
fault_at number Memory = faults.Memory
