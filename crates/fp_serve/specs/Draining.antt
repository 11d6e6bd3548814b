-- When the drain of a node is over, by the reads of its link that began after the command, the newest one first.
use Rattle.std.specs.Prelude.{◌≡◌, ℕ, Bool, true, false, nat_lt, if◌then◌else◌, List, [], ◌∷◌, drop, Result, Ok, Err}
use Rattle.std.specs.List.{list_any}
use Rattle.std.specs.IoError.{error_kind}
use Rattle.std.specs.declared.io.Error.{Error}
use Rattle.std.specs.declared.io.ErrorKind.{ErrorKind}
use Rattle.std.specs.declared.io.ErrorKind.TheVariants.{WouldBlock}
use Rattle.fp_serve.specs.declared.run.draining.DrainCourse.{DrainCourse}
use Rattle.fp_serve.specs.declared.run.draining.DrainStage.{DrainStage}
use Rattle.fp_serve.specs.declared.run.draining.DrainStage.TheVariants.{Open, Closed, Over}
use Rattle.fp_serve.specs.declared.run.draining.LinkReading.{LinkReading}

-- the next read drives the network: the last one left nothing waiting
abbrev pub drives_next : List LinkReading → Bool
drives_next [] = false
drives_next (last ∷ earlier) = last.left_none

-- those that drove it
abbrev pub driving : List LinkReading → List LinkReading
driving [] = []
driving (last ∷ earlier) = if drives_next earlier then last ∷ driving earlier else driving earlier

-- the common connection was closed when one of these ended
abbrev pub has_closed : List LinkReading → Bool
has_closed readings = list_any (λ reading. reading.is_closed) readings

-- One read drove the network, and the common connection was closed when it ended; and one more drove it, before which all
-- that the connection brought was read and posted.
abbrev pub is_over : List LinkReading → Bool
is_over readings = has_closed (drop 1 (driving readings))

-- how far the drain is, by the reads that drove the network
abbrev pub IsStage : DrainStage → List LinkReading → Type 0
IsStage Open drove = (has_closed drove ≡ false) × (has_closed (drop 1 drove) ≡ false)
IsStage Closed drove = (has_closed drove ≡ true) × (has_closed (drop 1 drove) ≡ false)
IsStage Over drove = has_closed (drop 1 drove) ≡ true

-- a course is that of these reads
pub record IsSeen (course : DrainCourse) (readings : List LinkReading) : Type 0 where
  pub stage : IsStage course.stage (driving readings)
  pub drives : course.drives ≡ drives_next readings

-- an error says that nothing waits
abbrev pub says_none : ErrorKind → Bool
says_none WouldBlock = true
says_none _ = false

-- a read into this much room left nothing waiting
abbrev pub left_none : Result ℕ Error → ℕ → Bool
left_none (Ok count) room = nat_lt count room
left_none (Err error) room = says_none (error_kind error)
