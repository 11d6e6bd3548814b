-- Which serials the next dialogues of a run are given, from its history: all of them wait in a queue at first, an
-- opened dialogue takes the front one, and a dialogue that is no longer held puts its own at the back. And what holds
-- of them at each moment.
use Rattle.std.specs.Prelude.{◌≡◌, ◌≤◌, ℕ, ◌+◌, ◌&&◌, Bool, true, false, not, List, [], ◌∷◌, ◌++◌, Option, Some, drop, filter, is_some, length, map, if◌then◌else◌}
use Rattle.fp_book.specs.Limits.{most_dialogues}
use Rattle.fp_tids.specs.Identifiers.{AreSerials, all_serials, is_free, last_serial, serial_of}
use Rattle.fp_steps.specs.Accepted.{numbers_from}
use Rattle.fp_steps.specs.Births.{births, local_of, named, opened_in}
use Rattle.fp_steps.specs.History.{Event}
use Rattle.fp_steps.specs.Waiting.{held, is_down, is_held}

-- whether a dialogue was held, and isn't after an event
abbrev pub goes : Event → List Event → ℕ → Bool
goes e h d = is_held h d && not (is_held (e ∷ h) d)

-- those that go at an event, in the order of their births
abbrev pub gone_at : Event → List Event → List ℕ
gone_at e h = filter (goes e h) (numbers_from 1 (births h))

-- an opened dialogue takes the front one
abbrev pub without_first : Option ℕ → List ℕ → List ℕ
without_first opened serials = if is_some opened then drop 1 serials else serials

-- the serials that may be given, the next one first
abbrev pub free : List Event → List ℕ
free [] = all_serials
free (e ∷ h) = without_first (opened_in e.output) (free h) ++ map (λ d. serial_of (local_of h d)) (gone_at e h)

-- What holds of the identifiers of a link after a history.
pub record IdentifiersHold (h : List Event) : Type 0 where
  -- the identifier of each dialogue that is held names it
  pub names : (d : ℕ) → is_held h d ≡ true → named h (local_of h d) ≡ Some d
  -- and its serial may not be given, while the link is up
  pub taken : (d : ℕ) → is_down h ≡ false → is_held h d ≡ true → is_free (serial_of (local_of h d)) (free h) ≡ false
  -- none may be given twice then
  pub distinct : is_down h ≡ false → AreSerials (free h)
  -- there are no more serials then than those that may be given and those of the dialogues that are held, so that there
  -- is always one for a Begin
  pub all : is_down h ≡ false → length (free h) + held h ≡ last_serial
  -- at most 4,096 dialogues are held
  pub few : held h ≤ most_dialogues
