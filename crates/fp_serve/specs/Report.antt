-- What a run writes: the address at which its links were awaited, the answers to commands, and in the end what each link
-- counted. Its links have numbers from one on, the first link; those below belong to no link of it.
use Rattle.std.specs.Prelude.{◌≡◌, ℕ, ◌+◌, ◌≤◌, ◌⊎◌, Bool, true, List, [], ◌∷◌, ◌++◌, Option, codes, decimal, if◌then◌else◌, length, replicate}
use Rattle.std.specs.Io.KnownBytes.{Appends}
use Rattle.std.specs.List.{All, concat}
use Rattle.std.specs.Net.Text.{socket_text}
use Rattle.std.specs.declared.net.socket_addr.SocketAddr.{SocketAddr}
use Rattle.fp_book.specs.Shelf.{no_totals}
use Rattle.fp_book.specs.declared.totals.Totals.{Totals}
use Rattle.fp_replay.specs.Replayed.{report_line}
use Rattle.fp_watch.specs.Links.{lines_by, links_answer}
use Rattle.fp_watch.specs.Numbers.{TellsOfCounters, TellsOfNumber}
use Rattle.fp_watch.specs.declared.link_status.LinkStatus.{LinkStatus}

-- the line of an address
abbrev pub listening_line : SocketAddr → List ℕ
listening_line address = codes "listening " ++ (socket_text address ++ 10 ∷ [])

-- the line of a table that replaced another, with its index
abbrev pub reloaded_line : ℕ → List ℕ
reloaded_line index = codes "reloaded " ++ (decimal index ++ 10 ∷ [])

-- a table replaced another, and has an index up to the last one that tables may have
abbrev pub IsReloaded : ℕ → List ℕ → Type 0
IsReloaded last text = (index : ℕ) × (1 ≤ index) × (index ≤ last) × (text ≡ reloaded_line index)

-- the answer to `links`
abbrev pub TellsOfLinks : ℕ → List ℕ → Type 0
TellsOfLinks first_link text = (links : List LinkStatus) × (text ≡ links_answer first_link links)

-- the answer to a command: all but the first only if more commands are known
abbrev pub IsAnswer : ℕ → ℕ → Bool → List ℕ → Type 0
IsAnswer last first_link has_commands text =
    IsReloaded last text ⊎ ((has_commands ≡ true) × (TellsOfLinks first_link text ⊎ (TellsOfCounters text ⊎ TellsOfNumber text)))

-- the answers to commands were written, and nothing else
abbrev pub TellsAnswers : ℕ → ℕ → Bool → Option (List ℕ) → Option (List ℕ) → Type 0
TellsAnswers last first_link has_commands old new =
    (answers : List (List ℕ)) × All (IsAnswer last first_link has_commands) answers
    × Appends old new (concat answers)

-- what each link counted, from the number 0 on: below the first link nothing
abbrev pub with_links_below : ℕ → List Totals → List Totals
with_links_below first_link totals = replicate first_link no_totals ++ totals

-- An address was written, then the answers to commands, of which those to reload have indexes up to the last one, and in
-- the end what each of this number of links counted, in their order, and nothing else. Before the first link each number
-- below it has a line, as a replay of the log writes it.
pub record TellsLinks (last first_link links : ℕ) (has_commands : Bool) (old new : Option (List ℕ)) : Type 0 where
  pub address : SocketAddr
  pub answers : List (List ℕ)
  pub allowed : All (IsAnswer last first_link has_commands) answers
  pub totals : List Totals
  pub each : length totals ≡ links
  pub wrote : Appends old new (listening_line address ++ (concat answers ++ lines_by report_line 0 (with_links_below first_link totals)))
