-- The status of the links of a run, as a text. Its links have numbers from one on.
use Rattle.std.specs.Prelude.{ℕ, ◌+◌, Bool, List, [], ◌∷◌, ◌++◌, codes, decimal, if◌then◌else◌, length}
use Rattle.fp_book.specs.declared.totals.Totals.{Totals}
use Rattle.fp_watch.specs.Peer.{peer_text}
use Rattle.fp_watch.specs.declared.link_status.LinkStatus.{LinkStatus}

-- the lines of links from this number on, in their order
abbrev pub lines_by : {A : Type 0} → (ℕ → A → List ℕ) → ℕ → List A → List ℕ
lines_by line link [] = []
lines_by line link (first ∷ others) = line link first ++ lines_by line (link + 1) others

-- the beginning of the status line of a link, and the rest of it
abbrev pub beginning : ℕ → Bool → List ℕ → List ℕ
beginning link is_down peer =
    codes "link " ++ (decimal link ++ ((if is_down then codes " down " else codes " up ")
    ++ (peer ++ codes " accepted ")))

abbrev pub counts : Totals → ℕ → List ℕ
counts totals dialogues =
    decimal totals.accepted ++ (codes " served " ++ (decimal totals.served ++ (codes " sent " ++ (decimal totals.sent
    ++ (codes " held " ++ (decimal dialogues ++ 10 ∷ []))))))

-- the status line of a link
abbrev pub status_line : ℕ → LinkStatus → List ℕ
status_line link known = beginning link known.status.is_down (peer_text known.peer) ++ counts known.status.totals known.status.dialogues

-- the line with the number of links that were accepted
abbrev pub links_line : ℕ → List ℕ
links_line count = codes "links " ++ (decimal count ++ 10 ∷ [])

-- the status lines of these links, whose numbers begin with this one, and how many they are
abbrev pub links_answer : ℕ → List LinkStatus → List ℕ
links_answer first_link links =
    lines_by (λ place. status_line (first_link + place)) 0 links ++ links_line (length links)
