-- A turn: the next entries of a dialogue, with the core before them, and what comes of them when it is served.
use Rattle.std.specs.Prelude.{ℕ, List, map}
use Rattle.fp_entry.specs.declared.entry.Entry.{Entry}
use Rattle.fp_q773.specs.Tid.{Tid, octets_of}
use Rattle.fp_reply.specs.Reply.{frame_of}
use Rattle.fp_row.specs.declared.turn.Turn.{Turn}
use Rattle.fp_service.specs.declared.dialogue.Core.{Core}
use Rattle.fp_service.specs.declared.request.Request.{Request}
use Rattle.fp_service.specs.Fold.{core_after, cut, requests}

-- how many entries a turn has at most
abbrev pub most_entries : ℕ
most_entries = 16

-- the birth of its dialogue
abbrev pub birth_of : Turn → ℕ
birth_of turn = turn.before.birth

-- the entries that are served: those up to the first after which the dialogue is over, or all
abbrev pub served_in : Turn → List Entry
served_in turn = cut turn.before turn.entries

-- the core after those
abbrev pub core_then : Turn → Core
core_then turn = core_after turn.before (served_in turn)

-- what those request, in order
abbrev pub requests_in : Turn → List Request
requests_in turn = requests turn.before (served_in turn)

-- the frames of requests, under the identifiers of a dialogue
abbrev pub frames_under : ℕ → Tid → List Request → List (List ℕ)
frames_under local peer asked = map (λ request. frame_of request local (octets_of peer)) asked

-- the frames of what is requested, under its own identifiers
abbrev pub frames_for : Turn → List (List ℕ)
frames_for turn = frames_under turn.local turn.peer (requests_in turn)
