-- What is sent for messages and for moments, one after another, over a plain list of dialogues and the queue of serials
-- that may be given to the next ones. What one of them brings is served and answered before the next one comes.
use Rattle.std.specs.Prelude.{ℕ, Bool, true, false, not, ◌+◌, ◌==◌, ◌&&◌, ◌||◌, List, [], ◌∷◌, ◌++◌, Option, Some, None, is_some, drop, length, map, nat_le, nat_lt, if◌then◌else◌}
use Rattle.std.specs.List.{filter, find}
use Rattle.std.specs.Option.{option_and_then, option_map_or}
use Rattle.fp_ber.specs.Canon.{canon}
use Rattle.fp_book.specs.Limits.{all_entries}
use Rattle.fp_book.specs.declared.rules.Facts.{Facts}
use Rattle.fp_book.specs.declared.verdict.Verdict.{Verdict}
use Rattle.fp_book.specs.declared.verdict.Verdict.TheVariants.{Discard, Refuse, Open, Extend}
use Rattle.fp_book.specs.Rules.{entries_in, is_lost, number_of, rule, verdict_by}
use Rattle.fp_entry.specs.declared.entry.Entry.{Entry}
use Rattle.fp_entry.specs.declared.entry.EntryKind.TheVariants.{Clock}
use Rattle.fp_entry.specs.declared.prepared.Prepared.{Prepared}
use Rattle.fp_entry.specs.Entries.{entry_at}
use Rattle.fp_entry.specs.Prepared.{arrival_of}
use Rattle.fp_frames.specs.Frame.{framed}
use Rattle.fp_q773.specs.declared.provider_abort.AbortCause.{AbortCause}
use Rattle.fp_q773.specs.Tid.{Tid, octets_of}
use Rattle.fp_q773.specs.ProviderAbort.{cause_code, provider_abort}
use Rattle.fp_reply.specs.Reply.{frame_of}
use Rattle.fp_service.specs.declared.dialogue.Core.{Core}
use Rattle.fp_service.specs.declared.request.Request.{Request}
use Rattle.fp_service.specs.Dialogue.{fresh, is_over, next_due}
use Rattle.fp_service.specs.Serve.{next, request_of}
use Rattle.fp_tids.specs.Identifiers.{all_serials, first_of, serial_of}

-- DIALOGUES

-- a dialogue: its number among those that were opened, the identifiers by which this end and its peer know it, and what
-- the service logic knows of it
pub record Dialogue : Type 0 where
  pub birth : ℕ
  pub local : ℕ
  pub peer : List ℕ
  pub core : Core

-- what serials are added to, how many dialogues were opened, how many entries were accepted, the serials that may be
-- given to dialogues, the next one first, and the dialogues that go on
pub record LinkState : Type 0 where
  pub base : ℕ
  pub births : ℕ
  pub entries : ℕ
  pub free : List ℕ
  pub dialogues : List Dialogue

-- no dialogue was opened yet
abbrev pub at_first : ℕ → LinkState
at_first base = record { base = base; births = 0; entries = 0; free = all_serials; dialogues = [] }

-- the dialogue that this end knows by an identifier
abbrev pub found : ℕ → List Dialogue → Option Dialogue
found local dialogues = find (λ (dialogue : Dialogue). dialogue.local == local) dialogues

-- the others
abbrev pub without : ℕ → List Dialogue → List Dialogue
without local dialogues = filter (λ (dialogue : Dialogue). not (dialogue.local == local)) dialogues

-- SERVING

-- the dialogues that go on then; the serials of those that left the list, in the order in which they left; and the
-- frames that are sent, each with its head
pub record Served : Type 0 where
  pub dialogues : List Dialogue
  pub returned : List ℕ
  pub frames : List (List ℕ)

-- the frame of a request, under the identifiers of its dialogue
abbrev pub answer_of : Dialogue → Option Request → List (List ℕ)
answer_of dialogue asked = option_map_or (λ request. frame_of request dialogue.local dialogue.peer ∷ []) asked []

-- the dialogue after an entry
abbrev pub after : Dialogue → Entry → Dialogue
after dialogue entry = record dialogue { core = next dialogue.core entry }

-- a dialogue goes on until its core is over
abbrev pub going_on : Dialogue → List Dialogue
going_on dialogue = if is_over dialogue.core then [] else dialogue ∷ []

-- its serial comes back then
abbrev pub returned_by : Dialogue → List ℕ
returned_by dialogue = if is_over dialogue.core then serial_of dialogue.local ∷ [] else []

-- one entry goes through the service step; nothing comes of an entry of a dialogue that doesn't go on
abbrev pub serve_at : ℕ → Entry → List Dialogue → Option Dialogue → Served
serve_at local entry dialogues None = record { dialogues = dialogues; returned = []; frames = [] }
serve_at local entry dialogues (Some dialogue) = record {
  dialogues = going_on (after dialogue entry) ++ without local dialogues;
  returned = returned_by (after dialogue entry);
  frames = answer_of dialogue (request_of dialogue.core entry);
}

abbrev pub serve_one : ℕ → Entry → List Dialogue → Served
serve_one local entry dialogues = serve_at local entry dialogues (found local dialogues)

-- an entry, and the dialogue whose it is
pub record Job : Type 0 where
  pub local : ℕ
  pub entry : Entry

-- one entry after another
abbrev pub serve_all : List Job → List Dialogue → Served
serve_all [] dialogues = record { dialogues = dialogues; returned = []; frames = [] }
serve_all (job ∷ jobs) dialogues =
    let first = serve_one job.local job.entry dialogues in
    let rest = serve_all jobs first.dialogues in
    record { dialogues = rest.dialogues; returned = first.returned ++ rest.returned; frames = first.frames ++ rest.frames }

-- the entries of one dialogue
abbrev pub jobs_for : ℕ → List Entry → List Job
jobs_for local entries = map (λ entry. record { local = local; entry = entry }) entries

-- WHAT COMES OF A MESSAGE

-- what is so then, and the frames that are sent
pub record Outcome : Type 0 where
  pub link : LinkState
  pub frames : List (List ℕ)

-- nothing comes of it
abbrev pub discarded : LinkState → Outcome
discarded w = record { link = w; frames = [] }

-- the frame of the provider's Abort, if a cause is named and the message has its sender's identifier
abbrev pub aborts : Option AbortCause → Option Tid → List (List ℕ)
aborts (Some cause) (Some sender) = framed (canon (provider_abort (octets_of sender) (cause_code cause))) ∷ []
aborts _ _ = []

-- a dialogue leaves the list, and its serial comes after all others that may be given
abbrev pub left : ℕ → LinkState → LinkState
left local w = record w { free = w.free ++ serial_of local ∷ []; dialogues = without local w.dialogues }

-- the dialogue that is closed, if one is, leaves the list
abbrev pub left_by : Option ℕ → LinkState → LinkState
left_by closes w = option_map_or (λ local. left local w) closes w

-- the message is refused: the dialogue that is closed for it leaves the list
abbrev pub refused : LinkState → Option AbortCause → Option ℕ → Option Tid → Outcome
refused w cause closes sender = record { link = left_by closes w; frames = aborts cause sender }

-- this many entries more were accepted, and these were served
abbrev pub accepted : LinkState → ℕ → Served → Outcome
accepted w entries served = record {
  link = record w { entries = w.entries + entries; free = w.free ++ served.returned; dialogues = served.dialogues };
  frames = served.frames;
}

-- the next dialogue, with this identifier, as its Begin finds it
abbrev pub newborn : LinkState → ℕ → Tid → ℕ → Dialogue
newborn w local sender moment = record {
  birth = w.births + 1;
  local = local;
  peer = octets_of sender;
  core = fresh (w.births + 1) moment;
}

-- A dialogue is opened with this identifier, and is given the next serial. One is always left: each of the 131,072
-- serials may be given or is that of one of the dialogues that go on, at most 4,096. Without one nothing would come of
-- the message.
abbrev pub opened : LinkState → Option ℕ → Tid → ℕ → List Entry → Outcome
opened w None sender moment entries = discarded w
opened w (Some local) sender moment entries =
    accepted (record w { births = w.births + 1; free = drop 1 w.free }) (length entries)
    (serve_all (jobs_for local entries) (newborn w local sender moment ∷ w.dialogues))

-- a dialogue goes on
abbrev pub continued : LinkState → ℕ → List Entry → Outcome
continued w local entries = accepted w (length entries) (serve_all (jobs_for local entries) w.dialogues)

-- a dialogue is ended by its peer: it leaves the list, and nothing is sent
abbrev pub ended : LinkState → ℕ → List Entry → Outcome
ended w local entries = record { link = record (left local w) { entries = w.entries + length entries }; frames = [] }

-- WHAT IS DONE WITH A MESSAGE

-- the dialogue that this end knows by an identifier, if it goes on
abbrev pub going : LinkState → ℕ → Option ℕ
going w local = if is_some (found local w.dialogues) then Some local else None

-- the dialogue that a message names: the four octets of its destination are this end's identifier
abbrev pub named : LinkState → Prepared → Option ℕ
named w came = option_and_then (going w) (option_and_then (λ tid. number_of (octets_of tid)) (arrival_of came).ids.dest)

-- the facts of the rules of receipt: the link is up, and every entry that was accepted was served
abbrev pub facts : LinkState → Prepared → Facts
facts w came = record {
  is_down = false;
  names_one = is_some (named w came);
  unserved = 0;
  entries = w.entries;
  held = length w.dialogues;
}

-- what is done with a message by these rules
abbrev pub verdict : LinkState → Prepared → Verdict
verdict w came = verdict_by (rule (facts w came) came) (named w came) (arrival_of came).ids.orig

-- what comes of it, if the message has this sender, came at this moment and brings these entries
abbrev pub outcome : LinkState → Option Tid → ℕ → List Entry → Verdict → Outcome
outcome w sender moment entries Discard = discarded w
outcome w sender moment entries (Refuse cause dialogue) = refused w cause dialogue sender
outcome w sender moment entries (Open peer) = opened w (first_of w.base w.free) peer moment entries
outcome w sender moment entries (Extend local false) = continued w local entries
outcome w sender moment entries (Extend local true) = ended w local entries

-- whether the message was read, and not lost because memory ran out
abbrev pub is_read : Prepared → Bool
is_read came = not (is_lost came)

-- what comes of a message; no clause asks about one that was lost because memory ran out
abbrev pub post : LinkState → Prepared → Outcome
post w came = outcome w (arrival_of came).ids.orig (arrival_of came).moment (entries_in came) (verdict w came)

-- WHAT COMES OF A MOMENT

-- a deadline, and the dialogue that has it
pub record Due : Type 0 where
  pub deadline : ℕ
  pub local : ℕ

-- the earlier deadline comes first, and the smaller identifier among equals
abbrev pub comes_first : Due → Due → Bool
comes_first a b = nat_lt a.deadline b.deadline || ((a.deadline == b.deadline) && nat_lt a.local b.local)

-- in its place among others
abbrev pub placed : Due → List Due → List Due
placed due [] = due ∷ []
placed due (other ∷ others) = if comes_first due other then due ∷ other ∷ others else (other ∷ placed due others)

-- the dialogues that are due at a moment, in order
abbrev pub due_at : ℕ → List Dialogue → List Due
due_at moment [] = []
due_at moment (dialogue ∷ dialogues) =
    if nat_le (next_due dialogue.core) moment
    then placed (record { deadline = next_due dialogue.core; local = dialogue.local }) (due_at moment dialogues)
    else due_at moment dialogues

-- each of them gets one Clock
abbrev pub clocks : ℕ → List Due → List Job
clocks moment dues = map (λ (due : Due). record { local = due.local; entry = entry_at moment Clock }) dues

-- the link has accepted 2^63 entries
abbrev pub is_full : LinkState → Bool
is_full w = nat_le all_entries w.entries

-- what comes of a moment
abbrev pub tick : LinkState → ℕ → Outcome
tick w moment =
    let due = due_at moment w.dialogues in
    if is_full w then discarded w else accepted w (length due) (serve_all (clocks moment due) w.dialogues)
