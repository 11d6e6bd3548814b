-- What a seat has of the three ledgers of its link, and what the link's calls add to it.
use Rattle.std.specs.Prelude.{◌≡◌, ℕ, ◌+◌, ◌≤◌, Result, Ok, Err}
use Rattle.std.specs.declared.sync.ledger.Blank.{Blank}
use Rattle.fp_book.specs.declared.answers.Posted.{Posted}
use Rattle.fp_book.specs.declared.in_place.InPlace.{InPlace}
use Rattle.fp_book.specs.declared.parcel.Content.{Content}
use Rattle.fp_book.specs.declared.parcel.Content.TheVariants as content
use Rattle.fp_book.specs.declared.parcel.Parcel.{Parcel}
use Rattle.fp_book.specs.declared.totals.Totals.{Totals}
use Rattle.fp_book.specs.InPlace.{count_in}
use Rattle.fp_book.specs.Receipt.{accepted_components}
use Rattle.fp_entry.specs.declared.prepared.Prepared.{Prepared}
use Rattle.fp_row.specs.declared.done.Done.{Done}

-- what contracts see of a seat: its parts of each of the three ledgers, and its amounts in them
pub record Shares : Type 0 where
  pub parts : ℕ
  -- the components that were accepted
  pub accepted : ℕ
  -- the entries that were served
  pub served : ℕ
  -- the frames of dialogues that were sent
  pub sent : ℕ

-- this number of parts, and no amounts
abbrev pub blank : ℕ → Shares
blank parts = record { parts = parts; accepted = 0; served = 0; sent = 0 }

-- what another seat has is added
abbrev pub joined : Shares → Shares → Shares
joined s other = record {
  parts = s.parts + other.parts;
  accepted = s.accepted + other.accepted;
  served = s.served + other.served;
  sent = s.sent + other.sent;
}

-- into how many parts each of the ledgers is cut
abbrev pub all_parts : ℕ
all_parts = 64

-- so they are
pub record Whole (accepted served sent : ℕ) : Type 0 where
  pub accepted_parts : accepted ≡ all_parts
  pub served_parts : served ≡ all_parts
  pub sent_parts : sent ≡ all_parts

-- a blank opens the ledger of this name and this number of parts
pub record Opens (blank : Blank) (name parts : ℕ) : Type 0 where
  pub name_is : blank.name ≡ name
  pub parts_are : blank.parts ≡ parts

-- three blanks open the three ledgers of a link, whose names and numbers of parts are these
pub record AreBlanks (blanks : Blank × Blank × Blank) (accepted_name accepted_parts served_name served_parts sent_name sent_parts : ℕ) : Type 0 where
  pub accepted : Opens blanks.0 accepted_name accepted_parts
  pub served : Opens blanks.1 served_name served_parts
  pub sent : Opens blanks.2 sent_name sent_parts
  pub whole : Whole accepted_parts served_parts sent_parts

-- the amounts of a seat are at most what its link has counted
pub record Within (s : Shares) (totals : Totals) : Type 0 where
  pub accepted : s.accepted ≤ totals.accepted
  pub served : s.served ≤ totals.served
  pub sent : s.sent ≤ totals.sent

-- the amounts of a seat, as totals
abbrev pub amounts : Shares → Totals
amounts s = record { accepted = s.accepted; served = s.served; sent = s.sent }

-- the seat after a message was posted: more by its components, if it was accepted
abbrev pub after_post : Shares → Prepared → Posted → Shares
after_post s came answer = record s { accepted = s.accepted + accepted_components answer came }

-- this number, if nothing comes back
abbrev pub count_if_ok : {T E : Type 0} → ℕ → Result T E → ℕ
count_if_ok count (Ok x) = count
count_if_ok count (Err e) = 0

-- the seat after a turn was given: more by the entries that were served, unless the turn comes back
abbrev pub after_give : {T E : Type 0} → Shares → Done → Result T E → Shares
after_give s done result = record s { served = s.served + count_if_ok done.served result }

-- one for the frame of a dialogue, 0 for an Abort of the provider
abbrev pub frames_of : Content → ℕ
frames_of (content.Abort frame) = 0
frames_of (content.Frame waiting) = 1

-- the frames that were sent, unless the parcel comes back
abbrev pub frames_if_ok : {T E : Type 0} → Content → Result T E → ℕ
frames_if_ok parcel (Ok x) = frames_of parcel
frames_if_ok parcel (Err e) = 0

-- the seat after a parcel was reported sent: more by one frame if it was a dialogue's, unless it comes back
abbrev pub after_sent : {T E : Type 0} → Shares → Parcel → Result T E → Shares
after_sent s parcel result = record s { sent = s.sent + frames_if_ok parcel.content result }

-- the seat after a turn was served in its place, or none: more by the entries that were served
abbrev pub after_serve : Shares → InPlace → Shares
after_serve s answer = record s { served = s.served + count_in answer }
