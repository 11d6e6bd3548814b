-- How many messages of each kind there were.
use Rattle.std.specs.Prelude.{ℕ, ◌+◌, ◌-◌, ◌^◌, ◌==◌, if◌then◌else◌, min, List, [], ◌∷◌, Option, Some, None, get_or}
use Rattle.fp_sccp.specs.declared.return_cause.ReturnCause.{ReturnCause}
use Rattle.fp_sccp.specs.declared.return_cause.ReturnCause.TheVariants as causes
use Rattle.fp_adaptor.specs.declared.counts.Counted.{Counted}
use Rattle.fp_adaptor.specs.declared.counts.Counted.TheVariants as counted
use Rattle.fp_adaptor.specs.declared.counts.Counts.{Counts}
use Rattle.fp_adaptor.specs.History.{Event, Sent, came, ended, heard, refused, managed, returned, unreadable, said, by_connection, no_connection, too_long}

-- the place of a kind among the numbers
abbrev pub place_of : Counted → ℕ
place_of counted.HandedOn = 0
place_of counted.Segment = 1
place_of counted.OtherSubsystem = 2
place_of counted.OtherSender = 3
place_of counted.Management = 4
place_of counted.Returned = 5
place_of counted.Unreadable = 6
place_of counted.Sent = 7
place_of counted.Dropped = 8
place_of counted.TooLong = 9

-- the number of messages of a kind
abbrev pub count_of : Counts → Counted → ℕ
count_of counts what = get_or counts.numbers (place_of what) 0

-- one more, up to the greatest number of 64 bits
abbrev pub one_more : ℕ → ℕ
one_more count = min (count + 1) (2 ^ 64 - 1)

-- the number of a kind once a message of this kind is counted
abbrev pub counted_once_more : Counted → Counted → ℕ → ℕ
counted_once_more what other count = if place_of other == place_of what then one_more count else count

-- the kind of a refused message
abbrev pub refused_as : ReturnCause → Counted
refused_as causes.UnequippedUser = counted.OtherSubsystem
refused_as causes.DestinationCannotPerformReassembly = counted.Segment
refused_as cause = counted.OtherSender

-- the kind of a message of the link
abbrev pub sent_as : Sent → Counted
sent_as by_connection = counted.Sent
sent_as no_connection = counted.Dropped
sent_as too_long = counted.TooLong

-- the kind of an event that is counted
abbrev pub counted_as : Event → Option Counted
counted_as (came connection unit) = None
counted_as (ended connection) = None
counted_as (heard message) = Some counted.HandedOn
counted_as (refused cause) = Some (refused_as cause)
counted_as managed = Some counted.Management
counted_as returned = Some counted.Returned
counted_as unreadable = Some counted.Unreadable
counted_as (said message sent) = Some (sent_as sent)

-- the number of a kind after an event
abbrev pub count_with : Option Counted → Counted → ℕ → ℕ
count_with None other count = count
count_with (Some what) other count = counted_once_more what other count

-- the number of a kind
abbrev pub count_after : List Event → Counted → ℕ
count_after [] what = 0
count_after (event ∷ history) what = count_with (counted_as event) what (count_after history what)
