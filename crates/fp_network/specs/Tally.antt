-- The numbers of messages by their kind, and of connections that were closed by the reason.
use Rattle.std.specs.Prelude.{◌≡◌, ℕ, ◌==◌, if◌then◌else◌, List, Option, None, Some, get_or, slice_get}
use Rattle.fp_adaptor.specs.declared.counts.Counted.{Counted}
use Rattle.fp_adaptor.specs.Counted as kinds
use Rattle.fp_adaptor.specs.Counted.{one_more}
use Rattle.fp_network.specs.declared.event.Closing.{Closing}
use Rattle.fp_network.specs.declared.event.Closing.TheVariants as reasons
use Rattle.fp_network.specs.declared.tally.Tally.{Tally}

-- the place of a reason among the numbers
abbrev pub place_of : Closing → ℕ
place_of reasons.PeerClosed = 0
place_of reasons.Failed = 1
place_of reasons.Replaced = 2
place_of reasons.UnknownUnit = 3
place_of reasons.OutOfOrder = 4
place_of reasons.TooLong = 5
place_of reasons.Silent = 6
place_of reasons.Slow = 7
place_of reasons.Draining = 8
place_of reasons.TooMany = 9
place_of reasons.LinkDown = 10

-- a list has each reason at its place
abbrev pub AreListed : List Closing → Type 0
AreListed all = (why : Closing) → slice_get all (place_of why) ≡ Some why

-- the number of connections that were closed for a reason
abbrev pub closings_of : Tally → Closing → ℕ
closings_of tally why = get_or tally.closings (place_of why) 0

-- the number of messages of a kind
abbrev pub messages_of : Tally → Counted → ℕ
messages_of tally kind = get_or tally.messages (kinds.place_of kind) 0

-- the number for a reason once a connection is closed for this one
abbrev pub closed_once_more : Closing → Closing → ℕ → ℕ
closed_once_more why other count = if place_of other == place_of why then one_more count else count

-- the number for a reason once a connection came: one more was refused if it got no place
abbrev pub refused_unless : Option ℕ → Closing → ℕ → ℕ
refused_unless None other count = closed_once_more reasons.TooMany other count
refused_unless (Some place) other count = count
