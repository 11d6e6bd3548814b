-- How a connection is changed by what happens to it and to its node. Moments are milliseconds.
use Rattle.std.specs.Prelude.{◌≡◌, ℕ, ◌-◌, ◌++◌, Bool, ◌&&◌, ◌||◌, nat_le, if◌then◌else◌, List, Option, Some, None, drop, length}
use Rattle.fp_ipa.specs.Message.{head_of}
use Rattle.fp_network.specs.declared.connection.Connection.{Connection}
use Rattle.fp_network.specs.declared.event.Closing.{Closing}
use Rattle.fp_network.specs.declared.event.Closing.TheVariants.{Draining, Slow}
use Rattle.fp_network.specs.Connection.{is_of_common}
use Rattle.fp_network.specs.Course.{closed, drained, is_late, is_written, overdue, shut}

-- it is to be closed for a reason, unless it was for another one
abbrev pub closing : Closing → Connection → Connection
closing why own = record own { course = closed why own.course }

-- its node, with this number of units, drains since this time
abbrev pub draining : ℕ → ℕ → Connection → Connection
draining units at own = record own { course = drained (is_of_common units own.state) at own.course }

-- its writing side was shut
abbrev pub shutting : Connection → Connection
shutting own = record own { course = shut own.course }

-- this number of octets was written to it
abbrev pub writing : ℕ → Connection → Connection
writing count own = record own { waiting = drop count own.waiting }

-- a message of SCCP waits for it
abbrev pub putting : List ℕ → Connection → Connection
putting octets own = record own { waiting = own.waiting ++ (head_of 253 (length octets) ++ octets) }

-- a message does, if the connection is written and the message fits
abbrev pub sending_if : Bool → Bool → List ℕ → Connection → Connection
sending_if fits written octets own =
    if fits then (if written then putting octets own else own) else own

abbrev pub sending : List ℕ → Connection → Connection
sending octets own = sending_if (nat_le (length octets) 65535) (is_written own.course) octets own

-- it is this time, which is over for it or isn't
abbrev pub closed_if : Option Closing → Connection → Connection
closed_if None own = own
closed_if (Some why) own = closing why own

abbrev pub ticking : ℕ → Connection → Connection
ticking at own = closed_if (overdue own.course own.state own.came_at at) own

-- A read of its socket ends at this time, and it is closed by that: its node drains for two seconds, and the read found
-- nothing more, or it was the last that the connection gets.
abbrev pub is_read_out : ℕ → Bool → Connection → Bool
is_read_out at found_no_more own = is_late own.course at && (found_no_more || nat_le own.reads_left 1)

-- it gets one read less
abbrev pub counting_read : ℕ → Connection → Connection
counting_read at own =
    record own { reads_left = if is_late own.course at then own.reads_left - 1 else own.reads_left }

abbrev pub reading_late : ℕ → Bool → Connection → Connection
reading_late at found_no_more own =
    if is_read_out at found_no_more own then closing Draining own else counting_read at own

-- a megabyte waits for it
abbrev pub is_slow : Connection → Bool
is_slow own = nat_le 1048576 (length own.waiting)

-- why it takes no message of the link: it isn't written, or a megabyte waits for it
abbrev pub refusal : Connection → Option Closing
refusal own =
    if is_written own.course then (if is_slow own then Some Slow else None) else Some Draining

-- the octets that waited still wait, and others after them
abbrev pub IsLonger : List ℕ → List ℕ → Type 0
IsLonger old new = new ≡ old ++ drop (length old) new
