-- How far a connection is from its end: its node may drain, and it may be to be closed. Moments are milliseconds.
use Rattle.std.specs.Prelude.{ℕ, ◌-◌, Bool, true, false, nat_le, if◌then◌else◌, List, [], Option, Some, None}
use Rattle.std.specs.Bool.{then_some}
use Rattle.fp_ipa.specs.declared.connection.State.{State}
use Rattle.fp_ipa.specs.declared.connection.State.TheVariants.{Asked, Named, Active, Closed}
use Rattle.fp_ipa.specs.declared.connection.Action.{Action}
use Rattle.fp_ipa.specs.Connection.{sent}
use Rattle.fp_network.specs.declared.course.Course.{Course}
use Rattle.fp_network.specs.declared.course.Course.TheVariants.{Open, Draining, Shut, Over}
use Rattle.fp_network.specs.declared.event.Closing.{Closing}
use Rattle.fp_network.specs.declared.event.Closing.TheVariants as reasons

-- why it is to be closed, if it is
abbrev pub closing_of : Course → Option Closing
closing_of (Over why) = Some why
closing_of Open = None
closing_of (Draining since) = None
closing_of (Shut since) = None

-- it is written
abbrev pub is_written : Course → Bool
is_written Open = true
is_written (Draining since) = true
is_written (Shut since) = false
is_written (Over why) = false

-- its writing side is to be shut
abbrev pub is_draining : Course → Bool
is_draining (Draining since) = true
is_draining Open = false
is_draining (Shut since) = false
is_draining (Over why) = false

-- once it is to be closed for a reason, the first one counts
abbrev pub closed : Closing → Course → Course
closed why Open = Over why
closed why (Draining since) = Over why
closed why (Shut since) = Over why
closed why (Over first) = Over first

-- once its node drains: the connection of the common unit is to be shut for writing
abbrev pub drained_from : ℕ → Course → Course
drained_from at Open = Draining at
drained_from at (Draining since) = Draining since
drained_from at (Shut since) = Shut since
drained_from at (Over why) = Over why

abbrev pub drained : Bool → ℕ → Course → Course
drained is_common at course = if is_common then drained_from at course else course

-- once its writing side was shut
abbrev pub shut : Course → Course
shut (Draining since) = Shut since
shut Open = Open
shut (Shut since) = Shut since
shut (Over why) = Over why

-- five seconds went by since it came, and it isn't active
abbrev pub is_unnamed : State → ℕ → ℕ → Bool
is_unnamed (Active unit) came_at at = false
is_unnamed (Named unit) came_at at = nat_le 5000 (at - came_at)
is_unnamed Asked came_at at = nat_le 5000 (at - came_at)
is_unnamed Closed came_at at = nat_le 5000 (at - came_at)

-- two seconds went by since its node began to drain
abbrev pub is_drained : ℕ → ℕ → Bool
is_drained since at = nat_le 2000 (at - since)

-- its node drains for two seconds, and it isn't to be closed: it is, once its socket is read out
abbrev pub is_late : Course → ℕ → Bool
is_late Open at = false
is_late (Draining since) at = is_drained since at
is_late (Shut since) at = is_drained since at
is_late (Over why) at = false

-- why it is to be closed, if time is over for it, whatever its socket has
abbrev pub overdue : Course → State → ℕ → ℕ → Option Closing
overdue Open state came_at at = then_some (is_unnamed state came_at at) reasons.Silent
overdue (Draining since) state came_at at = None
overdue (Shut since) state came_at at = None
overdue (Over why) state came_at at = None

-- the octets that an action sends, if any are sent
abbrev pub octets_for : Course → Action → List ℕ
octets_for Open action = sent action
octets_for (Draining since) action = sent action
octets_for (Shut since) action = []
octets_for (Over why) action = []
