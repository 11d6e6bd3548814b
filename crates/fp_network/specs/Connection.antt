-- What becomes of a message on a connection: the states of a connection of IPA, except that a node that drains closes
-- one that names the common unit. The common unit is the last one.
use Rattle.std.specs.Prelude.{ℕ, ◌-◌, Bool, false, ◌&&◌, ◌==◌, nat_lt, if◌then◌else◌}
use Rattle.fp_ipa.specs.declared.connection.State.{State}
use Rattle.fp_ipa.specs.declared.connection.State.TheVariants.{Asked, Named, Active, Closed}
use Rattle.fp_ipa.specs.declared.connection.Action.{Action}
use Rattle.fp_ipa.specs.declared.connection.Action.TheVariants as actions
use Rattle.fp_ipa.specs.declared.received.Received.{Received}
use Rattle.fp_ipa.specs.declared.received.Received.TheVariants as received
use Rattle.fp_ipa.specs.Connection.{action_for, next}
use Rattle.fp_network.specs.declared.arrival.Arrival.{Arrival}
use Rattle.fp_network.specs.declared.arrival.Arrival.TheVariants as arrivals
use Rattle.fp_network.specs.declared.event.Closing.{Closing}
use Rattle.fp_network.specs.declared.event.Closing.TheVariants.{UnknownUnit, OutOfOrder, Draining}

-- a unit is the last of this number
abbrev pub is_last : ℕ → ℕ → Bool
is_last units unit = nat_lt 0 units && (unit == units - 1)

-- a connection is that of the common unit
abbrev pub is_of_common : ℕ → State → Bool
is_of_common units (Named unit) = is_last units unit
is_of_common units (Active unit) = is_last units unit
is_of_common units Asked = false
is_of_common units Closed = false

-- a message names the common unit
abbrev pub names_common : ℕ → Received → Bool
names_common units (received.Named unit) = is_last units unit
names_common units received.Ping = false
names_common units received.Misnamed = false
names_common units received.Acknowledged = false
names_common units received.UnitData = false
names_common units received.Unknown = false

-- a message is refused since the node drains
abbrev pub is_refused : Bool → ℕ → Received → Bool
is_refused drains units what = drains && names_common units what

-- the state after a message, and the action for it
abbrev pub state_for : Bool → ℕ → State → Received → State
state_for drains units old what = if is_refused drains units what then Closed else next old what

abbrev pub step_action : Bool → ℕ → State → Received → Action
step_action drains units old what = if is_refused drains units what then actions.Close else action_for old what

-- why a connection is closed whose peer sent this
abbrev pub fault_of : Received → Closing
fault_of received.Misnamed = UnknownUnit
fault_of received.Ping = OutOfOrder
fault_of (received.Named unit) = OutOfOrder
fault_of received.Acknowledged = OutOfOrder
fault_of received.UnitData = OutOfOrder
fault_of received.Unknown = OutOfOrder

abbrev pub why_closed : Bool → ℕ → Received → Closing
why_closed drains units what = if is_refused drains units what then Draining else fault_of what

-- a connection in this state becomes active
abbrev pub activated : State → Arrival
activated (Active unit) = arrivals.Active unit
activated (Named unit) = arrivals.Nothing
activated Asked = arrivals.Nothing
activated Closed = arrivals.Nothing

-- what a message comes to, by the state after it, the action for it, and the reason if that is to close
abbrev pub arrival_by : State → Action → Closing → Arrival
arrival_by state actions.Skip why = arrivals.Skipped
arrival_by state actions.Pong why = arrivals.Nothing
arrival_by state actions.Acknowledge why = arrivals.Nothing
arrival_by state actions.Activate why = activated state
arrival_by state actions.Deliver why = arrivals.UnitData
arrival_by state actions.Close why = arrivals.Close why
