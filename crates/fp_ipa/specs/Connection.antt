-- The management of a connection to which its peer connected: the table of its states.
use Rattle.std.specs.Prelude.{ℕ, List, [], ◌∷◌}
use Rattle.fp_ipa.specs.declared.connection.State.{State}
use Rattle.fp_ipa.specs.declared.connection.State.TheVariants.{Asked, Named, Active, Closed}
use Rattle.fp_ipa.specs.declared.connection.Action.{Action}
use Rattle.fp_ipa.specs.declared.connection.Action.TheVariants as actions
use Rattle.fp_ipa.specs.declared.received.Received.{Received}
use Rattle.fp_ipa.specs.declared.received.Received.TheVariants as received

-- the state after a message
abbrev pub next : State → Received → State
next Asked received.Ping = Asked
next Asked (received.Named unit) = Named unit
next Asked received.Misnamed = Closed
next Asked received.Acknowledged = Closed
next Asked received.UnitData = Closed
next Asked received.Unknown = Asked
next (Named unit) received.Ping = Named unit
next (Named unit) (received.Named other) = Closed
next (Named unit) received.Misnamed = Closed
next (Named unit) received.Acknowledged = Active unit
next (Named unit) received.UnitData = Closed
next (Named unit) received.Unknown = Named unit
next (Active unit) received.Ping = Active unit
next (Active unit) (received.Named other) = Closed
next (Active unit) received.Misnamed = Closed
next (Active unit) received.Acknowledged = Closed
next (Active unit) received.UnitData = Active unit
next (Active unit) received.Unknown = Active unit
next Closed what = Closed

-- the action for a message
abbrev pub action_for : State → Received → Action
action_for Asked received.Ping = actions.Pong
action_for Asked (received.Named unit) = actions.Acknowledge
action_for Asked received.Misnamed = actions.Close
action_for Asked received.Acknowledged = actions.Close
action_for Asked received.UnitData = actions.Close
action_for Asked received.Unknown = actions.Skip
action_for (Named unit) received.Ping = actions.Pong
action_for (Named unit) (received.Named other) = actions.Close
action_for (Named unit) received.Misnamed = actions.Close
action_for (Named unit) received.Acknowledged = actions.Activate
action_for (Named unit) received.UnitData = actions.Close
action_for (Named unit) received.Unknown = actions.Skip
action_for (Active unit) received.Ping = actions.Pong
action_for (Active unit) (received.Named other) = actions.Close
action_for (Active unit) received.Misnamed = actions.Close
action_for (Active unit) received.Acknowledged = actions.Close
action_for (Active unit) received.UnitData = actions.Deliver
action_for (Active unit) received.Unknown = actions.Skip
action_for Closed what = actions.Skip

-- the state after these messages, the last of them first
abbrev pub state_after : List Received → State
state_after [] = Asked
state_after (what ∷ history) = next (state_after history) what

-- the octets that an action sends: PONG is 01, ID_ACK 06
abbrev pub sent : Action → List ℕ
sent actions.Pong = 0 ∷ 1 ∷ 254 ∷ 1 ∷ []
sent actions.Acknowledge = 0 ∷ 1 ∷ 254 ∷ 6 ∷ []
sent actions.Skip = []
sent actions.Activate = []
sent actions.Deliver = []
sent actions.Close = []
