-- Connections are closed one after another, each as the one by which a message would have gone.
use Rattle.std.proofs.Common.{◌≡◌, ℕ, Bool, true, false, List, [], ◌∷◌, ◌++◌, Some, refl}
use Rattle.std.specs.Option.{option_map}
use Rattle.fp_adaptor.specs.declared.setting.Setting.{Setting}
use Rattle.fp_adaptor.specs.Adaptor.{Led}
use Rattle.fp_adaptor.specs.Connections.{IsFirst}
use Rattle.fp_adaptor.specs.History.{Event, connection_after, ended}
use Rattle.fp_network.specs.declared.event.Closing.{Closing}
use Rattle.fp_network.specs.declared.node.Node.{Node}
use Rattle.fp_network.specs.Changes.{closing}
use Rattle.fp_network.specs.Forwarding.{InTheWay, MakesWay, MakesWayFor}
use Rattle.fp_network.specs.Node.{LeavesOthers, connection_in, ended_unless, is_over_at}
use Rattle.fp_network.proofs.Ending.{adds_one, adds_then, closes_place, closes_then, none_closed}

-- one that was over before adds no event
way_unless : (over : Bool) (place : ℕ) (closed history : List Event) → IsFirst (connection_after (closed ++ history)) (Some place)
    → InTheWay history closed → InTheWay history (ended_unless over place ++ closed)
way_unless true place closed history first way = way
way_unless false place closed history first way = (first, way)

pub way_none : (node : Node) → MakesWay node node
way_none node = ([], none_closed node, λ setting history led. led, λ setting history led. tt)

-- none is closed for a message that is too long to be sent
pub way_spared : (message : List ℕ) (node : Node) → MakesWayFor message node node
way_spared message node = (([], none_closed node, λ setting history led. led, λ setting history led. tt), λ long. refl)

-- one more connection is closed
pub way_more : (old mid new : Node) (why : Closing) (place : ℕ) → MakesWay old mid
    → connection_in new place ≡ option_map (closing why) (connection_in mid place) → LeavesOthers place mid new
    → (is_over_at mid place ≡ true → new.adaptor ≡ mid.adaptor)
    → (is_over_at mid place ≡ false → (setting : Setting) (history : List Event) → Led mid.adaptor setting history
    → Led new.adaptor setting (ended place ∷ history))
    → ((setting : Setting) (history : List Event) → Led mid.adaptor setting history → IsFirst (connection_after history) (Some place))
    → MakesWay old new
way_more old mid new why place (closed, is, adds, way) here others stays tells first = (
  ended_unless (is_over_at mid place) place ++ closed,
  closes_then old mid new closed (ended_unless (is_over_at mid place) place) is (closes_place why place mid new here others),
  adds_then old.adaptor mid.adaptor new.adaptor closed (ended_unless (is_over_at mid place) place) adds (adds_one place mid new stays tells),
  λ setting history led.
      way_unless (is_over_at mid place) place closed history (first setting (closed ++ history) (adds setting history led))
      (way setting history led),
)
