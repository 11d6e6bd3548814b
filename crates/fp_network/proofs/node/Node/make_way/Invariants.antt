use Rattle.std.proofs.Common.{◌≡◌, ℕ, ◌<◌, List, [], None}
use Rattle.fp_adaptor.specs.declared.setting.Setting.{Setting}
use Rattle.fp_adaptor.specs.Adaptor.{Led}
use Rattle.fp_adaptor.specs.Connections.{connection_at}
use Rattle.fp_adaptor.specs.History.{Event}
use Rattle.fp_network.specs.Counting.{Counts}
use Rattle.fp_network.specs.Endings.{ClosesRefused, IsTied}
use Rattle.fp_network.specs.Forwarding.{MakesWay}
use Rattle.fp_network.specs.Node.{LeavesLink, WaitsOn}
use Rattle.fp_network.specs.Receiving.{SkipsNone}
use Rattle.fp_network.proofs.node.Node.make_way.Given as goal

-- connections that take no message were closed, among them those of the units so far
abbrev pub invariant-loop-unit : goal.invariant-loop-unit
invariant-loop-unit l = record {
  ended : MakesWay l.fn.self l.self;
  refused : ClosesRefused l.fn.self l.self;
  rest : WaitsOn l.fn.self l.self;
  link : LeavesLink l.fn.self l.self;
  counted : Counts [] l.fn.self l.self;
  skipped : SkipsNone l.fn.self l.self;
  none :
      (setting : Setting) (history : List Event) → Led l.fn.self.adaptor setting history → IsTied l.fn.self history
      → (unit : ℕ) → unit < l._unit → connection_at l.self.adaptor.connections.places.items unit ≡ None;
}
