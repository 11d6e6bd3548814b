use Rattle.std.proofs.Common.{List, length}
use Rattle.fp_adaptor.specs.declared.setting.Setting.{Setting}
use Rattle.fp_adaptor.specs.Adaptor.{Led}
use Rattle.fp_adaptor.specs.History.{Event}
use Rattle.fp_network.specs.Counting.{CountsActive}
use Rattle.fp_network.specs.Node.{Grows, Keeps, WaitsOn, connection_in}
use Rattle.fp_network.specs.Receiving.{reader_of}
use Rattle.fp_network.proofs.Hearing.{Heard}
use Rattle.fp_network.proofs.node.Node.received.Given as goal

-- messages were taken, what waits for the link grew by whole frames, and what waits for connections stays
abbrev pub invariant-loop-message : goal.invariant-loop-message
invariant-loop-message l = record {
  so : (setting : Setting) (history : List Event) → Led l.fn.self.adaptor setting history
      → Heard l.place l.octets setting history l.fn.self l.self;
  grows : Grows l.fn.self.to_link l.self.to_link;
  rest : WaitsOn l.fn.self l.self;
  keeps : Keeps l.fn.self l.self;
  counted : CountsActive l.fn.self l.self;
}

abbrev pub decreases-loop-message : goal.decreases-loop-message
decreases-loop-message l = length (reader_of (connection_in l.self l.place))
