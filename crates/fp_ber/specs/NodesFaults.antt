-- What reading octets as nodes answers.
use Rattle.std.specs.Prelude.{◌≡◌, ℕ, List, take, Result, Ok, Err, ⊤}
use Rattle.fp_ber.specs.declared.fault.BerFault.{BerFault}
use Rattle.fp_ber.specs.declared.fault.NodesFault.{NodesFault}
use Rattle.fp_ber.specs.declared.fault.NodesFault.TheVariants.{Fault, Full}
use Rattle.fp_ber.specs.declared.node.Node.{Node}
use Rattle.fp_ber.specs.Nodes.{nodes_tree}
use Rattle.fp_ber.specs.Tree.{Tree}

-- a fault of this kind, or the places are full, and this is so
abbrev pub Stops : (BerFault → Type 0) → Type 0 → NodesFault → Type 0
Stops Faulty IsFull (Fault fault) = Faulty fault
Stops Faulty IsFull Full = IsFull

-- the answer is the nodes of this element, unless the places are full
abbrev pub PlacesRead : Result ℕ NodesFault → List Node → Tree → Type 0
PlacesRead (Ok used) places t = nodes_tree (take used places) ≡ t
PlacesRead (Err fault) places t = fault ≡ Full

-- the answer is this fault, unless the places are full
abbrev pub PlacesRefuse : Result ℕ NodesFault → BerFault → Type 0
PlacesRefuse (Ok used) fault = ⊥
PlacesRefuse (Err Full) fault = ⊤
PlacesRefuse (Err (Fault other)) fault = other ≡ fault
