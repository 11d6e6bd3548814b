-- The text of the peer of a link.
use Rattle.std.specs.Prelude.{ℕ, List}
use Rattle.std.specs.Net.Text.{socket_text}
use Rattle.fp_watch.specs.declared.peer.Peer.{Peer}
use Rattle.fp_watch.specs.declared.peer.Peer.TheVariants.{Client, Named}

-- the address of a client, or the name
abbrev pub peer_text : Peer → List ℕ
peer_text (Client address) = socket_text address
peer_text (Named name) = name.bytes
