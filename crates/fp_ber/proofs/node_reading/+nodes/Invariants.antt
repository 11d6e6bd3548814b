-- The places that are used have the nodes of whole elements, behind those that were there. What is left gets shorter.
use Rattle.std.proofs.Common.{◌≡◌, ◌+◌, ◌*◌, ◌≤◌, length, take}
use Rattle.fp_ber.specs.Nodes.{PutsNodes}
use Rattle.fp_ber.proofs.node_reading.+nodes.Given as goal

abbrev pub decreases-node_at : goal.decreases-node_at
decreases-node_at l = 3 * l.depth

abbrev pub decreases-element_at : goal.decreases-element_at
decreases-element_at l = 3 * l.depth + 1

abbrev pub decreases-nodes_of : goal.decreases-nodes_of
decreases-nodes_of l = 3 * l.depth + 2

abbrev pub decreases-nodes_to_end : goal.decreases-nodes_to_end
decreases-nodes_to_end l = 3 * l.depth + 2

abbrev pub invariant-nodes_of-elements : goal.invariant-nodes_of-elements
invariant-nodes_of-elements l = record {
  same : length l.places ≡ length l.fn.places;
  from : l.fn.used ≤ l.next;
  fits : l.next ≤ length l.places;
  puts : PutsNodes l.depth l.contents (take l.fn.used l.fn.places) (take l.next l.places) l.rest;
}

abbrev pub decreases-nodes_of-elements : goal.decreases-nodes_of-elements
decreases-nodes_of-elements l = length l.rest

abbrev pub invariant-nodes_to_end-elements : goal.invariant-nodes_to_end-elements
invariant-nodes_to_end-elements l = record {
  same : length l.places ≡ length l.fn.places;
  from : l.fn.used ≤ l.next;
  fits : l.next ≤ length l.places;
  puts : PutsNodes l.depth l.octets (take l.fn.used l.fn.places) (take l.next l.places) l.rest;
}

abbrev pub decreases-nodes_to_end-elements : goal.decreases-nodes_to_end-elements
decreases-nodes_to_end-elements l = length l.rest
