-- Why nodes aren't read: a fault of an element from one of what lies in it, and full places.
use Rattle.std.proofs.Common.{◌≡◌, ℕ, ◌+◌, ◌-◌, ◌*◌, ◌<◌, ◌≤◌, Bool, true, List, [], ◌∷◌, ◌++◌, length, get_or, take, length-append, refl, sym, ◌∙◌, ap, subst, arith, Result, Ok, Err, IfOk, IfErr}
use Rattle.fp_ber.specs.declared.element.Class.{Class}
use Rattle.fp_ber.specs.declared.fault.BerFault.{BerFault}
use Rattle.fp_ber.specs.declared.fault.NodesFault.{NodesFault}
use Rattle.fp_ber.specs.declared.fault.NodesFault.TheVariants.{Fault, Full}
use Rattle.fp_ber.specs.declared.node.Node.{Node}
use Rattle.fp_ber.specs.Canon.{canon, HasLengths}
use Rattle.fp_ber.specs.Faults.{ElementFault, InContents, InOpen, AtEnd, FirstFault}
use Rattle.fp_ber.specs.Nodes.{nodes_tree, root_in, PutsNode, PutsNodes}
use Rattle.fp_ber.specs.NodesFaults.{Stops, PlacesRead, PlacesRefuse}
use Rattle.fp_ber.specs.Spelling.{Spells, BeginsTag, BeginsLength}
use Rattle.fp_ber.specs.Tree.{Tree, InRange}
use Rattle.fp_ber.proofs.Canonical.{AreOctets-by_index, short_fits}
use Rattle.fp_ber.proofs.Exclusive.{spelled_no_fault, one_fault}
use Rattle.fp_ber.proofs.Heads.{root_back}
use Rattle.fp_ber.proofs.Parts.{fault_of_contents, fault_of_open, is_whole}
use Rattle.fp_ber.proofs.Placed.{behind_tag, behind_length, two_each_put}
use Rattle.fp_ber.proofs.Unique.{no_spelling_begins_another}

-- there was no place for a node, though there are octets
pub stops_full : (Faulty : BerFault → Type 0) (octets : List ℕ) (count used : ℕ) (fault : NodesFault) → fault ≡ Full → count ≡ used
    → 0 < length octets → Stops Faulty (2 * (count - used) < length octets) fault
stops_full Faulty octets count used fault is same some =
    subst (λ stop. Stops Faulty (2 * (count - used) < length octets) stop) (sym is) (omega arith)

-- in definite contents
pub stops_contents : (depth : ℕ) (octets after contents rest : List ℕ) (class : Class) (form : Bool) (number count within used next : ℕ) (fault : NodesFault)
    → 0 < depth → form ≡ true → BeginsTag octets class form number after → BeginsLength after (length contents) (contents ++ rest)
    → within ≡ count → next ≡ used + 1
    → Stops (InContents (depth - 1) (ElementFault (depth - 1)) contents) (2 * (within - next) < length contents) fault
    → Stops (ElementFault depth octets) (2 * (count - used) < length octets) fault
stops_contents depth octets after contents rest class form number count within used next (Fault f) deep is tag size same one stop =
    fault_of_contents depth octets after contents rest class form number f deep is tag size stop
stops_contents depth octets after contents rest class form number count within used next Full deep is tag size same one stop =
    let less : 2 * (within - next) < length contents = stop in
    omega (arith, less, behind_tag octets after class form number tag, behind_length after (contents ++ rest) (length contents) size, length-append contents rest)

-- before an end
pub stops_open_contents : (depth : ℕ) (octets after contents : List ℕ) (class : Class) (form : Bool) (number count within used next : ℕ) (fault : NodesFault)
    → 0 < depth → form ≡ true → BeginsTag octets class form number after → after ≡ 0x80 ∷ contents
    → within ≡ count → next ≡ used + 1
    → Stops (InOpen (depth - 1) (ElementFault (depth - 1)) contents) (2 * (within - next) < length contents) fault
    → Stops (ElementFault depth octets) (2 * (count - used) < length octets) fault
stops_open_contents depth octets after contents class form number count within used next (Fault f) deep is tag size same one stop =
    fault_of_open depth octets after contents class form number f deep is tag size stop
stops_open_contents depth octets after contents class form number count within used next Full deep is tag size same one stop =
    let less : 2 * (within - next) < length contents = stop in
    omega (arith, less, behind_tag octets after class form number tag, ap length size)

-- at the next element of definite contents
pub stops_inside : (depth : ℕ) (contents rest : List ℕ) (old new : List Node) (count within used next : ℕ) (fault : NodesFault)
    → PutsNodes depth contents old new rest → length old ≡ used → length new ≡ next → used ≤ next → next ≤ within → within ≡ count → 0 < length rest
    → Stops (ElementFault depth rest) (2 * (within - next) < length rest) fault
    → Stops (InContents depth (ElementFault depth) contents) (2 * (count - used) < length contents) fault
stops_inside depth contents rest old new count within used next (Fault f) all from to more fits same some stop = record {
  before = all.trees;
  rest = rest;
  whole = all.begin;
  goes_on = λ e. absurd (omega (arith, ap length e));
  faulty = stop;
}
stops_inside depth contents rest old new count within used next Full all from to more fits same some stop =
    let less : 2 * (within - next) < length rest = stop in omega (arith, less, two_each_put depth contents rest old new all)

-- at the next element before an end
pub stops_open : (depth : ℕ) (octets rest : List ℕ) (old new : List Node) (count within used next : ℕ) (fault : NodesFault)
    → PutsNodes depth octets old new rest → length old ≡ used → length new ≡ next → used ≤ next → next ≤ within → within ≡ count
    → ((f : BerFault) → ElementFault depth rest f → AtEnd (ElementFault depth) rest f)
    → Stops (ElementFault depth rest) (2 * (within - next) < length rest) fault
    → Stops (InOpen depth (ElementFault depth) octets) (2 * (count - used) < length octets) fault
stops_open depth octets rest old new count within used next (Fault f) all from to more fits same no_end stop = record {
  before = all.trees;
  rest = rest;
  whole = all.begin;
  faulty = no_end f stop;
}
stops_open depth octets rest old new count within used next Full all from to more fits same no_end stop =
    let less : 2 * (within - next) < length rest = stop in omega (arith, less, two_each_put depth octets rest old new all)

-- Whole texts

-- an element with nothing behind it is all of the octets, and its nodes are it
pub nodes_whole : (octets rest : List ℕ) (new : List Node) → PutsNode 16 octets [] new rest → length rest ≡ 0
    → Spells octets (nodes_tree new) × InRange (nodes_tree new)
nodes_whole octets rest new one empty =
    let is : nodes_tree new ≡ one.tree = ap root_in one.put ∙ root_back one.tree in
    subst (λ t. Spells octets t × InRange t) (sym is) (is_whole octets rest one.tree one.begins empty)

-- what is spelled and in range is read, unless the places are full
pub only_places : (r : Result ℕ NodesFault) (octets : List ℕ) (places : List Node) (A : Type 0)
    → IfOk r (λ used. Spells octets (nodes_tree (take used places)) × InRange (nodes_tree (take used places)))
    → IfErr r (Stops (FirstFault octets) A) → (t : Tree) → Spells octets t → InRange t → PlacesRead r places t
only_places (Ok used) octets places A found fault t h p =
    (no_spelling_begins_another octets octets [] [] (nodes_tree (take used places)) t found.0 h refl).1
only_places (Err (Fault f)) octets places A found fault t h p = absurd (spelled_no_fault octets t f h p.nested fault)
only_places (Err Full) octets places A found fault t h p = refl

-- the first fault is answered, unless the places are full before it
pub first_places : (r : Result ℕ NodesFault) (octets : List ℕ) (places : List Node) (A : Type 0)
    → IfOk r (λ used. Spells octets (nodes_tree (take used places)) × InRange (nodes_tree (take used places)))
    → IfErr r (Stops (FirstFault octets) A) → (g : BerFault) → FirstFault octets g → PlacesRefuse r g
first_places (Ok used) octets places A found fault g h = spelled_no_fault octets (nodes_tree (take used places)) g found.0 found.1.nested h
first_places (Err (Fault f)) octets places A found fault g h = one_fault octets f g fault h
first_places (Err Full) octets places A found fault g h = tt

-- what a short text spells can be written, in no more octets
pub fits_places : (r : Result ℕ NodesFault) (octets : List ℕ) (places : List Node) → ((k : ℕ) → get_or octets k 0 < 256)
    → IfOk r (λ used. Spells octets (nodes_tree (take used places)) × InRange (nodes_tree (take used places)))
    → IfOk r (λ used. length octets < 65536
    → HasLengths (nodes_tree (take used places)) × (length (canon (nodes_tree (take used places))) ≤ length octets))
fits_places (Ok used) octets places k found = λ p. short_fits (nodes_tree (take used places)) octets (AreOctets-by_index octets k) p found.0
fits_places (Err f) octets places k found = tt
