-- An identifier before the portions.
use Rattle.std.proofs.Common.{map, rules, sym}
use Rattle.fp_ber.specs.Tree.{more}
use Rattle.fp_q773.specs.Tid.{octets_of}
use Rattle.fp_q773.specs.View.{component_of, tree_in}
use Rattle.fp_q773.specs.Written.{originating_tree, portions_trees}
use Rattle.fp_ber.specs.Putting.{before_others, end_of_end}
use Rattle.fp_q773.proofs.Puts.{on_ok}
use Rattle.fp_q773.proofs.Sound.{begin_sound}
use Rattle.fp_q773.proofs.begin.Begin.write.Goals as goal

pub returns-clause-exact : goal.returns-clause-exact
returns-clause-exact c =
    let b = c.args.self.now in
    let rest = c.args.out.now in
    let first = originating_tree (octets_of b.originating) in
    let others = portions_trees (tree_in b.dialogue) (map component_of b.components.items) in
    let inside = rw c.as_slice.ensures.value at c.in_ok-write_portions.ensures.exact in
    c.put_constructed.ensures.ok (more first others) rest (before_others first others rest _ _ c.in_ok-write_transaction.ensures.exact inside) (sym c.len-behind.ensures.value)

pub returns-clause-found : goal.returns-clause-found
returns-clause-found c =
    let b = c.args.self.now in
    let all = rw c.as_slice.ensures.value at c.in_ok-write_portions.ensures.found in
    on_ok c.put_constructed.result _ (begin_sound _ c.write_transaction.ensures.size (tree_in b.dialogue) (map component_of b.components.items) c.requires.writable.0 all)

pub returns-clause-stays : goal.returns-clause-stays
returns-clause-stays c = search (rules, end_of_end)
