-- An element at a place lies less deep than all of them, is in range with them, and has room where they have; and
-- the octets of a constructed element are those of its elements, with its tag and length in front.
use Rattle.std.proofs.Common.{◌≡◌, ◌≤◌, ◌+◌, ◌-◌, length, drop, get_or, sym, subst, rules, arith}
use Rattle.fp_ber.specs.declared.element.Element.{the_lemmas}
use Rattle.fp_ber.specs.Tree.{HasTags, constructed}
use Rattle.fp_ber.specs.View.{tree_of, forest_of}
use Rattle.fp_ber.specs.Canon.{HasLengths, canon, canon_of_all}
use Rattle.fp_ber.proofs.Forests.{tags_at, lengths_at, size_at}
use Rattle.fp_ber.proofs.Puts.{constructed_put}
use Rattle.fp_ber.proofs.writing.+write.Goals as goal

pub put_all-put_element-start-requires : goal.put_all-put_element-start-requires
put_all-put_element-start-requires t c =
    let elements = c.args.elements.now in
    let i = c.elements.index - 1 in
    let found = c.index-elements-index in
    let so_far = c.elements.invariant.so_far in
    let size : length (canon (tree_of (get_or elements i found.result))) + length (canon_of_all (forest_of (drop c.elements.index elements))) ≤ length (canon_of_all (forest_of elements))
    = size_at elements i c.elements.index found.result (omega arith) (omega arith) in (
      search (rules, the_lemmas),
      (
        subst (λ e. HasTags (tree_of e)) (sym found.is) (tags_at elements i found.result (omega arith) c.requires.tags),
        (
          subst (λ e. HasLengths (tree_of e)) (sym found.is) (lengths_at elements i found.result (omega arith) c.requires.lengths),
          (
            subst (λ e. length (canon (tree_of e)) ≤ c.elements.start) (sym found.is) (omega (arith, size, so_far.starts, c.requires.room)),
            omega (arith, so_far.starts, c.elements.auto.out, c.requires.end),
          ),
        ),
      ),
    )

pub put_element-returns-in-Constructed : goal.put_element-returns-in-Constructed
put_element-returns-in-Constructed t c =
    let e = c.args.element.now in
    let children = forest_of c.as_slice-in-Constructed.result.now in
    let is : tree_of e ≡ constructed e.class e.number children
    = rw (c.in-Constructed.is, c.as_slice-in-Constructed.ensures.value) (search (rules, the_lemmas)) in
    rw is (constructed_put e.class e.number children c.args.out.now c.put_all-start.new.out c.put_header-in-Constructed.new.out
    c.put_header-in-Constructed.result c.put_all-start.result c.args.end c.put_all-start.ensures c.put_header-in-Constructed.ensures c.requires.end)
