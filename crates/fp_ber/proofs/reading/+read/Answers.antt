-- Each exit makes an element, or a fault of one, from what the calls gave.
use Rattle.std.proofs.Common.{◌≡◌, true, ◌∷◌, ◌++◌, length, arith}
use Rattle.std.proofs.lemmas.Result.{err_from_is_err_and}
use Rattle.fp_ber.specs.Spelling.{BeginsLength}
use Rattle.fp_ber.proofs.Parts.{forest_of-push, one_more, made_primitive, made_definite, made_indefinite, fault_of_extent, fault_of_contents, fault_of_open}
use Rattle.fp_ber.proofs.reading.+read.Goals as goal

pub element_at-returns-in_err-contents-clause-err : goal.element_at-returns-in_err-contents-clause-err
element_at-returns-in_err-contents-clause-err t c =
    let tag = c.in_ok-tag.tag in
    let p = err_from_is_err_and c.from_residual-in_err-contents.result c.from_residual-in_err-contents.ensures.1 in
    rw (p.1, p.2) (λ memory. fault_of_extent c.args.depth c.args.octets.now c.in_ok-tag.after_tag.now tag.class tag.constructed tag.number _ (omega arith) c.in_ok-tag.ensures.ok c.in_err-contents.ensures.err)

pub element_at-returns-in_err-children-in-Definite-clause-err : goal.element_at-returns-in_err-children-in-Definite-clause-err
element_at-returns-in_err-children-in-Definite-clause-err t c =
    let tag = c.in_ok-tag.tag in
    let d = c.in-Definite in
    let size : BeginsLength c.in_ok-tag.after_tag.now (length d.contents.now) (d.contents.now ++ d.rest.now) = rw d.is at c.in_ok-contents.ensures.ok in
    let p = err_from_is_err_and c.from_residual-in_err-children-in-Definite.result c.from_residual-in_err-children-in-Definite.ensures.1 in
    rw (p.1, p.2) (λ memory. fault_of_contents c.args.depth c.args.octets.now c.in_ok-tag.after_tag.now d.contents.now d.rest.now tag.class tag.constructed tag.number _ (omega arith) c.if-tag.true c.in_ok-tag.ensures.ok size (c.in_err-children-in-Definite.ensures.err memory))

pub element_at-returns-in_err-children-in-Indefinite-clause-err : goal.element_at-returns-in_err-children-in-Indefinite-clause-err
element_at-returns-in_err-children-in-Indefinite-clause-err t c =
    let tag = c.in_ok-tag.tag in
    let d = c.in-Indefinite in
    let size : (tag.constructed ≡ true) × (c.in_ok-tag.after_tag.now ≡ 0x80 ∷ d.rest.now) = rw d.is at c.in_ok-contents.ensures.ok in
    let p = err_from_is_err_and c.from_residual-in_err-children-in-Indefinite.result c.from_residual-in_err-children-in-Indefinite.ensures.1 in
    rw (p.1, p.2) (λ memory. fault_of_open c.args.depth c.args.octets.now c.in_ok-tag.after_tag.now d.rest.now tag.class tag.constructed tag.number _ (omega arith) size.0 c.in_ok-tag.ensures.ok size.1 (c.in_err-children-in-Indefinite.ensures.err memory))

pub element_at-returns-in_ok-octets-in-Definite-clause-ok : goal.element_at-returns-in_ok-octets-in-Definite-clause-ok
element_at-returns-in_ok-octets-in-Definite-clause-ok t c =
    let tag = c.in_ok-tag.tag in
    let d = c.in-Definite in
    let size : BeginsLength c.in_ok-tag.after_tag.now (length d.contents.now) (d.contents.now ++ d.rest.now) = rw d.is at c.in_ok-contents.ensures.ok in
    rw (c.primitive.ensures, c.in_ok-octets-in-Definite.ensures.items) (made_primitive c.args.depth c.args.octets.now c.in_ok-tag.after_tag.now d.contents.now d.rest.now tag.class tag.constructed tag.number (omega arith) c.if-tag.false c.in_ok-tag.ensures.ok size)

pub element_at-returns-in_ok-children-in-Definite-clause-ok : goal.element_at-returns-in_ok-children-in-Definite-clause-ok
element_at-returns-in_ok-children-in-Definite-clause-ok t c =
    let tag = c.in_ok-tag.tag in
    let d = c.in-Definite in
    let size : BeginsLength c.in_ok-tag.after_tag.now (length d.contents.now) (d.contents.now ++ d.rest.now) = rw d.is at c.in_ok-contents.ensures.ok in
    rw c.constructed.ensures (made_definite c.args.depth c.args.octets.now c.in_ok-tag.after_tag.now d.contents.now d.rest.now tag.class tag.constructed tag.number _ (omega arith) c.if-tag.true c.in_ok-tag.ensures.ok size c.in_ok-children-in-Definite.ensures.ok)

pub element_at-returns-in_ok-children-in-Indefinite-clause-ok : goal.element_at-returns-in_ok-children-in-Indefinite-clause-ok
element_at-returns-in_ok-children-in-Indefinite-clause-ok t c =
    let tag = c.in_ok-tag.tag in
    let d = c.in-Indefinite in
    let size : (tag.constructed ≡ true) × (c.in_ok-tag.after_tag.now ≡ 0x80 ∷ d.rest.now) = rw d.is at c.in_ok-contents.ensures.ok in
    rw c.constructed-in-Indefinite.ensures (made_indefinite c.args.depth c.args.octets.now c.in_ok-tag.after_tag.now d.rest.now _ tag.class tag.constructed tag.number _ (omega arith) size.0 c.in_ok-tag.ensures.ok size.1 c.in_ok-children-in-Indefinite.ensures.ok)

pub elements_of-children-preserved : goal.elements_of-children-preserved
elements_of-children-preserved t c =
    rw (c.in_ok-push.ensures.items, forest_of-push) (one_more _ _ c.children.rest.now _ _ _ c.children.invariant c.in_ok-child.ensures.ok)

pub elements_to_end-children-preserved : goal.elements_to_end-children-preserved
elements_to_end-children-preserved t c =
    rw (c.in_ok-push-in_default.ensures.items, forest_of-push) (one_more _ _ c.children.rest.now _ _ _ c.children.invariant c.in_ok-child-in_default.ensures.ok)
