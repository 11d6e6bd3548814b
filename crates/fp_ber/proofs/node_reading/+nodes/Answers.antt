-- Each exit puts an element's nodes, or has a fault of one or full places, from what the calls gave.
use Rattle.std.proofs.Common.{◌≡◌, true, ◌∷◌, ◌++◌, length, length-take-le, refl, sym, ◌∙◌, arith, rules, tests}
use Rattle.std.proofs.lemmas.Result.{err_from_is_err_and}
use Rattle.fp_ber.specs.Faults.{ElementFault}
use Rattle.fp_ber.specs.Spelling.{BeginsLength}
use Rattle.fp_ber.proofs.Parts.{fault_of_extent}
use Rattle.fp_ber.proofs.Placed.{no_node_yet, one_more_node, node_primitive, node_definite, node_indefinite, behind_element, behind_tag}
use Rattle.fp_ber.proofs.Stopping.{stops_full, stops_contents, stops_open_contents, stops_inside, stops_open}
use Rattle.fp_ber.proofs.node_reading.+nodes.Goals as goal

pub node_at-returns-in_err-contents-clause-err : goal.node_at-returns-in_err-contents-clause-err
node_at-returns-in_err-contents-clause-err t c =
    let tag = c.in_ok-tag.tag in
    let p = err_from_is_err_and c.from_residual-in_err-contents.result c.from_residual-in_err-contents.ensures.1 in
    rw (p.1, p.2) (fault_of_extent c.args.depth c.args.octets.now c.in_ok-tag.after_tag.now tag.class tag.constructed tag.number _ (omega arith) c.in_ok-tag.ensures.ok c.in_err-contents.ensures.err)

pub node_at-returns-in_err-inside-in-Definite-clause-err : goal.node_at-returns-in_err-inside-in-Definite-clause-err
node_at-returns-in_err-inside-in-Definite-clause-err t c =
    let p = err_from_is_err_and c.from_residual-in_err-inside-in-Definite.result c.from_residual-in_err-inside-in-Definite.ensures.1 in
    let full = c.in_err-inside-in-Definite.ensures.err in
    rw (p.1, p.2) (stops_full (ElementFault c.args.depth c.args.octets.now) c.args.octets.now _ _ _ full.0 full.1 (omega (arith, behind_tag _ _ _ _ _ c.in_ok-tag.ensures.ok)))

pub node_at-returns-in_err-alone-in-Definite-clause-err : goal.node_at-returns-in_err-alone-in-Definite-clause-err
node_at-returns-in_err-alone-in-Definite-clause-err t c =
    let p = err_from_is_err_and c.from_residual-in_err-alone-in-Definite.result c.from_residual-in_err-alone-in-Definite.ensures.1 in
    let full = c.in_err-alone-in-Definite.ensures.err in
    rw (p.1, p.2) (stops_full (ElementFault c.args.depth c.args.octets.now) c.args.octets.now _ _ _ full.0 full.1 (omega (arith, behind_tag _ _ _ _ _ c.in_ok-tag.ensures.ok)))

pub node_at-returns-in_err-inside-in-Indefinite-clause-err : goal.node_at-returns-in_err-inside-in-Indefinite-clause-err
node_at-returns-in_err-inside-in-Indefinite-clause-err t c =
    let p = err_from_is_err_and c.from_residual-in_err-inside-in-Indefinite.result c.from_residual-in_err-inside-in-Indefinite.ensures.1 in
    let full = c.in_err-inside-in-Indefinite.ensures.err in
    rw (p.1, p.2) (stops_full (ElementFault c.args.depth c.args.octets.now) c.args.octets.now _ _ _ full.0 full.1 (omega (arith, behind_tag _ _ _ _ _ c.in_ok-tag.ensures.ok)))

pub node_at-returns-in_err-next-in-Definite-clause-err : goal.node_at-returns-in_err-next-in-Definite-clause-err
node_at-returns-in_err-next-in-Definite-clause-err t c =
    let tag = c.in_ok-tag.tag in
    let d = c.in-Definite in
    let put = c.in_ok-inside-in-Definite.ensures in
    let size : BeginsLength c.in_ok-tag.after_tag.now (length d.contents.now) (d.contents.now ++ d.rest.now) = rw d.is at c.in_ok-contents.ensures.ok in
    let p = err_from_is_err_and c.from_residual-in_err-next-in-Definite.result c.from_residual-in_err-next-in-Definite.ensures.1 in
    rw (p.1, p.2) (stops_contents c.args.depth c.args.octets.now c.in_ok-tag.after_tag.now d.contents.now d.rest.now tag.class tag.constructed tag.number _ _ _ _ _ (omega arith) c.if-tag.true c.in_ok-tag.ensures.ok size put.same put.next.0 c.in_err-next-in-Definite.ensures.err)

pub node_at-returns-in_err-placed-in-Indefinite-clause-err : goal.node_at-returns-in_err-placed-in-Indefinite-clause-err
node_at-returns-in_err-placed-in-Indefinite-clause-err t c =
    let tag = c.in_ok-tag.tag in
    let d = c.in-Indefinite in
    let put = c.in_ok-inside-in-Indefinite.ensures in
    let size : (tag.constructed ≡ true) × (c.in_ok-tag.after_tag.now ≡ 0x80 ∷ d.rest.now) = rw d.is at c.in_ok-contents.ensures.ok in
    let p = err_from_is_err_and c.from_residual-in_err-placed-in-Indefinite.result c.from_residual-in_err-placed-in-Indefinite.ensures.1 in
    rw (p.1, p.2) (stops_open_contents c.args.depth c.args.octets.now c.in_ok-tag.after_tag.now d.rest.now tag.class tag.constructed tag.number _ _ _ _ _ (omega arith) size.0 c.in_ok-tag.ensures.ok size.1 put.same put.next.0 c.in_err-placed-in-Indefinite.ensures.err)

pub node_at-returns-in_ok-next-in-Definite-clause-ok : goal.node_at-returns-in_ok-next-in-Definite-clause-ok
node_at-returns-in_ok-next-in-Definite-clause-ok t c =
    let tag = c.in_ok-tag.tag in
    let d = c.in-Definite in
    let size : BeginsLength c.in_ok-tag.after_tag.now (length d.contents.now) (d.contents.now ++ d.rest.now) = rw d.is at c.in_ok-contents.ensures.ok in
    node_definite c.args.depth c.args.octets.now c.in_ok-tag.after_tag.now d.contents.now d.rest.now tag.class tag.constructed tag.number _ _ _ _ _ _ (omega arith) c.if-tag.true c.in_ok-tag.ensures.ok size
    c.in_ok-inside-in-Definite.ensures.ok c.constructed.ensures c.in_ok-next-in-Definite.ensures.ok
    (sym (length-take-le c.args.used c.args.places.now c.requires)) c.close.ensures.closes

pub node_at-returns-in_ok-alone-in-Definite-clause-ok : goal.node_at-returns-in_ok-alone-in-Definite-clause-ok
node_at-returns-in_ok-alone-in-Definite-clause-ok t c =
    let tag = c.in_ok-tag.tag in
    let d = c.in-Definite in
    let size : BeginsLength c.in_ok-tag.after_tag.now (length d.contents.now) (d.contents.now ++ d.rest.now) = rw d.is at c.in_ok-contents.ensures.ok in
    node_primitive c.args.depth c.args.octets.now c.in_ok-tag.after_tag.now d.contents.now d.rest.now tag.class tag.constructed tag.number _ _ _ (omega arith) c.if-tag.false c.in_ok-tag.ensures.ok size
    c.in_ok-alone-in-Definite.ensures.ok refl

pub node_at-returns-in_ok-placed-in-Indefinite-clause-ok : goal.node_at-returns-in_ok-placed-in-Indefinite-clause-ok
node_at-returns-in_ok-placed-in-Indefinite-clause-ok t c =
    let tag = c.in_ok-tag.tag in
    let d = c.in-Indefinite in
    let size : (tag.constructed ≡ true) × (c.in_ok-tag.after_tag.now ≡ 0x80 ∷ d.rest.now) = rw d.is at c.in_ok-contents.ensures.ok in
    node_indefinite c.args.depth c.args.octets.now c.in_ok-tag.after_tag.now d.rest.now _ tag.class tag.constructed tag.number _ _ _ _ _ _ (omega arith) size.0 c.in_ok-tag.ensures.ok size.1
    c.in_ok-inside-in-Indefinite.ensures.ok c.constructed-in-Indefinite.ensures c.in_ok-placed-in-Indefinite.ensures.ok
    (sym (length-take-le c.args.used c.args.places.now c.requires)) c.close-in-Indefinite.ensures.closes

pub nodes_of-returns-in_err-placed-clause-err : goal.nodes_of-returns-in_err-placed-clause-err
nodes_of-returns-in_err-placed-clause-err t c =
    let so_far = c.elements.invariant in
    let p = err_from_is_err_and c.from_residual.result c.from_residual.ensures.1 in
    rw (p.1, p.2) (stops_inside _ _ c.elements.rest.now _ _ _ _ _ _ _ so_far.puts (length-take-le _ _ c.requires) (length-take-le _ _ so_far.fits) so_far.from so_far.fits so_far.same (search (rules, tests)) c.in_err-placed.ensures.err)

pub nodes_to_end-returns-in_err-placed-in_default-clause-err : goal.nodes_to_end-returns-in_err-placed-in_default-clause-err
nodes_to_end-returns-in_err-placed-in_default-clause-err t c =
    let so_far = c.elements.invariant in
    let p = err_from_is_err_and c.from_residual.result c.from_residual.ensures.1 in
    rw (p.1, p.2) (stops_open _ _ c.elements.rest.now _ _ _ _ _ _ _ so_far.puts (length-take-le _ _ c.requires) (length-take-le _ _ so_far.fits) so_far.from so_far.fits so_far.same (λ f h. search (rules, tests, h)) c.in_err-placed-in_default.ensures.err)

pub nodes_of-elements-init : goal.nodes_of-elements-init
nodes_of-elements-init t c = record {
  same = refl;
  from = omega arith;
  fits = c.requires;
  puts = no_node_yet _ _ _;
}

pub nodes_of-elements-smaller : goal.nodes_of-elements-smaller
nodes_of-elements-smaller t c = behind_element _ _ _ _ c.in_ok-placed.ensures.ok.begins

pub nodes_of-elements-preserved : goal.nodes_of-elements-preserved
nodes_of-elements-preserved t c =
    let one = c.in_ok-placed.ensures in
    let so_far = c.elements.invariant in record {
      same = one.same ∙ so_far.same;
      from = omega (arith, so_far.from, one.fits.0);
      fits = omega (arith, one.fits.1, one.same);
      puts = one_more_node _ _ _ _ _ _ _ so_far.puts one.ok;
    }

pub nodes_to_end-elements-init : goal.nodes_to_end-elements-init
nodes_to_end-elements-init t c = record {
  same = refl;
  from = omega arith;
  fits = c.requires;
  puts = no_node_yet _ _ _;
}

pub nodes_to_end-elements-smaller : goal.nodes_to_end-elements-smaller
nodes_to_end-elements-smaller t c = behind_element _ _ _ _ c.in_ok-placed-in_default.ensures.ok.begins

pub nodes_to_end-elements-preserved : goal.nodes_to_end-elements-preserved
nodes_to_end-elements-preserved t c =
    let one = c.in_ok-placed-in_default.ensures in
    let so_far = c.elements.invariant in record {
      same = one.same ∙ so_far.same;
      from = omega (arith, so_far.from, one.fits.0);
      fits = omega (arith, one.fits.1, one.same);
      puts = one_more_node _ _ _ _ _ _ _ so_far.puts one.ok;
    }
