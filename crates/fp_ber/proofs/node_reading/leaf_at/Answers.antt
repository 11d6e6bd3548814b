-- The tag and the length are the first two octets.
use Rattle.std.proofs.Common.{◌≡◌, ◌++◌, false, length, refl, sym, subst, arith}
use Rattle.std.proofs.lemmas.List.{take-append-drop}
use Rattle.fp_ber.specs.Spelling.{BeginsLength}
use Rattle.fp_ber.proofs.Octets.{behind, low_tag, short_length}
use Rattle.fp_ber.proofs.Placed.{leaf}
use Rattle.fp_ber.proofs.node_reading.leaf_at.Goals as goal

pub returns : goal.returns
returns c =
    let octets = c.args.octets.now in
    let after = behind 1 octets in
    let contents = c.split_at.result.0.now in
    let tag = low_tag octets c.class_of.result false c.from.result (omega arith) (omega (arith, c.class_of.ensures, c.from.ensures)) (omega (arith, c.from.ensures))
    (omega (arith, c.class_of.ensures, c.from.ensures)) in
    let size = short_length after (length contents) (omega arith) (omega (arith, c.from-size.ensures)) (omega (arith, c.split_at.ensures.front_len, c.from-size.ensures)) in
    let whole : contents ++ c.split_at.result.1.now ≡ behind 1 after = rw (c.split_at.ensures.front, c.split_at.ensures.back) (take-append-drop c.from-size.result (behind 1 after)) in
    leaf octets after contents c.split_at.result.1.now _ refl refl refl tag (subst (λ r. BeginsLength after (length contents) r) (sym whole) size)
