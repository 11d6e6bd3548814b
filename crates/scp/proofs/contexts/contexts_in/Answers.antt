use Rattle.std.proofs.Common.{arith, ap, length, map, ◌∙◌}
use Rattle.std.proofs.lemmas.List.{length-map}
use Rattle.scp.proofs.Listing.{few_pieces, finds, ok_weaker}
use Rattle.scp.proofs.contexts.contexts_in.Goals as goal

pub returns-then-len-gt-MOST : goal.returns-then-len-gt-MOST
returns-then-len-gt-MOST c = λ names list.
    let few = few_pieces c.args.text.now names list in
    let count = ap length c.in_ok-pieces.ensures in
    let same = length-map c.in_ok-pieces.pieces.items (λ piece. piece.now) in
    absurd (omega (arith, few, count, same))

pub returns : goal.returns
returns c =
    let pieces = ap (map (λ piece. piece.now)) c.as_slice.ensures.value ∙ c.in_ok-pieces.ensures in
    let same = length-map c.as_slice.result.now (λ piece. piece.now) in
    let count = ap length c.as_slice.ensures.value in
    ok_weaker c.names_of.result _ _ (λ names h. finds names (λ list. list.items) c.args.text.now _ pieces (omega (arith, same, count)) h) c.names_of.ensures
