-- The first node with those below it, and the others.
use Rattle.std.proofs.Common.{◌∙◌, ap}
use Rattle.fp_ber.specs.Nodes.{heads_in, trees_in}
use Rattle.fp_ber.proofs.Heads.{first_of}
use Rattle.fp_ber.proofs.element_ref.split_nodes.Goals as goal

pub returns : goal.returns
returns c =
    ap (λ nodes. trees_in (heads_in nodes)) c.in-Some.ensures.cases.0
    ∙ rw (c.split_at.ensures.front, c.split_at.ensures.back) (first_of c.in-Some.node.now c.in-Some.others.now c.min.result c.min.ensures)
