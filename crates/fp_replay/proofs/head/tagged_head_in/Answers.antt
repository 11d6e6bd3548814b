use Rattle.std.proofs.Common.{decimal, arith}
use Rattle.fp_replay.proofs.Cutting.{decimal_is_field}
use Rattle.fp_replay.proofs.head.tagged_head_in.Goals as goal

pub returns-in_default-clause-only : goal.returns-in_default-clause-only
returns-in_default-clause-only c = λ links tag i j k l e.
    absurd (c.in_default.ensures.only (decimal links) (decimal tag) (decimal_is_field links (omega (arith, j))) e)

pub returns-in_default-link_count_in-clause-only : goal.returns-in_default-link_count_in-clause-only
returns-in_default-link_count_in-clause-only c = λ links tag i j k l e.
    let parts = c.in-Some.ensures.only (decimal links) (decimal tag) (decimal_is_field links (omega (arith, j))) e in
    absurd (cc (c.in_default-link_count_in.ensures.only links i j parts.0))

pub returns-in_default-positive_number_in-clause-only : goal.returns-in_default-positive_number_in-clause-only
returns-in_default-positive_number_in-clause-only c = λ links tag i j k l e.
    let parts = c.in-Some.ensures.only (decimal links) (decimal tag) (decimal_is_field links (omega (arith, j))) e in
    absurd (cc (c.in_default-positive_number_in.ensures.only tag k (omega (arith, l, c.from.ensures)) parts.1))

pub returns-clause-only : goal.returns-clause-only
returns-clause-only c = λ links tag i j k l e.
    let parts = c.in-Some.ensures.only (decimal links) (decimal tag) (decimal_is_field links (omega (arith, j))) e in
    cc (c.in-Some-link_count_in.ensures.only links i j parts.0, c.in-Some-positive_number_in.ensures.only tag k (omega (arith, l, c.from.ensures)) parts.1)
