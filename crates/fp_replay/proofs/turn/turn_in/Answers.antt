use Rattle.std.proofs.Common.{decimal}
use Rattle.fp_replay.proofs.Cutting.{decimal_is_field}
use Rattle.fp_replay.proofs.turn.turn_in.Goals as goal

pub returns-in_default-clause-only : goal.returns-in_default-clause-only
returns-in_default-clause-only c = λ birth position b p e.
    c.in_default.ensures.only (decimal birth) (decimal position) (decimal_is_field birth b) e

pub returns-in_default-long_number_in-clause-only : goal.returns-in_default-long_number_in-clause-only
returns-in_default-long_number_in-clause-only c = λ birth position b p e.
    let parts = c.in-Some.ensures.only (decimal birth) (decimal position) (decimal_is_field birth b) e in
    cc (c.in_default-long_number_in.ensures.only birth b parts.0)

pub returns-in_default-long_number_in-2-clause-only : goal.returns-in_default-long_number_in-2-clause-only
returns-in_default-long_number_in-2-clause-only c = λ birth position b p e.
    let parts = c.in-Some.ensures.only (decimal birth) (decimal position) (decimal_is_field birth b) e in
    cc (c.in_default-long_number_in-2.ensures.only position p parts.1)

pub returns-clause-only : goal.returns-clause-only
returns-clause-only c = λ birth position b p e.
    let parts = c.in-Some.ensures.only (decimal birth) (decimal position) (decimal_is_field birth b) e in
    (cc (c.in-Some-long_number_in.ensures.only birth b parts.0), cc (c.in-Some-long_number_in-2.ensures.only position p parts.1))
