use Rattle.std.proofs.lemmas.Result.{err_from_is_err_and}
use Rattle.fp_replay.proofs.posting.posting_in.Goals as goal

pub returns-in_default-clause-only : goal.returns-in_default-clause-only
returns-in_default-clause-only c = λ moment message answer fits m s a. absurd (cc (c.in_default.ensures.only moment fits.in_time m))

pub returns-in_default-posted_in-clause-only : goal.returns-in_default-posted_in-clause-only
returns-in_default-posted_in-clause-only c = λ moment message answer fits m s a. absurd (cc (c.in_default-posted_in.ensures.only answer fits.numbers a))

pub returns-in_err-message-clause-only : goal.returns-in_err-message-clause-only
returns-in_err-message-clause-only c = λ moment message answer fits m s a.
    let out_of_memory = c.in_err-message.ensures.only message fits.size fits.octets s in
    let passed = err_from_is_err_and c.from_residual.result c.from_residual.ensures.1 in
    rw (passed.1, passed.2) out_of_memory

pub returns-clause-only : goal.returns-clause-only
returns-clause-only c = λ moment message answer fits m s a.
    let came = c.in-Some.ensures.only moment fits.in_time m in
    let became = c.in-Some-posted_in.ensures.only answer fits.numbers a in
    (cc came, c.in_ok-message.ensures.only message fits.size fits.octets s, cc became)
