-- Each message counts by its tag.
use Rattle.std.proofs.Common.{sym, ◌∙◌, arith}
use Rattle.fp_counters.proofs.Sent.{is_abort, is_continue, is_end, is_provider, is_some_message, tag_at}
use Rattle.fp_counters.proofs.frame.frame_counts.Goals as goal

pub returns-in-101-clause-request : goal.returns-in-101-clause-request
returns-in-101-clause-request c = λ request local peer tid bound is.
    is_continue c.args.frame.now c.after-message.result.now c.contents_of-contents.result.now _ request local peer c.after-message.ensures.is
    c.contents_of-contents.ensures.is c.contents_of-contents.ensures.most c.counts_of_continue.ensures tid bound is
    (sym (tag_at c.args.frame.now c.after-message.result.now request local peer c.after-message.ensures.is is) ∙ (sym c.octet_at.ensures ∙ omega arith))

pub returns-in-100-clause-request : goal.returns-in-100-clause-request
returns-in-100-clause-request c = λ request local peer tid bound is.
    is_end c.args.frame.now c.after-message.result.now c.contents_of-contents.result.now _ request local peer c.after-message.ensures.is
    c.contents_of-contents.ensures.is c.contents_of-contents.ensures.most c.counts_of_end.ensures tid bound is
    (sym (tag_at c.args.frame.now c.after-message.result.now request local peer c.after-message.ensures.is is) ∙ (sym c.octet_at.ensures ∙ omega arith))

pub returns-in-103-clause-request : goal.returns-in-103-clause-request
returns-in-103-clause-request c = λ request local peer tid bound is.
    is_abort c.args.frame.now c.after-message.result.now c.contents_of-contents.result.now _ request local peer c.after-message.ensures.is
    c.contents_of-contents.ensures.is c.contents_of-contents.ensures.most c.counts_of_abort.ensures.user bound is
    (sym (tag_at c.args.frame.now c.after-message.result.now request local peer c.after-message.ensures.is is) ∙ (sym c.octet_at.ensures ∙ omega arith))

pub returns-in-103-clause-abort : goal.returns-in-103-clause-abort
returns-in-103-clause-abort c = λ cause peer bound is.
    is_provider c.args.frame.now c.after-message.result.now c.contents_of-contents.result.now _ cause peer c.after-message.ensures.is
    c.contents_of-contents.ensures.is c.contents_of-contents.ensures.most c.counts_of_abort.ensures.provider bound is

pub returns-in_default-clause-request : goal.returns-in_default-clause-request
returns-in_default-clause-request c = λ request local peer tid bound is.
    absurd (is_some_message request c.octet_at.result
    (sym (tag_at c.args.frame.now c.after-message.result.now request local peer c.after-message.ensures.is is) ∙ sym c.octet_at.ensures)
    (omega arith) (omega arith) (omega arith))
