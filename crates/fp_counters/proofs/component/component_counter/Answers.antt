-- Each component has the counter of its tag.
use Rattle.std.proofs.Common.{sym, ◌∙◌, arith}
use Rattle.fp_counters.proofs.Components.{is_error, is_invoke, is_reject, is_some_component, tag_at}
use Rattle.fp_counters.proofs.component.component_counter.Goals as goal

pub returns-in-161-clause-some : goal.returns-in-161-clause-some
returns-in-161-clause-some c = λ component rest bound is.
    is_invoke c.args.octets.now c.contents_of-contents.result.now component rest _ c.contents_of-contents.ensures.is c.invoke_counter.ensures bound is
    (sym (tag_at c.args.octets.now component rest is) ∙ (sym c.octet_at.ensures ∙ omega arith))

pub returns-in-163-clause-some : goal.returns-in-163-clause-some
returns-in-163-clause-some c = λ component rest bound is.
    is_error c.args.octets.now c.contents_of-contents.result.now component rest _ c.contents_of-contents.ensures.is
    (λ e code. c.error_counter.ensures e (c.octet_at-code.ensures ∙ code)) bound is
    (sym (tag_at c.args.octets.now component rest is) ∙ (sym c.octet_at.ensures ∙ omega arith))

pub returns-in-164-clause-some : goal.returns-in-164-clause-some
returns-in-164-clause-some c = λ component rest bound is.
    is_reject c.args.octets.now c.contents_of-contents.result.now component rest _ c.contents_of-contents.ensures.is c.reject_counter.ensures
    c.contents_of-contents.ensures.most bound is
    (sym (tag_at c.args.octets.now component rest is) ∙ (sym c.octet_at.ensures ∙ omega arith))

pub returns-in_default-clause-some : goal.returns-in_default-clause-some
returns-in_default-clause-some c = λ component rest bound is.
    absurd (is_some_component component c.octet_at.result (sym (tag_at c.args.octets.now component rest is) ∙ sym c.octet_at.ensures)
    (omega arith) (omega arith) (omega arith))
