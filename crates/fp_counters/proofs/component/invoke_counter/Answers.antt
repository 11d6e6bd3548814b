-- Each operation has the counter of its code.
use Rattle.std.proofs.Common.{sym, ◌∙◌, arith}
use Rattle.fp_counters.proofs.Components.{code_at, is_connect, is_continue, is_release, is_report, is_some_operation, is_test}
use Rattle.fp_counters.proofs.component.invoke_counter.Goals as goal

pub returns-in-20 : goal.returns-in-20
returns-in-20 c = λ identifier instruction rest is.
    let code = code_at c.args.contents.now identifier instruction rest is in
    is_connect instruction (sym code ∙ (sym c.octet_at.ensures ∙ omega arith))

pub returns-in-22 : goal.returns-in-22
returns-in-22 c = λ identifier instruction rest is.
    let code = code_at c.args.contents.now identifier instruction rest is in
    is_release c.args.contents.now identifier instruction rest _ (λ cause octet. c.release_counter.ensures cause (c.octet_at-cause.ensures ∙ octet)) is
    (sym code ∙ (sym c.octet_at.ensures ∙ omega arith))

pub returns-in-23 : goal.returns-in-23
returns-in-23 c = λ identifier instruction rest is.
    let code = code_at c.args.contents.now identifier instruction rest is in
    is_report instruction (sym code ∙ (sym c.octet_at.ensures ∙ omega arith))

pub returns-in-31 : goal.returns-in-31
returns-in-31 c = λ identifier instruction rest is.
    let code = code_at c.args.contents.now identifier instruction rest is in
    is_continue instruction (sym code ∙ (sym c.octet_at.ensures ∙ omega arith))

pub returns-in-55 : goal.returns-in-55
returns-in-55 c = λ identifier instruction rest is.
    let code = code_at c.args.contents.now identifier instruction rest is in
    is_test instruction (sym code ∙ (sym c.octet_at.ensures ∙ omega arith))

pub returns-in_default : goal.returns-in_default
returns-in_default c = λ identifier instruction rest is.
    let code = code_at c.args.contents.now identifier instruction rest is in
    absurd (is_some_operation instruction c.octet_at.result (sym code ∙ sym c.octet_at.ensures) (omega arith) (omega arith) (omega arith) (omega arith) (omega arith))
