use Rattle.std.proofs.Common.{◌∙◌, ap, arith, length, subst, sym}
use Rattle.std.proofs.lemmas.Result.{err_from_is_err_and}
use Rattle.fp_replay.specs.Format.{IsLine}
use Rattle.fp_replay.proofs.Lines.{line_is_cut, line_told, step_has_text, step_line}
use Rattle.fp_replay.proofs.line.line_in.Goals as goal

pub returns-in_default-clause-only : goal.returns-in_default-clause-only
returns-in_default-clause-only c = λ line fits e.
    let cut = line_is_cut line fits in
    absurd (c.in_default.ensures.only cut.0 cut.1 cut.2 (e ∙ cut.3))

pub returns-in_default-number_in-clause-only : goal.returns-in_default-number_in-clause-only
returns-in_default-number_in-clause-only c = λ line fits e.
    let told = line_told c.args.text.now c.in-Some.first.now c.in-Some.behind.now line fits e c.in-Some.ensures.only (λ same. cc (c.if-is_text.ensures.1 same)) in
    let sized = subst IsLine told.2 fits in
    absurd (cc (c.in_default-number_in.ensures.only told.0 (omega (arith, sized.0)) told.3))

pub returns-in_default-split_first-clause-only : goal.returns-in_default-split_first-clause-only
returns-in_default-split_first-clause-only c = λ line fits e.
    let told = line_told c.args.text.now c.in-Some.first.now c.in-Some.behind.now line fits e c.in-Some.ensures.only (λ same. cc (c.if-is_text.ensures.1 same)) in
    absurd (step_has_text told.1 (sym (ap length told.4) ∙ c.in_default-split_first.ensures.cases))

pub returns-in_err-step-clause-only : goal.returns-in_err-step-clause-only
returns-in_err-step-clause-only c = λ line fits e.
    let told = line_told c.args.text.now c.in-Some.first.now c.in-Some.behind.now line fits e c.in-Some.ensures.only (λ same. cc (c.if-is_text.ensures.1 same)) in
    let sized = subst IsLine told.2 fits in
    let passed = err_from_is_err_and c.from_residual.result c.from_residual.ensures.1 in
    let wanting = c.in_err-step.ensures.only told.1 sized.1 (sym c.in-Some-split_first.ensures.cases.0 ∙ told.4) in
    rw (passed.1, passed.2) wanting

pub returns-clause-found : goal.returns-clause-found
returns-clause-found c =
    let link = c.in-Some-number_in.ensures.found in
    let step = c.in_ok-step.ensures.found in
    let behind = c.in-Some-split_first.ensures.cases.0 ∙ step.1 in
    let text = rw (link.1, behind) at c.in-Some.ensures.found in
    ((omega (arith, link.0), step.0), text ∙ sym (step_line c.in-Some-number_in.link c.in_ok-step.step))

pub returns-clause-only : goal.returns-clause-only
returns-clause-only c = λ line fits e.
    let told = line_told c.args.text.now c.in-Some.first.now c.in-Some.behind.now line fits e c.in-Some.ensures.only (λ same. cc (c.if-is_text.ensures.1 same)) in
    let sized = subst IsLine told.2 fits in
    let link = c.in-Some-number_in.ensures.only told.0 (omega (arith, sized.0)) told.3 in
    let step = c.in_ok-step.ensures.only told.1 sized.1 (sym c.in-Some-split_first.ensures.cases.0 ∙ told.4) in
    cc (link, step, told.2)
