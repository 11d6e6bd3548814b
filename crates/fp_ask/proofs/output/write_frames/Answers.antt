use Rattle.std.proofs.Common.{◌≡◌, ◌+◌, true, drop, get_or, sym, ap, ◌∙◌, subst, add-one}
use Rattle.std.specs.Prelude.{OnErr, is_err, Result, Ok, Err}
use Rattle.std.proofs.Math.Seq.{drop-cons}
use Rattle.fp_streams.specs.Write.{AppendsFront}
use Rattle.fp_ask.specs.Line.{line_for}
use Rattle.fp_ask.proofs.Texts.{first_front, more_front}
use Rattle.fp_ask.proofs.output.write_frames.Goals as goal

-- what holds holds of an error,
always_err : {X E : Type 0} (r : Result X E) (Q : Type 0) → Q → OnErr r Q
always_err (Ok x) Q q = tt
always_err (Err e) Q q = q

-- and what holds of an error holds if there is one
from_err : {X E : Type 0} (r : Result X E) (Q : Type 0) → is_err r ≡ true → OnErr r Q → Q
from_err (Ok x) Q is q = absurd (cc)
from_err (Err e) Q is q = q

pub returns-in_err-text-clause-front : goal.returns-in_err-text-clause-front
returns-in_err-text-clause-front g c =
    always_err c.from_residual.result _ (first_front _ _ c.loop-frame.frame-index c.args.frames.now c.loop-frame.invariant.wrote)

pub returns-then-is_err-clause-front : goal.returns-then-is_err-clause-front
returns-then-is_err-clause-front g c =
    let frames = c.args.frames.now in
    let i = c.loop-frame.frame-index in
    let front = from_err c.write_all.result _ (sym c.is_err.ensures.value ∙ c.if-is_err.true) c.write_all.ensures.front in
    let text_is = c.as_bytes.ensures.value ∙ c.in_ok-text.ensures ∙ ap line_for c.frame-item.is in
    more_front _ _ _ i frames (get_or frames i c.frame-item.result) (drop (i + 1) frames) c.loop-frame.invariant.wrote
    (rw add-one (drop-cons frames i c.frame-item.result c.loop-frame-test.true))
    (subst (AppendsFront _ _) text_is front)
