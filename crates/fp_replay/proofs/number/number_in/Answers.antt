use Rattle.std.proofs.Common.{◌≡◌, ◌<◌, ◌^◌, decimal, refl, sym, ap, subst, ◌∙◌, arith}
use Rattle.std.specs.Str.{IsUtf8}
use Rattle.std.proofs.lemmas.Bool.Decides.{Decides-eqb}
use Rattle.std.proofs.lemmas.Slice.Eq.{slice_eq-Decides}
use Rattle.std.proofs.lemmas.Fmt.{IsAscii-decimal, parse-decimal}
use Rattle.std.proofs.lemmas.Str.{IsUtf8-from_ascii}
use Rattle.fp_replay.proofs.number.number_in.Goals as goal
use Rattle.fp_replay.proofs.number.number_in.Goals.{then-number-most-via-then-number-most, then-number-most-via-else-number-most+then-ne}

pub returns-in_default-clause-only : goal.returns-in_default-clause-only
returns-in_default-clause-only c = λ n le e.
    absurd (c.in_default.ensures.cases.0 (subst IsUtf8 (sym e) (IsUtf8-from_ascii (decimal n) (IsAscii-decimal n (omega arith)))))

pub returns-in_default-parse-clause-only : goal.returns-in_default-parse-clause-only
returns-in_default-parse-clause-only c = λ n le e.
    let fits : n < 2 ^ 64 = omega arith in
    absurd (cc (parse-decimal 64 n _ _ fits fits (c.in-Ok.ensures.cases.0 ∙ e) c.parse.ensures.value.0))

pub returns-then-number-most-clause-only : goal.returns-then-number-most-clause-only
returns-then-number-most-clause-only c = λ n le e.
    let fits : n < 2 ^ 64 = omega arith in
    let read = parse-decimal 64 n _ _ fits fits (c.in-Ok.ensures.cases.0 ∙ e) c.parse.ensures.value.0 in
    let same : c.in-Ok-parse.number ≡ n = cc read in
    elim c.then-number-most.branch [
      | then-number-most-via-then-number-most w ↦ absurd (omega arith)
      | then-number-most-via-else-number-most+then-ne w ↦
          let text = w.format.ensures.text ∙ ap decimal same ∙ sym (c.in-Ok.ensures.cases.0 ∙ e) in
          let equal = (slice_eq-Decides Decides-eqb w.format.result.now c.in-Ok.digits.now _ refl).1 text in
          let bad = rw equal at w.if-ne.ensures in
          cc bad
    ]

pub returns-clause-only : goal.returns-clause-only
returns-clause-only c = λ n le e.
    let fits : n < 2 ^ 64 = omega arith in
    cc (parse-decimal 64 n _ _ fits fits (c.in-Ok.ensures.cases.0 ∙ e) c.parse.ensures.value.0)
