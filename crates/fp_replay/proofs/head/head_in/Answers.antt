use Rattle.std.proofs.Common.{sym, refl, ap, ◌∙◌, arith}
use Rattle.fp_replay.proofs.Letters.{first}
use Rattle.fp_replay.proofs.Lines.{head_only}
use Rattle.fp_replay.proofs.head.head_in.Goals as goal

pub returns-in_default-clause-only : goal.returns-in_default-clause-only
returns-in_default-clause-only c = head_only _ _ c.in_default.ensures.only (λ links i j none. absurd none) (λ links tag i j k l none. absurd none)

pub returns-then-is_text-clause-only : goal.returns-then-is_text-clause-only
returns-then-is_text-clause-only c = head_only _ _ c.in-Some.ensures.only
    (λ links i j parts. c.untagged_head_in.ensures.only links i j parts.1)
    (λ links tag i j k l parts. absurd (omega (arith, ap first (sym (c.if-is_text.ensures.0 refl) ∙ parts.0))))

pub returns-then-is_text-2-clause-only : goal.returns-then-is_text-2-clause-only
returns-then-is_text-2-clause-only c = head_only _ _ c.in-Some.ensures.only
    (λ links i j parts. absurd (omega (arith, ap first (sym (c.if-is_text-2.ensures.0 refl) ∙ parts.0))))
    (λ links tag i j k l parts. c.tagged_head_in.ensures.only links tag i j k l parts.1)

pub returns-clause-only : goal.returns-clause-only
returns-clause-only c = head_only _ _ c.in-Some.ensures.only
    (λ links i j parts. absurd (cc (c.if-is_text.ensures.1 parts.0)))
    (λ links tag i j k l parts. absurd (cc (c.if-is_text-2.ensures.1 parts.0)))
