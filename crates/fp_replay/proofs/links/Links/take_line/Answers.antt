use Rattle.std.proofs.Common.{ap, ◌∙◌, subst}
use Rattle.fp_book.specs.declared.line.Line.TheVariants.{Head, Step}
use Rattle.fp_replay.specs.Format.{IsLine, text_of}
use Rattle.fp_replay.proofs.Retelling.{taken_text}
use Rattle.fp_replay.proofs.links.Links.take_line.Goals as goal

pub returns-in-Head : goal.returns-in-Head
returns-in-Head c =
    taken_text _ _ _ (Head c.in-Head.links c.in-Head.tag) _ _ _ c.texts_are_of_one_line.ensures (subst IsLine c.in-Head.is c.in-Ok.ensures.found.0)
    (c.in-Ok.ensures.found.1 ∙ ap text_of c.in-Head.is) (c.begin.ensures c.args.tables.now c.args.contexts.now)

pub returns-in-Step : goal.returns-in-Step
returns-in-Step c =
    taken_text _ _ _ (Step c.in-Step.link c.in-Step.step) _ _ _ c.texts_are_of_one_line.ensures (subst IsLine c.in-Step.is c.in-Ok.ensures.found.0)
    (c.in-Ok.ensures.found.1 ∙ ap text_of c.in-Step.is) c.make_again.ensures
