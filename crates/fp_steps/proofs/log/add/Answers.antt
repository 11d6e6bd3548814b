use Rattle.fp_steps.proofs.Names.{All-from_recursion, All-push, AllByRecursion, HasPlace, IfSome, IsLineOf, Line, last_place, recursion_from_All, subst, sym}
use Rattle.fp_steps.proofs.log.add.Goals as goal

pub returns-clause-ranges : goal.returns-clause-ranges
returns-clause-ranges c = λ all.
    let P = IsLineOf c.args.tag in
    subst (AllByRecursion P) (sym c.in_ok-push.ensures.items)
    (recursion_from_All P _ (All-push P c.args.lines.now.items (Line.Step c.args.link c.in-Some.step) (All-from_recursion P c.args.lines.now.items all)
    ((c.requires.link, c.step_is_in_range.ensures), subst (λ o. IfSome o (HasPlace (last_place c.args.tag))) c.in-Some.is c.requires.place)))
