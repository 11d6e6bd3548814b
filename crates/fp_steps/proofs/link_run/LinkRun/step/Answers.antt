use Rattle.fp_steps.proofs.Names.{MakesStep, Shelf, Sound, [], subst, ◌≡◌}
use Rattle.fp_steps.specs.declared.stepped.Stepped.{Stepped}
use Rattle.fp_steps.proofs.LoggedLines.{line_from, rest_then}
use Rattle.fp_steps.proofs.RunsSoFar.{followed, followed_marks, followed_unwritten}
use Rattle.fp_steps.proofs.link_run.LinkRun.step.Goals as goal

pub returns : goal.returns
returns c =
    let made : Stepped = record { output = c.in_ok-output.output; line = c.told_from-line.result } in
    let sound : Sound c.args.self.now = subst Sound c.self.view_is c.self.invariant.sound in
    let empty = subst (λ (s : Shelf). s.log ≡ []) c.self.view_is c.self.invariant.log in
    let makes = subst (λ (s : Shelf). MakesStep c.args.tables.now c.args.contexts.now s c.args.step.now c.in_ok-output.output c.make-made.new.self.book) c.self.view_is c.in_ok-output.ensures.makes in
    let line = line_from c.make-made.new.self.book.log c.args.step.now c.in_ok-output.output c.take_line-first.ensures.first c.told_from-line.ensures in
    let dropped = rest_then c.make-made.new.self.book c.take_line-first.new.book c.empty_log.new.book c.take_line-first.ensures.rest c.empty_log.ensures.rest in
    let marks = followed_marks c.args.tables.now c.args.contexts.now c.args.step.now c.in_ok-output.output c.make-made.new.self.book c.empty_log.new.book sound makes dropped in
    record {
      link = marks.0;
      tag = marks.1;
      follows = λ h f. followed c.rows_keep_their_order.ensures c.args.step.now made c.empty_log.new.book sound empty c.make-made.ensures.sound makes line dropped f;
      unwritten = followed_unwritten c.args.tables.now c.args.contexts.now c.args.step.now made c.args.self.now c.make-made.new.self.book c.empty_log.new.book empty makes line dropped;
    }
