use Rattle.fp_steps.proofs.AnswersExist.{each_answered}
use Rattle.fp_steps.proofs.laws.every_step_has_an_answer.Goals as goal

pub returns : goal.returns
returns c = each_answered
