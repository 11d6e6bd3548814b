use Rattle.std.proofs.Common.{ap, sym, ◌∙◌}
use Rattle.std.specs.Prelude.{option_map}
use Rattle.fp_steps.specs.Retold.{step_of}
use Rattle.fp_steps.specs.declared.step.Step.{Step}
use Rattle.fp_replay.proofs.logged.step_of.Goals as goal

pub returns-in_default : goal.returns-in_default
returns-in_default c = λ tables contexts h after.
    ap (option_map (λ local. Step.Give local)) (c.in_default.ensures tables contexts h after) ∙ ap (step_of h) (sym c.in-Give.is)

pub returns-in-Some : goal.returns-in-Some
returns-in-Some c = λ tables contexts h after.
    ap (option_map (λ local. Step.Give local)) (c.in-Some.ensures tables contexts h after) ∙ ap (step_of h) (sym c.in-Give.is)

pub returns-in_default-local_of : goal.returns-in_default-local_of
returns-in_default-local_of c = λ tables contexts h after.
    ap (option_map (λ local. Step.PutBack local)) (c.in_default-local_of.ensures tables contexts h after) ∙ ap (step_of h) (sym c.in-PutBack.is)

pub returns-in-Some-local_of : goal.returns-in-Some-local_of
returns-in-Some-local_of c = λ tables contexts h after.
    ap (option_map (λ local. Step.PutBack local)) (c.in-Some-local_of.ensures tables contexts h after) ∙ ap (step_of h) (sym c.in-PutBack.is)
