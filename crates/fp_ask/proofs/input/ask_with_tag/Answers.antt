use Rattle.fp_ask.proofs.Asking.{nothing_broken}
use Rattle.fp_ask.proofs.input.ask_with_tag.Goals as goal

pub returns-in_default-clause-stopped : goal.returns-in_default-clause-stopped
returns-in_default-clause-stopped g c = nothing_broken _ _ _ _ _
