-- What a Clock does, an entry that says that time has passed. Moments and time limits are milliseconds.
use Rattle.std.specs.Prelude.{ℕ, [], ◌∷◌, Option, nat_le, if◌then◌else◌}
use Rattle.fp_ism.specs.Invocations.{after_moment}
use Rattle.fp_ism.specs.Testing.{is_test_due, is_testing}
use Rattle.fp_service.specs.declared.dialogue.Core.{Core}
use Rattle.fp_service.specs.declared.instruction.Instruction.TheVariants.{ActivityTest}
use Rattle.fp_service.specs.declared.request.Request.{Request}
use Rattle.fp_service.specs.declared.state.Stage.{Stage}
use Rattle.fp_service.specs.declared.state.Stage.TheVariants.{Fresh, Waiting}
use Rattle.fp_service.specs.Answer.{instruct, no_request, user_abort}
use Rattle.fp_service.specs.Dialogue.{quiet_until, test_moment}

-- a call that waits is tested if no test is active and its peer has been quiet for long enough
unfoldable pub on_silence : Stage → Core → ℕ → Core × Option Request
on_silence Fresh core moment = no_request core
on_silence (Waiting left) core moment =
    if is_testing core.invocations.active then no_request core
    else if nat_le (test_moment core) moment then instruct core moment (ActivityTest ∷ [])
    else no_request core

-- The invocations that are due end. Then the first matching line applies: a test was not answered in time, the peer has
-- been quiet for too long, or the call may be tested.
unfoldable pub on_clock : Stage → Core → ℕ → Core × Option Request
on_clock stage core moment =
    let left = record core { invocations = after_moment moment core.invocations } in
    if is_test_due moment core.invocations.active then user_abort left
    else if nat_le (quiet_until core) moment then user_abort left
    else on_silence stage left moment
