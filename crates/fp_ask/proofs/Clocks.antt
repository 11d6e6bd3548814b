-- A Clock that ends a dialogue requests a message: it is aborted.
use Rattle.std.proofs.Common.{◌≡◌, ℕ, Bool, true, false, cond, Option, is_some, List, [], ◌∷◌, length, nat_le, ◌+◌, refl, sym, ◌∙◌}
use Rattle.std.proofs.lemmas.Bool.{false≢true}
use Rattle.fp_entry.specs.declared.entry.EntryKind.{EntryKind}
use Rattle.fp_entry.specs.Entries.{entry_at}
use Rattle.fp_service.specs.declared.dialogue.Core.{Core}
use Rattle.fp_service.specs.declared.instruction.Instruction.{Instruction}
use Rattle.fp_service.specs.declared.instruction.Instruction.TheVariants.{ActivityTest}
use Rattle.fp_service.specs.declared.request.Request.{Request}
use Rattle.fp_service.specs.declared.state.Stage.{Stage}
use Rattle.fp_service.specs.declared.state.Stage.TheVariants.{Fresh, Waiting}
use Rattle.fp_service.specs.declared.state.State.{State}
use Rattle.fp_service.specs.declared.state.State.TheVariants.{Live, Over}
use Rattle.fp_service.specs.Answer.{no_request, continue_with, abort_with, user_abort, instruct}
use Rattle.fp_service.specs.Clock.{on_clock, on_silence}
use Rattle.fp_service.specs.Dialogue.{is_over, quiet_until, test_moment}
use Rattle.fp_service.specs.Serve.{in_state, next, on_kind, request_of, serve}

-- a step that ends the dialogue requests a message
abbrev Says : Core × Option Request → Type 0
Says served = is_over served.0 ≡ true → is_some served.1 ≡ true

-- either of two
says_either : (test : Bool) (x y : Core × Option Request) → Says x → Says y → Says (cond test x y)
says_either true x y first second = first
says_either false x y first second = second

user_abort-says : (core : Core) → Says (user_abort core)
unfolding user_abort abort_with
user_abort-says core = λ over. refl

instruct-says : (core : Core) (moment : ℕ) (instructions : List Instruction) → Says (instruct core moment instructions)
unfolding instruct continue_with user_abort abort_with
instruct-says core moment instructions =
    says_either (nat_le (length core.invocations.active + length instructions) 8) _ _ (λ over. refl) (λ over. refl)

-- without a request the dialogue goes on
none-says : (core : Core) → is_over core ≡ false → Says (no_request core)
none-says core on over = absurd (false≢true (sym on ∙ over))

on_silence-says : (stage : Stage) (core : Core) (moment : ℕ) → is_over core ≡ false → Says (on_silence stage core moment)
unfolding on_silence
on_silence-says Fresh core moment on = none-says core on
on_silence-says (Waiting left) core moment on =
    says_either _ _ _ (none-says core on)
    (says_either (nat_le (test_moment core) moment) _ _ (instruct-says core moment (ActivityTest ∷ [])) (none-says core on))

on_clock-says : (stage : Stage) (core : Core) (moment : ℕ) → is_over core ≡ false → Says (on_clock stage core moment)
unfolding on_clock
on_clock-says stage core moment on =
    says_either _ _ _ (user_abort-says _) (says_either (nat_le (quiet_until core) moment) _ _ (user_abort-says _) (on_silence-says stage _ moment on))

in_state-says : (state : State) (core : Core) (moment : ℕ) → core.state ≡ state → is_over core ≡ false → Says (in_state state core (entry_at moment EntryKind.Clock))
unfolding on_kind
in_state-says Over core moment is on = none-says core on
in_state-says (Live stage) core moment is on = on_clock-says stage core moment on

pub clock_says : (core : Core) (moment : ℕ) → is_over core ≡ false → is_over (next core (entry_at moment EntryKind.Clock)) ≡ true → is_some (request_of core (entry_at moment EntryKind.Clock)) ≡ true
unfolding serve
clock_says core moment on over = in_state-says core.state core moment refl on over
