-- That `==` is true exactly if two cores are the same.
use Rattle.std.specs.Prelude.{Bool, refl}
use Rattle.fp_digits.specs.Exact.{IsExact, of_bool, of_both, of_enum, of_last, of_natural, of_none, of_option, of_struct}
use Rattle.fp_entry.specs.Same.{exact_opening}
use Rattle.fp_ism.specs.Same.{exact_invocations}
use Rattle.fp_records.specs.Same.{exact_destinations}
use Rattle.fp_service.specs.declared.dialogue.Core.{Core}
use Rattle.fp_service.specs.contracts.dialogue.CorePartialEq.TheImpl as of_core
use Rattle.fp_service.specs.contracts.state.Stage as stage
use Rattle.fp_service.specs.contracts.state.StagePartialEq.TheImpl as of_stage
use Rattle.fp_service.specs.contracts.state.State as state
use Rattle.fp_service.specs.contracts.state.StatePartialEq.TheImpl as of_state

pub exact_stage : IsExact (of_stage.ghosts).eq
exact_stage = of_enum stage.enum _ (of_none, (of_last (of_option exact_destinations), tt))

pub exact_state : IsExact (of_state.ghosts).eq
exact_state = of_enum state.enum _ (of_last exact_stage, (of_none, tt))

abbrev pub same_core : Core → Core → Bool
same_core = (of_core.ghosts).eq

pub exact_core : IsExact same_core
exact_core =
    of_struct
    (λ core. (core.state, (core.birth, (core.opening, (core.accepted, (core.invocations, core.last))))))
    (λ fields. record { state = fields.0; birth = fields.1.0; opening = fields.1.1.0; accepted = fields.1.1.1.0; invocations = fields.1.1.1.1.0; last = fields.1.1.1.1.1 })
    (λ core. refl)
    (of_both exact_state (of_both of_natural (of_both exact_opening (of_both of_bool (of_both exact_invocations of_natural)))))
