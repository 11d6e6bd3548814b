-- The active invocations of a dialogue, in the order of their start (ITU-T Q.774, 3.2): each has its invoke
-- identifier, the class of its operation and the moment at which it is due.
use Rattle.std.specs.Prelude.{ℤ, Bool, not, List, filter, find}
use Rattle.std.specs.declared.option.Option.{Option}
use Rattle.std.specs.List.{list_any}
use Rattle.std.specs.Option.{option_map}
use Rattle.std.specs.Ordering.{int_eq}
use Rattle.fp_q773.specs.declared.operation_class.OperationClass.{OperationClass}
use Rattle.fp_ism.specs.declared.invocation.Invocation.{Invocation}

-- whether the invocation has this identifier
abbrev pub has_identifier : ℤ → Invocation → Bool
has_identifier identifier invocation = int_eq invocation.identifier identifier

-- whether an invocation with this identifier is active
abbrev pub is_active : ℤ → List Invocation → Bool
is_active identifier active = list_any (has_identifier identifier) active

-- the class of the active invocation with this identifier, if any
abbrev pub class_of : ℤ → List Invocation → Option OperationClass
class_of identifier active = option_map (λ invocation. invocation.class) (find (has_identifier identifier) active)

-- the invocations except those with this identifier
abbrev pub without : ℤ → List Invocation → List Invocation
without identifier active = filter (λ invocation. not (has_identifier identifier invocation)) active
