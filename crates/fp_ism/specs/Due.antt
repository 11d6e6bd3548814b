-- When an invocation is due (ITU-T Q.774, 3.2: the invocation timer). Moments and time limits are milliseconds.
use Rattle.std.specs.Prelude.{ℕ, Bool, not, nat_le, List, [], ◌∷◌, filter, map, min, None, Some}
use Rattle.std.specs.declared.option.Option.{Option}
use Rattle.std.specs.Option.{option_map_or}
use Rattle.fp_q773.specs.declared.operation_class.OperationClass.{OperationClass}
use Rattle.fp_q773.specs.declared.operation_class.OperationClass.TheVariants.{Class1, Class2, Class3, Class4}
use Rattle.fp_ism.specs.declared.invocation.Invocation.{Invocation}

-- the time limit of an invocation of an operation of this class
abbrev pub time_limit : OperationClass → ℕ
time_limit Class1 = 10000
time_limit Class2 = 10000
time_limit Class3 = 10000
time_limit Class4 = 5000

-- whether it is due at this moment or before
abbrev pub is_due : ℕ → Invocation → Bool
is_due moment invocation = nat_le invocation.due moment

-- those that are due
abbrev pub those_due : ℕ → List Invocation → List Invocation
those_due moment active = filter (is_due moment) active

-- those that aren't due yet
abbrev pub those_left : ℕ → List Invocation → List Invocation
those_left moment active = filter (λ invocation. not (is_due moment invocation)) active

-- the moments at which they are due
abbrev pub dues : List Invocation → List ℕ
dues active = map (λ invocation. invocation.due) active

-- the least of these numbers, if there are any
abbrev pub least_of : List ℕ → Option ℕ
least_of [] = None
least_of (number ∷ numbers) = Some (option_map_or (min number) (least_of numbers) number)

-- the least of this number and these
abbrev pub least : ℕ → List ℕ → ℕ
least first numbers = option_map_or (min first) (least_of numbers) first
