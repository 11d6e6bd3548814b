-- That `==` is true exactly if two values are the same.
use Rattle.std.specs.Prelude.{List, Bool, ◌&&◌, nat_eq, refl}
use Rattle.std.specs.Cmp.{IsEquivalence, IsPartialEquivalence, decided, partial_equiv_from_equiv}
use Rattle.std.specs.Cmp.Lexicographic.{pointwise}
use Rattle.fp_digits.specs.Exact.{IsExact, of_bare, of_both, of_integer, of_list, of_natural, of_struct}
use Rattle.fp_q773.specs.declared.operation_class.OperationClass.{OperationClass}
use Rattle.fp_q773.specs.contracts.operation_class.OperationClass as class
use Rattle.fp_q773.specs.contracts.operation_class.OperationClassPartialEq.TheImpl as of_class
use Rattle.fp_ism.specs.declared.invocation.Invocation.{Invocation}
use Rattle.fp_ism.specs.Invocations.{InvocationsValue}
use Rattle.fp_ism.specs.contracts.invocation.InvocationPartialEq.TheImpl as of_invocation

abbrev pub same_class : OperationClass → OperationClass → Bool
same_class = (of_class.ghosts).eq

exact_class : IsExact same_class
exact_class = of_bare class.enum tt

abbrev pub same_invocation : Invocation → Invocation → Bool
same_invocation = (of_invocation.ghosts).eq

exact_invocation : IsExact same_invocation
exact_invocation =
    of_struct
    (λ invocation. (invocation.identifier, (invocation.class, invocation.due)))
    (λ fields. record { identifier = fields.0; class = fields.1.0; due = fields.1.1 })
    (λ invocation. refl)
    (of_both of_integer (of_both exact_class of_natural))

-- the same lists of invocations
abbrev pub same_list : List Invocation → List Invocation → Bool
same_list = pointwise same_invocation

pub exact_list : IsExact same_list
exact_list = of_list exact_invocation

pub same_list_equiv : IsEquivalence same_list
same_list_equiv = decided same_list exact_list

pub same_list_per : IsPartialEquivalence same_list
same_list_per = partial_equiv_from_equiv same_list_equiv

-- the same active invocations, and the same identifier started last
abbrev pub same_invocations : InvocationsValue → InvocationsValue → Bool
same_invocations a b = nat_eq a.last_started b.last_started && same_list a.active b.active

pub exact_invocations : IsExact same_invocations
exact_invocations =
    of_struct (λ invocations. (invocations.last_started, invocations.active)) (λ fields. record { last_started = fields.0; active = fields.1 }) (λ invocations. refl)
    (of_both of_natural exact_list)

pub same_invocations_equiv : IsEquivalence same_invocations
same_invocations_equiv = decided same_invocations exact_invocations

pub same_invocations_per : IsPartialEquivalence same_invocations
same_invocations_per = partial_equiv_from_equiv same_invocations_equiv
