-- Tests of a dialogue (own): the invocations of class 3 (ITU-T Q.771, 3.1.2.2: success alone is reported). ActivityTest
-- is the only operation of that class that is invoked.
use Rattle.std.specs.Prelude.{ℕ, Bool, true, false, ◌&&◌, List}
use Rattle.std.specs.List.{list_any}
use Rattle.fp_q773.specs.declared.operation_class.OperationClass.{OperationClass}
use Rattle.fp_q773.specs.declared.operation_class.OperationClass.TheVariants.{Class1, Class2, Class3, Class4}
use Rattle.fp_ism.specs.declared.invocation.Invocation.{Invocation}
use Rattle.fp_ism.specs.Due.{is_due}

abbrev pub is_class_3 : OperationClass → Bool
is_class_3 Class1 = false
is_class_3 Class2 = false
is_class_3 Class3 = true
is_class_3 Class4 = false

-- whether the invocation tests the dialogue
abbrev pub is_test : Invocation → Bool
is_test invocation = is_class_3 invocation.class

-- whether a test is active
abbrev pub is_testing : List Invocation → Bool
is_testing active = list_any is_test active

-- whether a test is due at this moment or before
abbrev pub is_test_due : ℕ → List Invocation → Bool
is_test_due moment active = list_any (λ invocation. is_test invocation && is_due moment invocation) active
