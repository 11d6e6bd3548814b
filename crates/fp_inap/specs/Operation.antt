-- The operations of this project's profile, after INAP CS-1 of ITU-T Q.1218: their codes, which are local values, and
-- their classes (Q.771, 3.1.2.2).
use Rattle.std.specs.Prelude.{ℤ, pos}
use Rattle.fp_q773.specs.declared.operation_class.OperationClass.{OperationClass}
use Rattle.fp_q773.specs.declared.operation_class.OperationClass.TheVariants.{Class2, Class3, Class4}
use Rattle.fp_inap.specs.declared.operation.Operation.{Operation}
use Rattle.fp_inap.specs.declared.operation.Operation.TheVariants.{InitialDp, Connect, ReleaseCall, RequestReportBcsmEvent, EventReportBcsm, Continue, ActivityTest}

abbrev pub code_of : Operation → ℤ
code_of InitialDp = pos 0
code_of Connect = pos 20
code_of ReleaseCall = pos 22
code_of RequestReportBcsmEvent = pos 23
code_of EventReportBcsm = pos 24
code_of Continue = pos 31
code_of ActivityTest = pos 55

abbrev pub class_of : Operation → OperationClass
class_of InitialDp = Class2
class_of Connect = Class2
class_of ReleaseCall = Class4
class_of RequestReportBcsmEvent = Class2
class_of EventReportBcsm = Class4
class_of Continue = Class4
class_of ActivityTest = Class3
