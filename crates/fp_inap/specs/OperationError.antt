-- The errors of this project's profile, after INAP CS-1 of ITU-T Q.1218: their codes, which are local values.
use Rattle.std.specs.Prelude.{ℤ, pos}
use Rattle.fp_inap.specs.declared.operation_error.OperationError.{OperationError}
use Rattle.fp_inap.specs.declared.operation_error.OperationError.TheVariants.{MissingCustomerRecord, MissingParameter, UnexpectedComponentSequence, UnexpectedDataValue}

abbrev pub code_of : OperationError → ℤ
code_of MissingCustomerRecord = pos 6
code_of MissingParameter = pos 7
code_of UnexpectedComponentSequence = pos 14
code_of UnexpectedDataValue = pos 15
