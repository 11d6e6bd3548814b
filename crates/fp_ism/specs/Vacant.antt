-- The filler of a place without an invocation.
use Rattle.std.specs.Prelude.{pos}
use Rattle.fp_q773.specs.declared.operation_class.OperationClass.TheVariants.{Class1}
use Rattle.fp_ism.specs.declared.invocation.Invocation.{Invocation}

abbrev pub vacant : Invocation
vacant = record { identifier = pos 0; class = Class1; due = 0 }
