-- What a message of the program says.
use Rattle.std.specs.Prelude.{Option, map, option_map}
use Rattle.fp_ber.specs.Tree.{Tree}
use Rattle.fp_ber.specs.Lent.{lent_tree}
use Rattle.fp_ber.specs.declared.element_ref.ElementRef.{ElementRef}
use Rattle.fp_q773.specs.declared.coded.Code.{Code}
use Rattle.fp_q773.specs.declared.coded.Code.TheVariants.{Local, Global}
use Rattle.fp_q773.specs.declared.coded.Coded.{Coded}
use Rattle.fp_q773.specs.declared.invoke.Invoke.{Invoke}
use Rattle.fp_q773.specs.declared.return_error.ReturnError.{ReturnError}
use Rattle.fp_q773.specs.declared.reject.Reject.{Reject}
use Rattle.fp_q773.specs.declared.component.Component.{Component}
use Rattle.fp_q773.specs.declared.component.Component.TheVariants as components
use Rattle.fp_q773.specs.declared.begin.Begin.{Begin}
use Rattle.fp_q773.specs.declared.end.End.{End}
use Rattle.fp_q773.specs.declared.continuing.Continue.{Continue}
use Rattle.fp_q773.specs.declared.abort.Abort.{Abort}
use Rattle.fp_q773.specs.declared.abort.AbortReason.{AbortReason}
use Rattle.fp_q773.specs.declared.abort.AbortReason.TheVariants as reasons
use Rattle.fp_q773.specs.declared.message.Message.{Message}
use Rattle.fp_q773.specs.declared.message.Message.TheVariants as messages
use Rattle.fp_q773.specs.Problem.{problem_of}
use Rattle.fp_q773.specs.Tid.{octets_of}
use Rattle.fp_q773.specs.Value.{CodeValue, ResultValue, ComponentValue, ReasonValue, MessageValue, local, global, returned, invoke, return_result_last, return_error, reject, return_result_not_last, faulty, provider, user, unidirectional, begin, end, continuing, abort}

-- an element that may be there
abbrev pub tree_in : Option ElementRef → Option Tree
tree_in = option_map lent_tree

abbrev pub code_of : Code → CodeValue
code_of (Local number) = local number
code_of (Global octets) = global octets.now

abbrev pub result_of : Coded → ResultValue
result_of c = returned (code_of c.code) (tree_in c.parameter)

abbrev pub invoke_of : Invoke → ComponentValue
invoke_of i = invoke i.identifier i.linked (code_of i.code) (tree_in i.parameter)

abbrev pub return_error_of : ReturnError → ComponentValue
return_error_of e = return_error e.identifier (code_of e.code) (tree_in e.parameter)

abbrev pub reject_of : Reject → ComponentValue
reject_of r = reject r.identifier (problem_of r.problem)

abbrev pub component_of : Component → ComponentValue
component_of (components.Invoke i) = invoke_of i
component_of (components.ReturnResultLast r) = return_result_last r.identifier (option_map result_of r.result)
component_of (components.ReturnError e) = return_error_of e
component_of (components.Reject r) = reject_of r
component_of (components.ReturnResultNotLast r) = return_result_not_last r.identifier (option_map result_of r.result)
component_of (components.Faulty identifier problem) = faulty identifier problem

abbrev pub reason_of : AbortReason → ReasonValue
reason_of (reasons.Provider cause) = provider cause
reason_of (reasons.User dialogue) = user (lent_tree dialogue)

abbrev pub begin_of : Begin → MessageValue
begin_of b = begin (octets_of b.originating) (tree_in b.dialogue) (map component_of b.components.items)

abbrev pub end_of : End → MessageValue
end_of e = end (octets_of e.destination) (tree_in e.dialogue) (map component_of e.components.items)

abbrev pub continue_of : Continue → MessageValue
continue_of c = continuing (octets_of c.originating) (octets_of c.destination) (tree_in c.dialogue) (map component_of c.components.items)

abbrev pub abort_of : Abort → MessageValue
abort_of a = abort (octets_of a.destination) (option_map reason_of a.reason)

abbrev pub message_value : Message → MessageValue
message_value messages.Unidirectional = unidirectional
message_value (messages.Begin b) = begin_of b
message_value (messages.End e) = end_of e
message_value (messages.Continue c) = continue_of c
message_value (messages.Abort a) = abort_of a
