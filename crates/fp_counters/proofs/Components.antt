-- The counters of components, by their octets.
use Rattle.std.proofs.Common.{◌≡◌, ◌≢◌, ℕ, ◌+◌, ℤ, ◌<◌, ◌≤◌, List, ◌++◌, length, get_or, unsigned_abs, Option, Some, None, refl, ap, arith}
use Rattle.fp_ber.specs.declared.element.Class.TheVariants.{Context}
use Rattle.fp_ber.specs.Canon.{canon, canon_of_all}
use Rattle.fp_ber.specs.Tree.{Trees, more, number_of}
use Rattle.fp_digits.specs.Cause.{cause_value}
use Rattle.fp_digits.specs.declared.cause_value.Cause.{Cause}
use Rattle.fp_inap.specs.declared.operation_error.OperationError.{OperationError}
use Rattle.fp_inap.specs.declared.operation_error.OperationError.TheVariants as error
use Rattle.fp_inap.specs.Operation.{code_of}
use Rattle.fp_inap.specs.OperationError as errors
use Rattle.fp_q773.specs.declared.problem.Problem.{Problem}
use Rattle.fp_q773.specs.Problem.{problem_of}
use Rattle.fp_q773.specs.Value.{local}
use Rattle.fp_q773.specs.Written.{asked_trees, component_tree, identifier_tree, reject_trees, return_error_trees}
use Rattle.fp_reply.specs.Reply.{argument_of, component_value}
use Rattle.fp_service.specs.Answer.{operation_of}
use Rattle.fp_service.specs.declared.component.Component.{Component}
use Rattle.fp_service.specs.declared.component.Component.TheVariants.{Invoke, ReturnError, Reject}
use Rattle.fp_service.specs.declared.instruction.Instruction.{Instruction}
use Rattle.fp_service.specs.declared.instruction.Instruction.TheVariants as instructions
use Rattle.fp_counters.specs.declared.counter.Counter.{Counter}
use Rattle.fp_counters.specs.declared.counter.Counter.TheVariants as counters
use Rattle.fp_counters.specs.Frames.{component_counter, error_counter, instruction_counter, problem_counter, release_counter}
use Rattle.fp_counters.proofs.Elements.{ContentsOf}

-- the contents of an Invoke
abbrev pub invoke_trees : ℤ → Instruction → Trees
invoke_trees identifier instruction =
    more (identifier_tree identifier) (asked_trees None (local (code_of (operation_of instruction))) (argument_of instruction))

-- the code of its operation
abbrev pub code_in : Instruction → ℕ
code_in instruction = unsigned_abs (code_of (operation_of instruction))

-- the code is in the sixth octet
pub code_at : (contents : List ℕ) (identifier : ℤ) (instruction : Instruction) (rest : List ℕ)
    → contents ≡ canon_of_all (invoke_trees identifier instruction) ++ rest → get_or contents 5 0 ≡ code_in instruction
code_at contents identifier (instructions.Connect destination) rest is = ap (λ (o : List ℕ). get_or o 5 0) is
code_at contents identifier (instructions.ReleaseCall cause) rest is = ap (λ (o : List ℕ). get_or o 5 0) is
code_at contents identifier instructions.RequestReportBcsmEvent rest is = ap (λ (o : List ℕ). get_or o 5 0) is
code_at contents identifier instructions.Continue rest is = ap (λ (o : List ℕ). get_or o 5 0) is
code_at contents identifier instructions.ActivityTest rest is = ap (λ (o : List ℕ). get_or o 5 0) is

-- the counter of each operation, by its code
pub is_connect : (instruction : Instruction) → code_in instruction ≡ 20 → Some counters.Connect ≡ Some (instruction_counter instruction)
is_connect (instructions.Connect destination) is = refl
is_connect other is = absurd (omega arith)

pub is_report : (instruction : Instruction) → code_in instruction ≡ 23 → Some counters.RequestReport ≡ Some (instruction_counter instruction)
is_report instructions.RequestReportBcsmEvent is = refl
is_report other is = absurd (omega arith)

pub is_continue : (instruction : Instruction) → code_in instruction ≡ 31 → Some counters.ContinueOperation ≡ Some (instruction_counter instruction)
is_continue instructions.Continue is = refl
is_continue other is = absurd (omega arith)

pub is_test : (instruction : Instruction) → code_in instruction ≡ 55 → Some counters.ActivityTest ≡ Some (instruction_counter instruction)
is_test instructions.ActivityTest is = refl
is_test other is = absurd (omega arith)

pub is_release : (contents : List ℕ) (identifier : ℤ) (instruction : Instruction) (rest : List ℕ) (counter : Option Counter)
    → ((cause : Cause) → get_or contents 9 0 ≡ 0x80 + cause_value cause → counter ≡ Some (release_counter cause))
    → contents ≡ canon_of_all (invoke_trees identifier instruction) ++ rest → code_in instruction ≡ 22
    → counter ≡ Some (instruction_counter instruction)
is_release contents identifier (instructions.ReleaseCall cause) rest counter by_cause is code = by_cause cause (ap (λ (o : List ℕ). get_or o 9 0) is)
is_release contents identifier other rest counter by_cause is code = absurd (omega (arith, code))

pub is_some_operation : (instruction : Instruction) (code : ℕ) → code_in instruction ≡ code → code ≢ 20 → code ≢ 22 → code ≢ 23 → code ≢ 31 → code ≢ 55 → ⊥
is_some_operation (instructions.Connect destination) code is a b c d e = omega arith
is_some_operation (instructions.ReleaseCall cause) code is a b c d e = omega arith
is_some_operation instructions.RequestReportBcsmEvent code is a b c d e = omega arith
is_some_operation instructions.Continue code is a b c d e = omega arith
is_some_operation instructions.ActivityTest code is a b c d e = omega arith

-- the error is in the sixth octet
pub error_at : (contents : List ℕ) (identifier : ℤ) (e : OperationError) (rest : List ℕ)
    → contents ≡ canon_of_all (return_error_trees identifier (local (errors.code_of e)) None) ++ rest
    → get_or contents 5 0 ≡ unsigned_abs (errors.code_of e)
error_at contents identifier error.MissingCustomerRecord rest is = ap (λ (o : List ℕ). get_or o 5 0) is
error_at contents identifier error.MissingParameter rest is = ap (λ (o : List ℕ). get_or o 5 0) is
error_at contents identifier error.UnexpectedComponentSequence rest is = ap (λ (o : List ℕ). get_or o 5 0) is
error_at contents identifier error.UnexpectedDataValue rest is = ap (λ (o : List ℕ). get_or o 5 0) is

-- the tag of a component
abbrev pub tag_in : Component → ℕ
tag_in (Invoke identifier instruction) = 0xA1
tag_in (ReturnError identifier e) = 0xA3
tag_in (Reject identifier problem) = 0xA4

pub tag_at : (octets : List ℕ) (component : Component) (rest : List ℕ) → octets ≡ canon (component_tree (component_value component)) ++ rest
    → get_or octets 0 0 ≡ tag_in component
tag_at octets (Invoke identifier instruction) rest is = ap (λ (o : List ℕ). get_or o 0 0) is
tag_at octets (ReturnError identifier e) rest is = ap (λ (o : List ℕ). get_or o 0 0) is
tag_at octets (Reject identifier problem) rest is = ap (λ (o : List ℕ). get_or o 0 0) is

pub small_component : (component : Component) → number_of (component_tree (component_value component)) < 31
small_component (Invoke identifier instruction) = omega arith
small_component (ReturnError identifier e) = omega arith
small_component (Reject identifier problem) = omega arith

-- the counter of each component, by its tag
pub is_invoke : (octets contents : List ℕ) (component : Component) (rest : List ℕ) (counter : Option Counter) → ContentsOf octets contents
    → ((identifier : ℤ) (instruction : Instruction) (rest : List ℕ) → contents ≡ canon_of_all (invoke_trees identifier instruction) ++ rest
    → counter ≡ Some (instruction_counter instruction))
    → length octets < 65536 → octets ≡ canon (component_tree (component_value component)) ++ rest → tag_in component ≡ 0xA1
    → counter ≡ Some (component_counter component)
is_invoke octets contents (Invoke identifier instruction) rest counter found by_contents bound is tag =
    by_contents identifier instruction rest (found Context 1 (invoke_trees identifier instruction) rest (omega arith) bound is)
is_invoke octets contents other rest counter found by_contents bound is tag = absurd (omega (arith, tag))

pub is_error : (octets contents : List ℕ) (component : Component) (rest : List ℕ) (counter : Option Counter) → ContentsOf octets contents
    → ((e : OperationError) → get_or contents 5 0 ≡ unsigned_abs (errors.code_of e) → counter ≡ Some (error_counter e))
    → length octets < 65536 → octets ≡ canon (component_tree (component_value component)) ++ rest → tag_in component ≡ 0xA3
    → counter ≡ Some (component_counter component)
is_error octets contents (ReturnError identifier e) rest counter found by_code bound is tag =
    let inside = return_error_trees identifier (local (errors.code_of e)) None in
    by_code e (error_at contents identifier e rest (found Context 3 inside rest (omega arith) bound is))
is_error octets contents other rest counter found by_code bound is tag = absurd (omega (arith, tag))

pub is_reject : (octets contents : List ℕ) (component : Component) (rest : List ℕ) (counter : Counter) → ContentsOf octets contents
    → ((identifier : Option ℤ) (problem : Problem) (rest : List ℕ) → length contents < 65536
    → contents ≡ canon_of_all (reject_trees identifier (problem_of problem)) ++ rest → counter ≡ problem_counter problem)
    → length contents ≤ length octets → length octets < 65536 → octets ≡ canon (component_tree (component_value component)) ++ rest → tag_in component ≡ 0xA4
    → Some counter ≡ Some (component_counter component)
is_reject octets contents (Reject identifier problem) rest counter found by_contents most bound is tag =
    ap Some (by_contents identifier problem rest (omega arith) (found Context 4 (reject_trees identifier (problem_of problem)) rest (omega arith) bound is))
is_reject octets contents other rest counter found by_contents most bound is tag = absurd (omega (arith, tag))

pub is_some_component : (component : Component) (tag : ℕ) → tag_in component ≡ tag → tag ≢ 0xA1 → tag ≢ 0xA3 → tag ≢ 0xA4 → ⊥
is_some_component (Invoke identifier instruction) tag is a b c = omega arith
is_some_component (ReturnError identifier e) tag is a b c = omega arith
is_some_component (Reject identifier problem) tag is a b c = omega arith
