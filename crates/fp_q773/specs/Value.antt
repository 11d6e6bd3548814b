-- What messages and components of TCAP say (Q.773), without where it lies in memory.
use Rattle.std.specs.Prelude.{ℕ, ℤ, Bool, true, false, List, Option}
use Rattle.fp_ber.specs.Tree.{Tree}
use Rattle.fp_q773.specs.declared.problem.GeneralProblem.{GeneralProblem}

-- the code of an operation or of an error: a number, or the octets of an object identifier
pub data CodeValue : Type 0 where
  local : ℤ → CodeValue
  global : List ℕ → CodeValue

-- what is wrong with a component: the number of the problem's tag (0 general, 1 Invoke, 2 ReturnResult,
-- 3 ReturnError), and its value
pub data ProblemValue : Type 0 where
  tagged : ℕ → ℕ → ProblemValue

-- the number of a problem's tag
abbrev pub tag_of : ProblemValue → ℕ
tag_of (tagged tag value) = tag

-- the value of a problem
abbrev pub value_of : ProblemValue → ℕ
value_of (tagged tag value) = value

-- what an operation returns: its code, and perhaps a parameter
pub data ResultValue : Type 0 where
  returned : CodeValue → Option Tree → ResultValue

-- A component begins with its invoke identifier. An Invoke has perhaps a linked identifier, an operation and
-- perhaps a parameter; a ReturnResult perhaps what is returned; a ReturnError an error and perhaps a parameter; a
-- Reject, which may have no identifier, a problem. A faulty component has what a Reject of it has.
pub data ComponentValue : Type 0 where
  invoke : ℤ → Option ℤ → CodeValue → Option Tree → ComponentValue
  return_result_last : ℤ → Option ResultValue → ComponentValue
  return_error : ℤ → CodeValue → Option Tree → ComponentValue
  reject : Option ℤ → ProblemValue → ComponentValue
  return_result_not_last : ℤ → Option ResultValue → ComponentValue
  faulty : Option ℤ → GeneralProblem → ComponentValue

-- whether a component is a faulty one
abbrev pub is_faulty : ComponentValue → Bool
is_faulty (invoke identifier linked code parameter) = false
is_faulty (return_result_last identifier result) = false
is_faulty (return_error identifier code parameter) = false
is_faulty (reject identifier problem) = false
is_faulty (return_result_not_last identifier result) = false
is_faulty (faulty identifier problem) = true

-- why a dialogue was aborted: a cause of the provider, or the dialogue portion of the user
pub data ReasonValue : Type 0 where
  provider : ℕ → ReasonValue
  user : Tree → ReasonValue

-- Transaction identifiers, the originating one first; perhaps a dialogue portion; and components.
pub data MessageValue : Type 0 where
  unidirectional : MessageValue
  begin : List ℕ → Option Tree → List ComponentValue → MessageValue
  end : List ℕ → Option Tree → List ComponentValue → MessageValue
  continuing : List ℕ → List ℕ → Option Tree → List ComponentValue → MessageValue
  abort : List ℕ → Option ReasonValue → MessageValue
