-- The contents of an element that was found in octets (X.690, 8.1.3).
use Rattle.std.specs.Prelude.{◌≡◌, ℕ, ℤ, List, [], ◌∷◌, None}
use Rattle.fp_ber.specs.Canon.{canon_of_all}
use Rattle.fp_ber.specs.Tree.{more}
use Rattle.fp_inap.specs.Operation.{code_of}
use Rattle.fp_q773.specs.Value.{local}
use Rattle.fp_q773.specs.Written.{asked_trees, identifier_tree}
use Rattle.fp_reply.specs.Reply.{argument_of}
use Rattle.fp_service.specs.Answer.{operation_of}
use Rattle.fp_service.specs.declared.component.Component.{Component}
use Rattle.fp_service.specs.declared.component.Component.TheVariants.{Invoke}
use Rattle.fp_service.specs.declared.instruction.Instruction.{Instruction}
use Rattle.fp_counters.specs.declared.octets.Contents.{Contents}

-- the contents have so many octets, and the octets that begin with them are these
pub record IsContents (contents : Contents) (n : ℕ) (rest : List ℕ) : Type 0 where
  pub length : contents.length ≡ n
  pub octets : contents.octets.now ≡ rest

-- these components are one Invoke, with these contents (Q.773, 4.2.2)
pub record IsOneInvoke (contents : List ℕ) (all : List Component) : Type 0 where
  pub identifier : ℤ
  pub instruction : Instruction
  pub only : all ≡ Invoke identifier instruction ∷ []
  pub encoded : contents ≡ canon_of_all (more (identifier_tree identifier)
      (asked_trees None (local (code_of (operation_of instruction))) (argument_of instruction)))
