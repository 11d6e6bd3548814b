-- Octets that are put before others.
use Rattle.std.proofs.Common.{◌≡◌, ℕ, List, [], ◌++◌, Option, Some, None, ℤ, Result, Ok, Err, OnOk, refl, ◌∙◌, append_assoc}
use Rattle.std.proofs.lemmas.Result.{on_ok_weaker}
use Rattle.fp_ber.specs.Tree.{Tree, Trees, none, more}
use Rattle.fp_ber.specs.Canon.{canon, canon_of_all}
use Rattle.fp_ber.specs.Putting.{before_others}
use Rattle.fp_q773.specs.Value.{CodeValue}
use Rattle.fp_q773.specs.Writable.{only}
use Rattle.fp_q773.specs.Written.{code_tree, linked_tree, asked_trees}

-- what always holds
pub on_ok : {T E : Type 0} (r : Result T E) (P : Type 0) → P → OnOk r P
on_ok (Ok x) P p = p
on_ok (Err e) P p = tt

-- an element alone
pub one_put : {T E : Type 0} (r : Result T E) (new old : List ℕ) (t : Tree) → OnOk r (new ≡ canon t ++ old) → OnOk r (new ≡ canon_of_all (more t none) ++ old)
one_put r new old t is = on_ok_weaker r (λ (h : new ≡ canon t ++ old). before_others t none old old new h refl) is

-- an element before elements, once it is put
pub more_put_ok : {T E : Type 0} (r : Result T E) (new old rest : List ℕ) (t : Tree) (ts : Trees) → OnOk r (new ≡ canon t ++ old) → old ≡ canon_of_all ts ++ rest
    → OnOk r (new ≡ canon_of_all (more t ts) ++ rest)
more_put_ok r new old rest t ts h is = on_ok_weaker r (λ (k : new ≡ canon t ++ old). before_others t ts rest old new k is) h

-- two elements before elements
two_put : (new old rest : List ℕ) (s t : Tree) (ts : Trees) → new ≡ canon_of_all (more s (more t none)) ++ old → old ≡ canon_of_all ts ++ rest
    → new ≡ canon_of_all (more s (more t ts)) ++ rest
two_put new old rest s t ts h is = rw (h, is) (simp append_assoc)

-- perhaps a linked identifier and a code before perhaps a parameter
pub asked_put : (new old rest : List ℕ) (linked : Option ℤ) (code : CodeValue) (parameter : Option Tree) → new ≡ canon_of_all (asked_trees linked code None) ++ old
    → old ≡ canon_of_all (only parameter) ++ rest → new ≡ canon_of_all (asked_trees linked code parameter) ++ rest
asked_put new old rest None code parameter h is = before_others (code_tree code) (only parameter) rest old new (h ∙ append_assoc (canon (code_tree code)) [] old) is
asked_put new old rest (Some linked) code parameter h is = two_put new old rest (linked_tree linked) (code_tree code) (only parameter) h is
