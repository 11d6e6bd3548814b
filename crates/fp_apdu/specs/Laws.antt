-- What holds of all dialogue portions.
use Rattle.std.specs.Prelude.{◌≡◌, ℕ, List}
use Rattle.std.specs.declared.option.Option.{Option}
use Rattle.fp_ber.specs.Tree.{Tree}
use Rattle.fp_apdu.specs.declared.opening.Opening.{Opening}
use Rattle.fp_apdu.specs.Opening.{Opens}

-- a dialogue portion opens at most one thing
abbrev pub OpeningsAreOne : Type 0
OpeningsAreOne = (portion : Option Tree) (contexts : List (List ℕ)) (x y : Opening) → Opens portion contexts x → Opens portion contexts y → x ≡ y
