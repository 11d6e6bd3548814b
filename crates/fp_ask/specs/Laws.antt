-- What holds of the lines of all inputs.
use Rattle.std.specs.Prelude.{◌≡◌, ℕ, List}
use Rattle.fp_records.specs.Table.{Contents}
use Rattle.fp_ask.specs.Lines.{Solo, State, Written}

-- good lines, one after another from one state, have one text, and lead to one state
abbrev pub LinesHaveOneText : Type 0
LinesHaveOneText = (contents : Contents) (contexts : List (List ℕ)) (state : State) (lines : List (List ℕ)) (x y : Written)
    → Solo contents contexts state lines x → Solo contents contexts state lines y → x ≡ y
