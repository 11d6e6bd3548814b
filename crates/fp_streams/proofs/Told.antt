-- Lists of what happened, where they are told.
use Rattle.std.proofs.Common.{◌≡◌, List, [], ◌++◌, Option, Some, None, sym, ◌∙◌, ap, append_assoc, append-nil}
use Rattle.fp_streams.specs.Grows.{Grows}

-- nothing happened
pub told_none : {X : Type 0} (told : Option (List X)) → Grows told told []
told_none None = cc
told_none (Some list) = sym (append-nil list)

-- a list that isn't told any more isn't told later
untold : {X : Type 0} (list : List X) (later : Option (List X)) (more : List X) → later ≡ None → Grows (Some list) later more
untold list None more none = tt
untold list (Some all) more none = absurd (cc)

-- one thing after the other happened
pub told_more : {X : Type 0} (old new later : Option (List X)) (first second : List X) → Grows old new first → Grows new later second
    → Grows old later (first ++ second)
told_more None None later first second one other = other
told_more None (Some new) later first second one other = absurd (cc)
told_more (Some old) None later first second one other = untold old later (first ++ second) other
told_more (Some old) (Some new) None first second one other = tt
told_more (Some old) (Some new) (Some later) first second one other =
    other ∙ ap (λ l. l ++ second) one ∙ append_assoc old first second
