-- What stood at the front of a text still stands there.
use Rattle.std.proofs.Common.{Err, Ok, Result, ◌≡◌, ℕ, ◌≤◌, List, ◌++◌, length, take, refl, sym, ap, ◌∙◌, arith, length-take}
use Rattle.std.specs.Prelude.{OnErr}
use Rattle.std.proofs.lemmas.List.{take_all, take_at, take-take}
use Rattle.fp_replay.specs.proof_only.Writing.{KeepsFront}

-- where nothing is put
pub kept_self : (old : List ℕ) → KeepsFront old old
kept_self old = take_all (length old) old (omega arith)

-- in two steps
kept_on : (old text new : List ℕ) → KeepsFront old text → KeepsFront text new → KeepsFront old new
kept_on old text new first second =
    let short : length old ≤ length text = omega (arith, ap length first, length-take (length old) text) in
    sym (take-take (length old) (length text) new short) ∙ ap (take (length old)) second ∙ first

-- where this is put
pub kept_by : (old text new more : List ℕ) → KeepsFront old text → new ≡ text ++ more → KeepsFront old new
kept_by old text new more kept is = kept_on old text new kept (rw is (take_at text more (length text) refl))

-- in a last step that may have failed
pub kept_at : {T E : Type 0} (r : Result T E) (old text new : List ℕ) → KeepsFront old text → OnErr r (KeepsFront text new) → OnErr r (KeepsFront old new)
kept_at (Ok x) old text new first second = tt
kept_at (Err e) old text new first second = kept_on old text new first second
