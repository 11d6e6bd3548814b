-- How many numbers pass a test, number by number.
use Rattle.std.proofs.Common.{◌≡◌, ℕ, ◌+◌, Bool, true, false, add-one, add-zero, sym, ap, ◌∙◌}
use Rattle.std.specs.Prelude.{if◌then◌else◌}
use Rattle.fp_lint.specs.Week.{count_below}

next-count : (test : ℕ → Bool) (n : ℕ) → count_below test (n + 1) ≡ count_below test n + (if test n then 1 else 0)
unfolding count_below
next-count test n = ap (count_below test) (add-one n)

-- one more passes
pub count-more : (test : ℕ → Bool) (n count : ℕ) (passes : Bool) → count ≡ count_below test n → passes ≡ test n → passes ≡ true → count + 1 ≡ count_below test (n + 1)
count-more test n count passes so_far is passing =
    let here : test n ≡ true = sym is ∙ passing in
    let next = rw here at (next-count test n) in
    ap (λ m. m + 1) so_far ∙ sym next

-- one more does not
pub count-same : (test : ℕ → Bool) (n count : ℕ) (passes : Bool) → count ≡ count_below test n → passes ≡ test n → passes ≡ false → count ≡ count_below test (n + 1)
count-same test n count passes so_far is failing =
    let here : test n ≡ false = sym is ∙ failing in
    let next = rw here at (next-count test n) in
    so_far ∙ sym (next ∙ add-zero (count_below test n))
