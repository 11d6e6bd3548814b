-- Numbers of dialogues, added up.
use Rattle.std.proofs.Common.{◌≡◌, ℕ, ◌+◌, ◌≤◌, Option, Some, None, refl, arith}
use Rattle.std.specs.FinMap as fin
use Rattle.fp_book.proofs.Sums.{amount, sum-zero, sums-le, zero_of}
use Rattle.fp_book.specs.Totals.{sum_of}
use Rattle.fp_row.specs.declared.row.Row.{Row}
use Rattle.fp_ask.specs.Tied.{Rows}

-- nothing is added for any dialogue
amount_zero : (o : Option Row) → amount zero_of o ≡ 0
amount_zero None = refl
amount_zero (Some row) = refl

-- where each dialogue adds nothing, nothing is the sum
pub sum_zero_at : (f : Row → ℕ) (rows : Rows) → ((k : ℕ) (row : Row) → fin.get rows k ≡ Some row → f row ≡ 0) → sum_of f rows ≡ 0
sum_zero_at f rows none =
    let le : sum_of f rows + sum_of zero_of rows ≤ sum_of zero_of rows + sum_of zero_of rows =
    sums-le f zero_of zero_of zero_of rows rows (λ q h. h) (λ q row was. omega (arith, none q row was, amount_zero (fin.get rows q))) in
    omega (arith, le, sum-zero rows)
