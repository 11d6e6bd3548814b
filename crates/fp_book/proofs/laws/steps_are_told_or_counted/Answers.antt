use Rattle.fp_book.proofs.Names.{length, most_lines, nat_lt, ◌-◌}
use Rattle.fp_book.proofs.Accounts.{step_accounted, step_told}
use Rattle.fp_book.proofs.laws.steps_are_told_or_counted.Goals as goal

pub returns : goal.returns
returns c = record {
  counted = λ list step none few. step_accounted list step none few (nat_lt (length list) (most_lines - 1));
  told = λ list step none. step_told list step none (nat_lt (length list) (most_lines - 1));
}
