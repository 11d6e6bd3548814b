use Rattle.std.proofs.Common.{◌≡◌, sym, ◌∙◌, subst}
use Rattle.std.specs.Bool.{Decides}
use Rattle.std.specs.Cmp.Lexicographic.{pointwise}
use Rattle.fp_digits.specs.Exact.{of_list}
use Rattle.fp_entry.specs.Same.{same_entry}
use Rattle.fp_row.specs.Row.{entries_out}
use Rattle.fp_row.proofs.row.Row.are_out.Goals as goal

pub returns : goal.returns
returns c =
    let row = c.args.self.now in
    let test : c.eq.result ≡ pointwise same_entry (entries_out row) c.args.entries.now =
    c.eq.ensures ∙ (λ i. pointwise same_entry (c.entries_out.ensures i) (c.as_slice.ensures i)) in
    subst (λ b. Decides b (entries_out row ≡ c.args.entries.now)) (sym test) (of_list c.equal_entries_are_the_same.ensures (entries_out row) c.args.entries.now)
