use Rattle.std.proofs.Common.{◌≡◌, ◌≤◌, ◌+◌, ◌-◌, ◌/◌, ℕ, List, ◌∷◌, length, get_or, set, sym, ap, ◌∙◌, arith}
use Rattle.std.specs.Result.{result_unwrap_or}
use Rattle.std.specs.Vec.{vec_len}
use Rattle.std.proofs.lemmas.List.{get_or-set_same, get_or-set_other, length-set, with_items_is}
use Rattle.std.proofs.lemmas.Result.{Ok-from_Ok_iff}
use Rattle.fp_page.specs.Spans.{Note, total_at}
use Rattle.fp_page.proofs.Counts.{Moved, noted, later}
use Rattle.fp_page.proofs.spans.Span.note.Goals as goal

pub returns-clause-shows : goal.returns-clause-shows
returns-clause-shows c notes shows next =
    let s = c.args.self.now in
    let with_note : List Note = record { time = c.args.time; total = c.args.total } ∷ notes in
    let passed : c.unwrap_or-passed.result ≡ c.max-period.result - s.period
    = c.unwrap_or-passed.ensures ∙ ap (λ r. result_unwrap_or r 18446744073709551615)
    (Ok-from_Ok_iff _ _ _ c.try_from.ensures (omega (arith, c.max-period.type_inv))) in
    let in_order : s.period ≤ c.args.time / s.width = omega (arith, shows.period, later s.width c.args.time notes s.has_width next) in
    let greatest : c.max-period.result ≡ c.args.time / s.width = omega (arith, c.max-period.ensures, in_order) in
    let at : c.args.time / s.width ≡ s.period + c.unwrap_or-passed.result = omega (arith, greatest, passed, in_order) in
    let found = rw c.as_mut_slice-totals.ensures.value at c.move_back.ensures.moved in
    let same : length c.move_back.new.totals ≡ vec_len s.totals
    = omega (arith, c.move_back.ensures.length, c.as_mut_slice-totals.ensures.len, s.totals.ok.0) in
    let moved : Moved s.width (vec_len s.totals) s.period c.unwrap_or-passed.result c.min-places.result notes s.totals.items
    c.move_back.new.totals (set c.move_back.new.totals 0 c.args.total) c.args.total
    = record {
      shown = shows.totals;
      moved = λ k below. found k (omega (arith, below, s.totals.ok.0));
      first = get_or-set_same _ 0 _ 0 (omega (arith, same, s.has_totals));
      others = λ k above. get_or-set_other _ 0 k _ 0 (λ e. omega arith);
      newest_is = sym shows.period;
      few = omega (arith, c.min-places.ensures);
      all = λ k within below. omega (arith, c.min-places.ensures, c.len.ensures);
    } in
    record {
      period = greatest;
      totals = λ k below.
          ap (λ (items : List ℕ). get_or items k 0)
          (with_items_is s.totals (set c.move_back.new.totals 0 c.args.total) (length-set c.move_back.new.totals 0 c.args.total ∙ same))
          ∙ noted s.width (vec_len s.totals) s.period c.unwrap_or-passed.result c.min-places.result c.args.time c.args.total notes
          s.totals.items c.move_back.new.totals (set c.move_back.new.totals 0 c.args.total) moved at k below
          ∙ ap (λ (p : ℕ). total_at s.width with_note (p + 1 - k)) (sym at ∙ sym greatest);
    }
