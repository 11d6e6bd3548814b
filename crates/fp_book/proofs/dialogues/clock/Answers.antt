use Rattle.fp_book.proofs.Names.{Clocks, Some, ap, get, is_due, is_due_at, is_ready, not, refl, subst, sym, true, ◌&&◌, ◌∙◌, ◌≡◌}
use Rattle.fp_book.proofs.dialogues.clock.Goals as goal

-- the dialogue is due, so its Clock is taken
pub returns-clause-ok : goal.returns-clause-ok
returns-clause-ok c =
    let before = c.in-Some.row.now in
    let after = c.accept_clock.new.self in
    let was : get c.args.rows.now c.args.local ≡ Some before = sym c.in-Some.ensures.value in
    let due : is_due before c.args.moment ≡ true = ap (λ o. is_due_at o c.args.moment) (sym was) ∙ c.requires in
    let took = c.in_ok-accept_clock.ensures.ok in
    record {
      before = before;
      after = after;
      was = was;
      extends = subst (λ b. Clocks b before c.args.moment after) (took.0 ∙ due) took.1;
      joins_is = c.has_become_ready.ensures ∙ ap (λ b. not b && is_ready after) c.is_ready-was_ready.ensures;
      rows = refl;
    }
