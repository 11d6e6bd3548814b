use Rattle.fp_book.proofs.Names.{and_parts, is_ready, not, not-true, sym, ◌∙◌}
use Rattle.fp_book.proofs.Kept.{place_of_idle}
use Rattle.fp_book.proofs.ticking.clock_next.Goals as goal

-- the dialogue wasn't ready, so there is a place for it
pub join-requires : goal.join-requires
join-requires c is =
    let g = c.in-Ok.ensures.ok in
    let idle = not-true (is_ready g.before) (and_parts (not (is_ready g.before)) (is_ready g.after) (sym g.joins_is ∙ is)).0 in
    place_of_idle c.args.rows.now c.args.ready.now c.in-Some.timer.local g.before c.requires.ready_length c.requires.held g.was idle
