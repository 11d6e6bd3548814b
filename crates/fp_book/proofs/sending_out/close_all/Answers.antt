use Rattle.fp_book.proofs.Names.{AreTimed, ClosesAt, ap, is_sent, subst, sym, ℕ, ◌∙◌}
use Rattle.std.specs.FinMap as map
use Rattle.fp_book.proofs.Closes.{all_untimed, sent_is}
use Rattle.fp_book.proofs.sending_out.close_all.Goals as goal

pub returns : goal.returns
returns c =
    let out = c.args.outbox.now.out in
    let all = λ (local : ℕ).
    subst (λ sends. ClosesAt sends (map.get c.args.rows.now local) (map.get c.close_all.new.self local))
    (ap (λ d. is_sent d local) c.sending.ensures ∙ sent_is out local) (c.close_all.ensures local)
    in
    record { closes = all; timed = subst (λ m. AreTimed m c.close_all.new.self) (sym c.clear_all.ensures) (all_untimed out c.args.rows.now c.close_all.new.self all) }
