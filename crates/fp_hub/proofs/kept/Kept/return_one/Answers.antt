use Rattle.std.proofs.Common.{◌≡◌, sym, subst}
use Rattle.fp_hub.specs.Holds.{Returns, after_return, gave}
use Rattle.fp_hub.proofs.kept.Kept.return_one.Goals as goal

pub returns-in-Ok-clause-returns : goal.returns-in-Ok-clause-returns
returns-in-Ok-clause-returns g c = record {
  became = gave c.in-Ok.given;
  returns = subst (λ work. Returns c.args.self.now work (gave c.in-Ok.given) c.give.new.self) (sym c.in-Served.is) c.in-Ok.ensures.ok;
  grows = subst (λ work. c.give.new.seat ≡ after_return c.args.seat.now work (gave c.in-Ok.given)) (sym c.in-Served.is) c.in-Ok.ensures.grows;
  queued_is = c.is_queued.ensures;
}
