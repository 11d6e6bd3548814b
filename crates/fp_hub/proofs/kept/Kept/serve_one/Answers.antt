use Rattle.fp_hub.proofs.kept.Kept.serve_one.Goals as goal

pub returns-in-Served-clause-ok : goal.returns-in-Served-clause-ok
returns-in-Served-clause-ok g c = record {
  step = (c.in-Served.count, c.in-Served.given);
  serves = c.in-Served.ensures.serves;
  grows = c.in-Served.ensures.grows;
  queued_is = c.is_queued.ensures;
}
