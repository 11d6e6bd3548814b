use Rattle.fp_timers.proofs.Names.{ap, len, sym, ◌∙◌}
use Rattle.fp_timers.proofs.Maps.{apart_in_order, len-map_of}
use Rattle.fp_timers.proofs.by_local.ByLocal.len.Goals as goal

pub returns-clause-count : goal.returns-clause-count
returns-clause-count c =
    c.len.ensures
    ∙ c.self.inside.timers.ok.0
    ∙ sym (len-map_of _ (apart_in_order _ c.self.invariant.in_order))
    ∙ ap len c.self.view_is
