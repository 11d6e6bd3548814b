use Rattle.fp_timers.proofs.Names.{IsSearchInRange, Timer, answers_always, rules, subst}
use Rattle.fp_timers.proofs.Searches.{searched}
use Rattle.fp_timers.proofs.timers.place_of.Goals as goal

-- the closure gives a timer's identifier
pub returns : goal.returns
returns c =
    let facts = c.binary_search_by_key.ensures in
    let by_local = facts.position (λ (t : Timer). t.local) (answers_always _ _ _ (λ f a r g called. search rules)) in
    searched _ c.requires c.args.local _ (subst (IsSearchInRange c.binary_search_by_key.result) c.args.timers.now.ok.0 facts.bound) by_local
