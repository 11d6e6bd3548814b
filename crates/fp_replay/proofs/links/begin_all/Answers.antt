use Rattle.fp_steps.specs.Places.{handed_in}
use Rattle.fp_replay.proofs.Retelling.{new_more}
use Rattle.fp_replay.proofs.links.begin_all.Goals as goal

pub loop-link-preserved : goal.loop-link-preserved
loop-link-preserved c =
    new_more _ _ _ _ c.in_ok-run.run' c.loop-link.invariant
    (λ tables contexts. record { link_is = c.in_ok-run.ensures.link; tag_is = c.in_ok-run.ensures.tag; after = c.in_ok-run.ensures.after (handed_in c.args.tag tables) contexts })
    c.in_default.ensures.items
