use Rattle.fp_hub.proofs.hub.Hub.post_front.Goals as goal

pub returns : goal.returns
returns g c = record { grows = c.post_front.ensures.posts.counts }
