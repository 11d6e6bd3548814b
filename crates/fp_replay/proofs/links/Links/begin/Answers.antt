use Rattle.std.proofs.Common.{◌≡◌, length, refl, rules}
use Rattle.fp_replay.proofs.Retelling.{kept_head}
use Rattle.fp_replay.proofs.links.Links.begin.Goals as goal

pub returns : goal.returns
returns c = λ tables contexts lines kept is.
    let none : length c.args.self.now.runs.items ≡ 0 = search rules in
    kept_head tables contexts lines c.args.links c.args.tag c.args.self.now _ kept none is refl (c.in_ok-begin_all.ensures)
