use Rattle.fp_octets.proofs.Same.{arrays_tell}
use Rattle.fp_octets.proofs.octets.OctetsPartialEq.eq.Goals as goal

pub returns : goal.returns
returns g c =
    rw (c.same_places.ensures, ← c.self.view_is, ← c.other.view_is)
    (arrays_tell g.row.MOST c.self.inside.used c.other.inside.used c.self.inside.places c.other.inside.places c.self.invariant c.other.invariant)
