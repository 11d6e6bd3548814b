use Rattle.std.proofs.Common.{Some}
use Rattle.fp_apdu.proofs.Requests.{IsAarq-with_version}
use Rattle.fp_apdu.proofs.aarq.read.Goals as goal

pub returns-in_ok-name-in-Some : goal.returns-in_ok-name-in-Some
returns-in_ok-name-in-Some c = (
  Some c.in-Some.version.now,
  IsAarq-with_version _ _ _ _ _ _ _ c.in_ok-members.ensures c.in_ok-split.ensures c.in-Some.ensures
      c.in_ok-offers_version_1-in-Some.ensures.0 c.in_ok-name-in-Some.ensures.0 c.in_ok-name-in-Some.ensures.1.1,
  c.in_ok-offers_version_1-in-Some.ensures.1,
)
