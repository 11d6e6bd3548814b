use Rattle.fp_ipa.proofs.Histories.{active_was_named}
use Rattle.fp_ipa.proofs.laws.active_connections_were_named.Goals as goal

pub returns : goal.returns
returns c = active_was_named
