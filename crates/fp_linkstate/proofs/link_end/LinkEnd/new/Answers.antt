use Rattle.fp_linkstate.proofs.Ends.{ends_in_time, ends_once, faults_end, has_its_time}
use Rattle.fp_linkstate.proofs.link_end.LinkEnd.new.Goals as goal

pub returns-clause-once : goal.returns-clause-once
returns-clause-once c = ends_once

pub returns-clause-in_time : goal.returns-clause-in_time
returns-clause-in_time c = ends_in_time

pub returns-clause-at_once : goal.returns-clause-at_once
returns-clause-at_once c = faults_end

pub returns-clause-no_sooner : goal.returns-clause-no_sooner
returns-clause-no_sooner c = has_its_time
