-- The reason follows one identifier.
use Rattle.std.proofs.Common.{Some, option_map, arith}
use Rattle.fp_ber.specs.Canon.{canon_of_all}
use Rattle.fp_q773.specs.ProviderAbort.{cause_code}
use Rattle.fp_q773.specs.Value.{provider, user}
use Rattle.fp_q773.specs.Written.{destination_tree, reason_trees}
use Rattle.fp_counters.proofs.frame.counts_of_abort.Goals as goal

pub returns-clause-provider : goal.returns-clause-provider
returns-clause-provider c = λ destination cause bound is.
    c.counts_of_reason.ensures.provider cause (c.after_element-reason.ensures.is (destination_tree destination)
    (canon_of_all (reason_trees (Some (provider (cause_code cause))))) (omega arith) bound is)

pub returns-clause-user : goal.returns-clause-user
returns-clause-user c = λ destination dialogue writable bound is.
    c.counts_of_reason.ensures.user dialogue writable (c.after_element-reason.ensures.is (destination_tree destination)
    (canon_of_all (reason_trees (option_map user dialogue))) (omega arith) bound is)
