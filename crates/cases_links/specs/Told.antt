-- What whoever keeps a list tells of it.
use Rattle.std.specs.Prelude.{Bool, true, false, List, Option, Some, None, map}
use Rattle.fp_linkio.specs.Calls.{OutletCall, no_more, picked, sent, unsent}
use Rattle.cases_links.specs.declared.memory.Call.{Call}
use Rattle.cases_links.specs.declared.memory.Call.TheVariants as calls

-- a list is told as long as all of it is kept
abbrev pub told : {X : Type 0} → Bool → List X → Option (List X)
told true list = Some list
told false list = None

-- the call of an outlet that is kept
abbrev pub call_of : Call → OutletCall
call_of (calls.Picked local octets) = picked local octets.items
call_of calls.NoMore = no_more
call_of (calls.Sent local octets) = sent local octets.items
call_of (calls.Unsent local octets) = unsent local octets.items

-- the calls of an outlet that are kept
abbrev pub calls_of : List Call → List OutletCall
calls_of calls = map call_of calls
