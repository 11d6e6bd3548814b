-- What the end of a link counts, by its first reason.
use Rattle.fp_linkstate.specs.declared.why.Why.{Why}
use Rattle.fp_linkstate.specs.declared.why.Why.TheVariants as reasons
use Rattle.fp_counters.specs.declared.counter.Counter.{Counter}
use Rattle.fp_counters.specs.declared.counter.Counter.TheVariants as counters

abbrev pub end_counter : Why → Counter
end_counter reasons.PeerClosed = counters.EndPeerClosed
end_counter reasons.BadFrameLength = counters.EndBadFrameLength
end_counter reasons.ClosedInsideFrame = counters.EndInsideFrame
end_counter reasons.ReadFault = counters.EndReadFault
end_counter reasons.WriteFault = counters.EndWriteFault
end_counter reasons.Memory = counters.EndMemory
end_counter reasons.Entries = counters.EndEntries
end_counter reasons.LogFault = counters.EndLogFault
end_counter reasons.PeerGone = counters.EndPeerGone
end_counter reasons.RunFault = counters.EndRunFault
end_counter reasons.Limit = counters.EndLimit
end_counter reasons.Quit = counters.EndQuit
