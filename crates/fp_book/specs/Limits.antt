-- The limits of a link.
use Rattle.std.specs.Prelude.{ℕ, ◌^◌}
-- how many dialogues may be held: each may have a deadline
pub use Rattle.fp_timers.specs.Limits.{most_deadlines as most_dialogues}

-- how many entries of a dialogue may be accepted and not yet served, those of the clock, of the peer's end and of its
-- abort not counted
abbrev pub most_unserved : ℕ
most_unserved = 64

-- how many elements the component portion of a message may hold
abbrev pub most_elements : ℕ
most_elements = 16

-- how many entries a link accepts before it takes no more
abbrev pub all_entries : ℕ
all_entries = 2 ^ 63

-- how many Aborts of the provider may wait
abbrev pub most_aborts_waiting : ℕ
most_aborts_waiting = 64

-- how many places for frames there are
abbrev pub most_places : ℕ
most_places = 8192

-- from how many places that are held on no message is taken
abbrev pub many_places : ℕ
many_places = 7168

-- how many lines of the log may wait; in the last place there is a gap alone
abbrev pub most_lines : ℕ
most_lines = 8192
