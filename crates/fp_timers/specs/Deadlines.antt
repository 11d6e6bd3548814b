-- The deadlines of dialogues by local identifier, in milliseconds: a finite map.
use Rattle.std.specs.Prelude.{◌≡◌, ℕ, ◌<◌, ◌≤◌, ◌⊎◌, Option, Some, None, IsTrue, ⊤}
use Rattle.std.specs.Ordering.{nat_cmp}
use Rattle.std.specs.FinMap.{FinMap, get, contains_key, len}
use Rattle.fp_timers.specs.Limits.{most_deadlines}
use Rattle.fp_timers.specs.declared.timers.Timer.{Timer}

-- the identifier has a deadline, or fewer than `most_deadlines` have one
abbrev pub HasRoom : FinMap nat_cmp ℕ → ℕ → Type 0
HasRoom deadlines local = IsTrue (contains_key deadlines local) ⊎ (len deadlines < most_deadlines)

-- a deadline, and the identifier of the dialogue that has it
abbrev pub Due : Type 0
Due = ℕ × ℕ

-- the earlier deadline comes first, and the smaller identifier among equals
abbrev pub ComesFirst : Due → Due → Type 0
ComesFirst a b = (a.0 < b.0) ⊎ ((a.0 ≡ b.0) × (a.1 < b.1))

-- a deadline comes after another one, the last, in this order; each does, if there is no last
abbrev pub ComesAfter : Option Timer → Due → Type 0
ComesAfter None due = ⊤
ComesAfter (Some last) due = ComesFirst (last.deadline, last.local) due

-- the earliest of those that come after the last, if it is due at a moment, of the smaller identifier among equals
abbrev pub IsEarliestDueAfter : FinMap nat_cmp ℕ → Option Timer → ℕ → Option Timer → Type 0
-- none: each deadline that comes after the last is after the moment
IsEarliestDueAfter deadlines last moment None = (local deadline : ℕ) → get deadlines local ≡ Some deadline → ComesAfter last (deadline, local) → moment < deadline
-- an identifier and its deadline, which comes after the last and is at or before the moment; each other deadline that
-- comes after the last is later, or the same with no smaller identifier
IsEarliestDueAfter deadlines last moment (Some timer) =
    (get deadlines timer.local ≡ Some timer.deadline)
    × ComesAfter last (timer.deadline, timer.local)
    × (timer.deadline ≤ moment)
    × ((other later : ℕ) → get deadlines other ≡ Some later → ComesAfter last (later, other) → (timer.deadline < later) ⊎ ((timer.deadline ≡ later) × (timer.local ≤ other)))

-- the earliest of all that is due at a moment, of the smaller identifier among equals
abbrev pub IsEarliestDue : FinMap nat_cmp ℕ → ℕ → Option ℕ → Type 0
IsEarliestDue deadlines moment None = IsEarliestDueAfter deadlines None moment None
IsEarliestDue deadlines moment (Some local) = (deadline : ℕ) × IsEarliestDueAfter deadlines None moment (Some (record { local = local; deadline = deadline }))
