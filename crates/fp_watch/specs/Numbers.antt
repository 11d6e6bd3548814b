-- The numbers of a run, as a text, and the answers to the commands that ask for them.
use Rattle.std.specs.Prelude.{◌≡◌, ℕ, List, ◌++◌, codes}
use Rattle.fp_counters.specs.declared.counters.Counters.{Counters}
use Rattle.fp_metrics.specs.Number.{number_text}
use Rattle.fp_metrics.specs.Text.{metrics_text}
use Rattle.fp_metrics.specs.declared.text.RunNumbers.{RunNumbers}

-- the numbers of a run
abbrev pub TellsNumbers : List ℕ → Type 0
TellsNumbers text = (run : RunNumbers) × (text ≡ metrics_text run)

-- the answer to `counters`: the numbers, and a line that ends them
abbrev pub TellsOfCounters : List ℕ → Type 0
TellsOfCounters text = (numbers : List ℕ) × TellsNumbers numbers × (text ≡ numbers ++ codes "# EOF\n")

-- what is counted for a number
abbrev pub TellsNumber : List ℕ → Type 0
TellsNumber text = (digits : List ℕ) × (counters : Counters) × (text ≡ number_text digits counters)

-- the answer to `counters NUMBER`: that, and the same line
abbrev pub TellsOfNumber : List ℕ → Type 0
TellsOfNumber text = (lines : List ℕ) × TellsNumber lines × (text ≡ lines ++ codes "# EOF\n")
