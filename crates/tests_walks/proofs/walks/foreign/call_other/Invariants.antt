use Rattle.tests_walks.proofs.walks.foreign.call_other.Given as goal

-- the three ledgers are those that the blanks open
abbrev pub ghosts-call_over-A-Ledger : goal.ghosts-call_over-A-Ledger
ghosts-call_over-A-Ledger g a = record { name = a.blanks.0.name; parts = a.blanks.0.parts }

abbrev pub ghosts-call_over-B-Ledger : goal.ghosts-call_over-B-Ledger
ghosts-call_over-B-Ledger g a = record { name = a.blanks.1.name; parts = a.blanks.1.parts }

abbrev pub ghosts-call_over-C-Ledger : goal.ghosts-call_over-C-Ledger
ghosts-call_over-C-Ledger g a = record { name = a.blanks.2.name; parts = a.blanks.2.parts }
