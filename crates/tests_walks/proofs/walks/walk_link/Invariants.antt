use Rattle.tests_walks.proofs.walks.walk_link.Given as goal

-- the three ledgers are those that the blanks open
abbrev pub ghosts-walk_over-A-Ledger : goal.ghosts-walk_over-A-Ledger
ghosts-walk_over-A-Ledger g a = record { name = a.blanks.0.name; parts = a.blanks.0.parts }

abbrev pub ghosts-walk_over-B-Ledger : goal.ghosts-walk_over-B-Ledger
ghosts-walk_over-B-Ledger g a = record { name = a.blanks.1.name; parts = a.blanks.1.parts }

abbrev pub ghosts-walk_over-C-Ledger : goal.ghosts-walk_over-C-Ledger
ghosts-walk_over-C-Ledger g a = record { name = a.blanks.2.name; parts = a.blanks.2.parts }
