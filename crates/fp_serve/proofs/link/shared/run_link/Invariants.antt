use Rattle.fp_serve.proofs.link.shared.run_link.Given as goal

-- the ledgers of a link are those that its blanks open
abbrev pub ghosts-run-A-Ledger : goal.ghosts-run-A-Ledger
ghosts-run-A-Ledger g a = record { name = a.blanks.0.name; parts = a.blanks.0.parts }

abbrev pub ghosts-run-B-Ledger : goal.ghosts-run-B-Ledger
ghosts-run-B-Ledger g a = record { name = a.blanks.1.name; parts = a.blanks.1.parts }

abbrev pub ghosts-run-C-Ledger : goal.ghosts-run-C-Ledger
ghosts-run-C-Ledger g a = record { name = a.blanks.2.name; parts = a.blanks.2.parts }
