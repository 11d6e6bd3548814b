use Rattle.tests_hub.proofs.relays.link.relay.Given as goal

-- the three ledgers are those that the blanks open
abbrev pub ghosts-run_link-A-Ledger : goal.ghosts-run_link-A-Ledger
ghosts-run_link-A-Ledger g a = record { name = a.blanks.0.name; parts = a.blanks.0.parts }

abbrev pub ghosts-run_link-B-Ledger : goal.ghosts-run_link-B-Ledger
ghosts-run_link-B-Ledger g a = record { name = a.blanks.1.name; parts = a.blanks.1.parts }

abbrev pub ghosts-run_link-C-Ledger : goal.ghosts-run_link-C-Ledger
ghosts-run_link-C-Ledger g a = record { name = a.blanks.2.name; parts = a.blanks.2.parts }
