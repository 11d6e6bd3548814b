-- WHAT A RUN PROMISES

-- the tables that it has
pub mod Places
-- its history, and what that tells of each dialogue
pub mod History
pub mod Births
pub mod Accepted
pub mod Sending
pub mod Turns
pub mod Waiting
pub mod Serials
-- what each step is answered
pub mod Messages
pub mod Answers
-- what its log tells of each step
pub mod Told
pub mod LogLines
pub mod Retold
pub mod Counted
-- what holds of it, and of all runs
pub mod Totals
pub mod Idle
pub mod Headline
pub mod Laws
-- WHAT ONLY PROOFS NEED: `run`, `lines_of` and the laws, but for one, promise nothing in these words

-- what a run keeps, and what a step makes of its book (the law `books_log_what_is_told` speaks of this)
pub mod Makes
-- WHAT `LinkRun` HANDS ON FROM STEP TO STEP, and that law supposes: how a book stands to its history, and that it
-- does so
pub mod Tied
pub mod Lined
pub mod After
pub mod proof_only
