-- the names that all of them use
mod Names
-- EACH STEP: its answers, and what its book then is
mod Cases
-- THE TIE: a dialogue that a book holds has what the history tells of its birth
-- what a history tells of a dialogue, and of one that a book holds
mod HeldDialogues
-- which dialogues were opened, and what their identifiers name
mod OpenedDialogues
-- what a step owes to keep the tie
mod TieNext
-- which it does: a turn is taken, given or put back
mod TieAtTurns
-- a parcel is picked or sent; the link goes down
mod TieAtParcels
-- a message is discarded or refused, opens a dialogue, or is accepted by one
mod TieAtMessages
-- dialogues that are due are given a Clock
mod TieAtTicks
-- all of it, and the headline from it
mod TieKept
-- WHAT WAITS: frames and dialogues stand in the order that the history tells
-- the frames that wait, and their numbers
mod FramesInOrder
-- of which dialogues they are
mod HeldFrames
-- the dialogues that are ready, and what each call makes of their queue
mod QueueInOrder
-- what a step owes to keep both orders: turns, parcels, the end of the link
mod WaitingAtSteps
-- ticks
mod WaitingAtTicks
-- messages
mod WaitingAtMessages
-- all of it
mod WaitingKept
-- ANSWERS: each output is the one that the history tells
-- how many dialogues are such, by those that a book holds
mod SumsOverBirths
-- how many are held
mod HeldCount
-- which serials may be given then
mod FreeSerials
-- a message, by the rules of receipt
mod MessageAnswers
-- each step, by its cases
mod StepAnswers
-- TOKENS: those that a run keeps are those that its book handed out
mod TokensKept
-- and which identifier the dialogue of each has
mod TurnsOut
-- THE LOG
-- the line that is told of a step
mod LoggedLines
-- which a book logs
mod BookLog
-- the lines of a run so far, and what is kept to tell them
mod LogSoFar
-- what can be counted in retold lines
mod LogTotals
-- TOTALS
-- of outputs
mod OutputTotals
-- as sums over dialogues
mod DialogueTotals
-- RUNS
-- where a link is idle nothing is left to do
mod IdleDone
-- a step after a history, and a run so far
mod RunsSoFar
-- what is sent of equal dialogues
mod SentAlike
-- a step has one answer, and a run one history
mod OneAnswer
-- and has an answer
mod AnswersExist
-- identifiers come back late
mod ComeBack
