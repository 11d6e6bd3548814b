-- How much log lines that wait for their text take: most of it is their messages.
use Rattle.std.specs.Prelude.{ℕ, ◌+◌, List, [], ◌∷◌, length}
use Rattle.fp_book.specs.declared.line.Line.{Line}
use Rattle.fp_book.specs.declared.line.Line.TheVariants.{Head, Step}
use Rattle.fp_book.specs.declared.line.LoggedStep.TheVariants.{Post, Lost}

-- the number of octets of a line's message, if it has one
abbrev pub message_len : Line → ℕ
message_len (Step link (Post table moment message answer)) = length message
message_len (Step link (Lost moment message answer)) = length message
message_len (Step link step) = 0
message_len (Head links tag) = 0

-- that of all messages
abbrev pub messages_len : List Line → ℕ
messages_len [] = 0
messages_len (line ∷ lines) = message_len line + messages_len lines
