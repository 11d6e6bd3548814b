use Rattle.fp_book.proofs.Names.{rules}
use Rattle.fp_book.proofs.rules.Facts.rule.Goals as goal

pub returns-in-Message : goal.returns-in-Message
returns-in-Message c = let of_it = c.of_message.ensures c.in-Message.arrival in search rules

pub returns-in-Refused : goal.returns-in-Refused
returns-in-Refused c = let of_it = c.of_refused.ensures c.args.self c.in-Refused.arrival c.in-Refused.fault in search rules

pub returns-in-Lost : goal.returns-in-Lost
returns-in-Lost c = let of_it = c.of_lost.ensures c.in-Lost.arrival in search rules
