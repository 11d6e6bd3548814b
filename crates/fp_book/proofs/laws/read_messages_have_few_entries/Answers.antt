use Rattle.fp_book.proofs.Reading.{read_messages}
use Rattle.fp_book.proofs.laws.read_messages_have_few_entries.Goals as goal

pub returns : goal.returns
returns c = read_messages c.identifiers_are_those_of_the_message.ensures c.ids_are_one.ensures
