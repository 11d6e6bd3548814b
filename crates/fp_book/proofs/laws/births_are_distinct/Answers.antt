use Rattle.fp_book.proofs.laws.births_are_distinct.Goals as goal

-- the type of a book keeps it
pub returns : goal.returns
returns c = λ s k. k.births_apart
