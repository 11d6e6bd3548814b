use Rattle.fp_book.proofs.Fresh.{kept-empty}
use Rattle.fp_book.proofs.book.Book.with_tag.Goals as goal

-- each part is empty
pub invariant_of-result : goal.invariant_of-result
invariant_of-result c =
    rw (c.in_ok-with_tag.ensures, c.new.ensures, c.in_ok-new.ensures, c.in_ok-new-2.ensures, c.in_ok-new-3.ensures, c.in_ok-new-4.ensures) (kept-empty c.serials_are_distinct.ensures.all c.args.link c.args.tag c.requires.links c.requires.tags)

pub returns-clause-sound : goal.returns-clause-sound
returns-clause-sound c = (invariant_of-result c).sound
