-- How contracts see a book, and what its parts have in common.
use Rattle.std.specs.Prelude.{◌≡◌, ℕ, ◌-◌, Option}
use Rattle.std.specs.Option.{option_and_then}
use Rattle.std.specs.FinMap.{FinMap, get}
use Rattle.std.specs.Ordering.{nat_cmp}
use Rattle.fp_book.specs.declared.book.Book.TheInside.{Inside}
use Rattle.fp_book.specs.declared.totals.Totals.{Totals}
use Rattle.fp_book.specs.Shelf.{Shelf, Sound, turns_of}
use Rattle.fp_book.specs.Totals.{accepted_by, sent_by, served_by, sum_of}
use Rattle.fp_row.specs.declared.row.Row.{Row}
use Rattle.fp_row.specs.Row.{deadline_of}

-- what was counted of the dialogues that are no longer held: all but what those count that are
abbrev pub gone_of : Totals → FinMap nat_cmp Row → Totals
gone_of totals rows = record {
  accepted = totals.accepted - sum_of accepted_by rows;
  served = totals.served - sum_of served_by rows;
  sent = totals.sent - sum_of sent_by rows;
}

-- what contracts see
abbrev pub shelf_of : Inside → Shelf
shelf_of b = record {
  link = b.link;
  tag = b.tag;
  free = b.ids.queue;
  births = b.births;
  entries = b.entries;
  rows = b.rows;
  ready = b.ready;
  outbox = b.outbox;
  totals = b.totals;
  gone = gone_of b.totals b.rows;
  log = b.log;
  is_down = b.is_down;
}

-- the deadline of a dialogue, and none where there is no dialogue
abbrev pub deadline_at : Option Row → Option ℕ
deadline_at o = option_and_then deadline_of o

-- the deadlines are those of the dialogues
abbrev pub AreTimed : FinMap nat_cmp ℕ → FinMap nat_cmp Row → Type 0
AreTimed deadlines rows = (local : ℕ) → get deadlines local ≡ deadline_at (get rows local)

-- a link, and the tag of its run
abbrev pub link_with_tag : ℕ → ℕ → ℕ × ℕ
link_with_tag link tag = (link, tag)

-- what each book keeps
pub record IsKept (b : Inside) : Type 0 where
  pub sound : Sound (shelf_of b)
  -- its identifiers are those of its link and its tag
  pub links : link_with_tag b.ids.link b.ids.tag ≡ link_with_tag b.link b.tag
  pub turns : b.turns ≡ sum_of turns_of b.rows
  pub timed : AreTimed b.deadlines b.rows
