-- The spans of a history: all of them show the same notes.
use Rattle.std.specs.Prelude.{List}
use Rattle.fp_page.specs.Spans.{Note, Shows}
use Rattle.fp_page.specs.declared.history.History.{History}
use Rattle.fp_page.specs.declared.spans.Span.{Span}

abbrev pub minute_of : History → Span
minute_of history = history.minute

abbrev pub hour_of : History → Span
hour_of history = history.hour

abbrev pub day_of : History → Span
day_of history = history.day

pub record HistoryShows (history : History) (notes : List Note) : Type 0 where
  pub minute : Shows history.minute notes
  pub hour : Shows history.hour notes
  pub day : Shows history.day notes
