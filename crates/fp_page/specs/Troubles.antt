-- What is wrong with a run, by its numbers.
use Rattle.std.specs.Prelude.{List, [], ◌∷◌, ◌++◌, Bool, ◌&&◌, flat_map, nat_le, nat_lt, not, if◌then◌else◌}
use Rattle.fp_counters.specs.Counted.{number_of}
use Rattle.fp_counters.specs.declared.counter.Counter.{Counter}
use Rattle.fp_counters.specs.declared.counter.Counter.TheVariants as counters
use Rattle.fp_page.specs.declared.numbers.LinkView.{LinkView}
use Rattle.fp_page.specs.declared.numbers.PageNumbers.{PageNumbers}
use Rattle.fp_page.specs.declared.troubles.Trouble.{Trouble}
use Rattle.fp_page.specs.declared.troubles.Trouble.TheVariants as troubles

-- a trouble, if it is there
abbrev pub trouble_if : Bool → Trouble → List Trouble
trouble_if is_there trouble = if is_there then trouble ∷ [] else []

-- something of this counter was counted on the link
abbrev pub has_counted : LinkView → Counter → Bool
has_counted view counter = nat_lt 0 (number_of view.numbers.counters counter)

-- a link that never came up is awaited, and isn't down
abbrev pub is_down : LinkView → Bool
is_down view = not view.numbers.gauges.is_up && nat_lt 0 view.numbers.gauges.up_since

-- the troubles of a link: more than four fifths of 4,096 dialogues are many, and at least seven eighths of 8,192 places
-- for frames
abbrev pub link_troubles : LinkView → List Trouble
link_troubles view =
    trouble_if (is_down view) (troubles.LinkDown view.numbers.link)
    ++ (trouble_if view.hangs (troubles.LinkHangs view.numbers.link)
    ++ (trouble_if (has_counted view counters.LinesLost) (troubles.Gap view.numbers.link)
    ++ (trouble_if (nat_lt 3276 view.numbers.gauges.dialogues) (troubles.ManyDialogues view.numbers.link)
    ++ (trouble_if (nat_le 7168 view.numbers.gauges.most_places) (troubles.ManyPlaces view.numbers.link)
    ++ (trouble_if (has_counted view counters.RefusedLimit) (troubles.Refused view.numbers.link)
    ++ trouble_if (has_counted view counters.OutOfMemory) (troubles.OutOfMemory view.numbers.link))))))

abbrev pub links_troubles : List LinkView → List Trouble
links_troubles links = flat_map link_troubles links

-- those of the run
abbrev pub run_troubles : PageNumbers → List Trouble
run_troubles page =
    trouble_if page.log_fails troubles.LogFails
    ++ (trouble_if page.log_hangs troubles.LogHangs
    ++ (trouble_if page.lacks_network troubles.NoNetwork ++ trouble_if page.is_ending troubles.Ending))

abbrev pub troubles_of : PageNumbers → List Trouble
troubles_of page = run_troubles page ++ links_troubles page.links.now
