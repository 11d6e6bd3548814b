-- The text that a scrape gets, in the text format of Prometheus: for each counter, in the order of their places, the
-- comments of its family if it is the first of it, and a line for each link; then the same of what each link has now.
-- Before all of that come the version, the digest of the records, and the times of answers.
use Rattle.std.specs.Prelude.{ℕ, ◌==◌, List, [], ◌∷◌, ◌++◌, Bool, ◌||◌, codes, decimal, if◌then◌else◌}
use Rattle.std.specs.List.{list_any}
use Rattle.fp_counters.specs.Counted.{number_of}
use Rattle.fp_counters.specs.Counter.{all_counters}
use Rattle.fp_counters.specs.declared.counter.Counter.{Counter}
use Rattle.fp_metrics.specs.Gauge.{all_gauges, gauge_front, gauge_heading, gauge_value}
use Rattle.fp_metrics.specs.Series.{front_of, heading_of}
use Rattle.fp_metrics.specs.declared.gauge.Gauge.{Gauge}
use Rattle.fp_metrics.specs.declared.text.LinkNumbers.{LinkNumbers}
use Rattle.fp_metrics.specs.declared.text.RunNumbers.{RunNumbers}
use Rattle.fp_metrics.specs.Times.{times_text}

-- a line: name and labels, the last of which is the number of the link, and the value
abbrev pub sample : List ℕ → ℕ → ℕ → List ℕ
sample front link value = front ++ (decimal link ++ (codes "\"} " ++ (decimal value ++ codes "\n")))

-- the line of a counter and a link
abbrev pub counter_line : Counter → LinkNumbers → List ℕ
counter_line counter numbers = sample (front_of counter) numbers.link (number_of numbers.counters counter)

-- the texts of several values, one after another
abbrev pub each : {A : Type 0} → (A → List ℕ) → List A → List ℕ
each text [] = []
each text (first ∷ others) = text first ++ each text others

-- the lines of a counter
abbrev pub counter_lines : Counter → List LinkNumbers → List ℕ
counter_lines counter links = each (counter_line counter) links

abbrev pub block : List LinkNumbers → Counter → List ℕ
block links counter = heading_of counter ++ counter_lines counter links

-- what a link has now
abbrev pub gauge_line : Gauge → LinkNumbers → List ℕ
gauge_line gauge numbers = sample (gauge_front gauge) numbers.link (gauge_value numbers.gauges gauge)

abbrev pub gauge_block : List LinkNumbers → Gauge → List ℕ
gauge_block links gauge = gauge_heading gauge ++ each (gauge_line gauge) links

abbrev pub counters_text : List LinkNumbers → List ℕ
counters_text links = each (block links) all_counters

abbrev pub gauges_text : List LinkNumbers → List ℕ
gauges_text links = each (gauge_block links) all_gauges

abbrev pub links_text : List LinkNumbers → List ℕ
links_text links = counters_text links ++ gauges_text links

abbrev pub build_heading : List ℕ
build_heading = codes "# HELP freephone_scp_build_info The version, and the digest of the records from which calls are answered.\n# TYPE freephone_scp_build_info gauge\n"

abbrev pub reloads_heading : List ℕ
reloads_heading = codes "# HELP freephone_scp_reloads_total How often the records were replaced.\n# TYPE freephone_scp_reloads_total counter\n"

abbrev pub build_line : List ℕ → List ℕ → List ℕ
build_line version records =
    codes "freephone_scp_build_info{version=\"" ++ (version ++ (codes "\",records=\"" ++ (records ++ codes "\"} 1\n")))

abbrev pub reloads_line : ℕ → List ℕ
reloads_line reloads = codes "freephone_scp_reloads_total " ++ (decimal reloads ++ codes "\n")

abbrev pub has_octet : List ℕ → ℕ → Bool
has_octet text octet = list_any (λ other. other == octet) text

-- a quotation mark, a backslash and a line feed can't be in the value of a label as they are
abbrev pub needs_escapes : List ℕ → Bool
needs_escapes text = has_octet text 34 || (has_octet text 92 || has_octet text 10)

-- the value of a label: a text with one of them is left out
abbrev pub label : List ℕ → List ℕ
label text = if needs_escapes text then [] else text

-- which program runs, and by which records
abbrev pub build_text : RunNumbers → List ℕ
build_text run = build_heading ++ build_line (label run.version.now) (label run.records.now)

-- how often these were replaced
abbrev pub reloads_text : ℕ → List ℕ
reloads_text reloads = reloads_heading ++ reloads_line reloads

abbrev pub metrics_text : RunNumbers → List ℕ
metrics_text run = build_text run ++ (reloads_text run.reloads ++ (times_text run.answer_times ++ links_text run.links.now))
