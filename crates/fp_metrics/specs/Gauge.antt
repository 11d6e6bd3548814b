-- What a link has now, and the most that it had, in the text format of Prometheus.
use Rattle.std.specs.Prelude.{ℕ, List, [], ◌∷◌, codes, if◌then◌else◌}
use Rattle.fp_metrics.specs.declared.gauge.Gauge.{Gauge}
use Rattle.fp_metrics.specs.declared.gauge.Gauge.TheVariants as gauges
use Rattle.fp_metrics.specs.declared.gauge.Gauges.{Gauges}

-- each number once
abbrev pub all_gauges : List Gauge
all_gauges = gauges.Up ∷ gauges.UpSince ∷ gauges.Dialogues ∷ gauges.MostDialogues ∷ gauges.MostPlaces ∷ gauges.Lines ∷ gauges.MostLines ∷ []

abbrev pub gauge_value : Gauges → Gauge → ℕ
gauge_value values gauges.Up = if values.is_up then 1 else 0
gauge_value values gauges.UpSince = values.up_since
gauge_value values gauges.Dialogues = values.dialogues
gauge_value values gauges.MostDialogues = values.most_dialogues
gauge_value values gauges.MostPlaces = values.most_places
gauge_value values gauges.Lines = values.lines
gauge_value values gauges.MostLines = values.most_lines

-- the name, up to the number of the link
abbrev pub gauge_front : Gauge → List ℕ
gauge_front gauges.Up = codes "freephone_scp_link_up{link=\""
gauge_front gauges.UpSince = codes "freephone_scp_link_start_time_seconds{link=\""
gauge_front gauges.Dialogues = codes "freephone_scp_dialogues{link=\""
gauge_front gauges.MostDialogues = codes "freephone_scp_dialogues_most{link=\""
gauge_front gauges.MostPlaces = codes "freephone_scp_frame_places_most{link=\""
gauge_front gauges.Lines = codes "freephone_scp_log_lines_waiting{link=\""
gauge_front gauges.MostLines = codes "freephone_scp_log_lines_waiting_most{link=\""

abbrev pub gauge_heading : Gauge → List ℕ
gauge_heading gauges.Up = codes "# HELP freephone_scp_link_up Whether the link is up.\n# TYPE freephone_scp_link_up gauge\n"
gauge_heading gauges.UpSince = codes "# HELP freephone_scp_link_start_time_seconds When the link came up, in seconds since 1970, 0 if it never did.\n# TYPE freephone_scp_link_start_time_seconds gauge\n"
gauge_heading gauges.Dialogues = codes "# HELP freephone_scp_dialogues Dialogues that the link holds.\n# TYPE freephone_scp_dialogues gauge\n"
gauge_heading gauges.MostDialogues = codes "# HELP freephone_scp_dialogues_most The most dialogues that the link was seen to hold.\n# TYPE freephone_scp_dialogues_most gauge\n"
gauge_heading gauges.MostPlaces = codes "# HELP freephone_scp_frame_places_most The most places for frames of the link that were seen to be held.\n# TYPE freephone_scp_frame_places_most gauge\n"
gauge_heading gauges.Lines = codes "# HELP freephone_scp_log_lines_waiting Log lines that left the book of the link and aren't written yet.\n# TYPE freephone_scp_log_lines_waiting gauge\n"
gauge_heading gauges.MostLines = codes "# HELP freephone_scp_log_lines_waiting_most The most of them that were seen.\n# TYPE freephone_scp_log_lines_waiting_most gauge\n"
