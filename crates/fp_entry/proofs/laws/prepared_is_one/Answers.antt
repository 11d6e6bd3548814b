-- A frame is prepared to one thing, by the laws of the crates below.
use Rattle.fp_entry.proofs.Readings.{prepared_same}
use Rattle.fp_entry.proofs.laws.prepared_is_one.Goals as goal

pub returns : goal.returns
returns c =
    prepared_same
    record {
      none_begins_another = c.no_spelling_begins_another.ensures;
      faults_are_one = c.faults_are_one.ensures;
      spelled_have_no_fault = c.spelled_octets_have_no_fault.ensures;
      messages_are_one = c.messages_are_one.ensures;
      ids_are_one = c.ids_are_one.ensures;
      openings_are_one = c.openings_are_one.ensures;
      initial_dps_are_one = c.initial_dps_are_one.ensures;
      event_reports_are_one = c.event_reports_are_one.ensures;
    }
