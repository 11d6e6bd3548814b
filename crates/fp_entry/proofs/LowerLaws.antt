-- The laws of the crates below that the proofs here rest on.
use Rattle.fp_apdu.specs.Laws.{OpeningsAreOne}
use Rattle.fp_ber.specs.Laws.{FaultsAreOne, NoneBeginsAnother, SpelledHaveNoFault}
use Rattle.fp_inap.specs.Laws.{EventReportsAreOne, InitialDpsAreOne}
use Rattle.fp_q773.specs.Laws.{IdsAreOne, MessagesAreOne}

pub record LowerLaws : Type 0 where
  pub none_begins_another : NoneBeginsAnother
  pub faults_are_one : FaultsAreOne
  pub spelled_have_no_fault : SpelledHaveNoFault
  pub messages_are_one : MessagesAreOne
  pub ids_are_one : IdsAreOne
  pub openings_are_one : OpeningsAreOne
  pub initial_dps_are_one : InitialDpsAreOne
  pub event_reports_are_one : EventReportsAreOne
