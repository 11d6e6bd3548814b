-- That `==` tells exactly where two entries are the same, their records by what they say.
use Rattle.std.specs.Prelude.{Bool, refl}
use Rattle.fp_digits.specs.Exact.{IsExact, of_bool, of_both, of_enum, of_integer, of_last, of_list, of_natural, of_none, of_option, of_struct}
use Rattle.fp_apdu.specs.contracts.opening.Opening as opening
use Rattle.fp_apdu.specs.contracts.opening.OpeningPartialEq.TheImpl as of_opening
use Rattle.fp_digits.specs.contracts.number.NumberPartialEq.TheImpl as of_number
use Rattle.fp_inap.specs.contracts.event.Event as event
use Rattle.fp_inap.specs.contracts.event.EventPartialEq.TheImpl as of_event
use Rattle.fp_q773.specs.contracts.problem.GeneralProblem as general
use Rattle.fp_q773.specs.contracts.problem.GeneralProblemPartialEq.TheImpl as of_general
use Rattle.fp_q773.specs.contracts.problem.InvokeProblem as invoke
use Rattle.fp_q773.specs.contracts.problem.InvokeProblemPartialEq.TheImpl as of_invoke
use Rattle.fp_records.specs.Same.{exact_record}
use Rattle.fp_entry.specs.declared.entry.Entry.{Entry}
use Rattle.fp_entry.specs.contracts.entry.EntryPartialEq.TheImpl as of_entry
use Rattle.fp_entry.specs.contracts.entry.EntryKind as kind
use Rattle.fp_entry.specs.contracts.entry.EntryKindPartialEq.TheImpl as of_kind
use Rattle.fp_entry.specs.contracts.found.Found as found
use Rattle.fp_entry.specs.contracts.found.FoundPartialEq.TheImpl as of_found

pub exact_opening : IsExact (of_opening.ghosts).eq
exact_opening =
    let name = of_last (of_list of_natural) in
    of_enum opening.enum _ (of_none, (name, (name, (name, tt))))

exact_number : IsExact (of_number.ghosts).eq
exact_number =
    of_struct (λ number. (number.nature, number.digits)) (λ fields. record { nature = fields.0; digits = fields.1 }) (λ number. refl)
    (of_both of_natural (of_list of_natural))

exact_event : IsExact (of_event.ghosts).eq
exact_event =
    of_enum event.enum _ (of_none, (of_none, (of_none, (of_none, (of_none, (of_none, (of_last of_natural, tt)))))))

exact_general_problem : IsExact (of_general.ghosts).eq
exact_general_problem = of_enum general.enum _ (of_none, (of_none, (of_none, (of_last of_natural, tt))))

exact_invoke_problem : IsExact (of_invoke.ghosts).eq
exact_invoke_problem =
    of_enum invoke.enum _ (of_none, (of_none, (of_none, (of_none, (of_none, (of_none, (of_none, (of_none, (of_last of_natural, tt)))))))))

pub exact_found : IsExact (of_found.ghosts).eq
exact_found = of_enum found.enum _ (of_none, (of_none, (of_none, (of_last exact_record, tt))))

-- in the order of the variants
pub exact_kind : IsExact (of_kind.ghosts).eq
exact_kind =
    let identifier = of_integer in
    let linked = of_option of_integer in
    of_enum kind.enum _ (
      of_last exact_opening,
      (
        of_both identifier (of_both linked (of_both (of_option exact_number) (of_last exact_found))),
        (
          of_both identifier (of_both linked (of_both exact_event (of_last of_bool))),
          (
            of_both identifier (of_both linked (of_last exact_invoke_problem)),
            (
              of_both identifier (of_last of_bool),
              (
                of_last identifier,
                (
                  of_last (of_option identifier),
                  (
                    of_both (of_option identifier) (of_last exact_general_problem),
                    (of_none, (of_none, (of_none, tt))),
                  ),
                ),
              ),
            ),
          ),
        ),
      ),
    )

abbrev pub same_entry : Entry → Entry → Bool
same_entry = (of_entry.ghosts).eq

pub exact_entry : IsExact same_entry
exact_entry =
    of_struct (λ entry. (entry.moment, entry.kind)) (λ fields. record { moment = fields.0; kind = fields.1 }) (λ entry. refl)
    (of_both of_natural exact_kind)
