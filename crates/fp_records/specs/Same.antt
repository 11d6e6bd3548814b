-- That `==` says exactly whether two rules, or two records, say the same.
use Rattle.std.specs.Prelude.{Bool, ◌&&◌, refl}
use Rattle.std.specs.Cmp.{IsEquivalence, IsPartialEquivalence, decided, partial_equiv_from_equiv}
use Rattle.std.specs.Cmp.Lexicographic.{pointwise}
use Rattle.std.specs.Ordering.{int_eq}
use Rattle.fp_digits.specs.Exact.{IsExact, of_bool, of_both, of_enum, of_integer, of_last, of_list, of_natural, of_none, of_struct}
use Rattle.fp_records.specs.Choice.{Rules}
use Rattle.fp_records.specs.Window.{Period}
use Rattle.fp_records.specs.declared.action.Action.{Action}
use Rattle.fp_records.specs.declared.action.Destinations.{Destinations}
use Rattle.fp_records.specs.declared.rule.Rule.{Rule}
use Rattle.fp_records.specs.contracts.action.Action as action
use Rattle.fp_records.specs.contracts.action.ActionPartialEq.TheImpl as of_action
use Rattle.fp_records.specs.contracts.action.Destinations as destinations
use Rattle.fp_records.specs.contracts.action.DestinationsPartialEq.TheImpl as of_destinations
use Rattle.fp_records.specs.contracts.rule.RulePartialEq.TheImpl as of_rule
use Rattle.fp_records.specs.contracts.window.WindowPartialEq.TheImpl as of_window

abbrev pub same_destinations : Destinations → Destinations → Bool
same_destinations = (of_destinations.ghosts).eq

pub exact_destinations : IsExact same_destinations
exact_destinations =
    let list = of_last (of_list (of_list of_natural)) in
    of_enum destinations.enum _ (list, (list, (list, (list, tt))))

abbrev pub same_action : Action → Action → Bool
same_action = (of_action.ghosts).eq

pub exact_action : IsExact same_action
exact_action = of_enum action.enum _ (of_last exact_destinations, (of_none, (of_none, tt)))

abbrev pub same_window : Period → Period → Bool
same_window = (of_window.ghosts).eq

pub exact_window : IsExact same_window
exact_window =
    of_struct (λ window. (window.from, window.to)) (λ fields. record { from = fields.0; to = fields.1 }) (λ window. refl) (of_both of_natural of_natural)

abbrev pub same_rule : Rule → Rule → Bool
same_rule = (of_rule.ghosts).eq

pub exact_rule : IsExact same_rule
exact_rule =
    of_struct
    (λ rule. (rule.prefix, (rule.days, (rule.window, (rule.weight, rule.action)))))
    (λ fields. record { prefix = fields.0; days = fields.1.0; window = fields.1.1.0; weight = fields.1.1.1.0; action = fields.1.1.1.1 })
    (λ rule. refl)
    (of_both (of_list of_natural) (of_both (of_list of_bool) (of_both exact_window (of_both of_natural exact_action))))

-- the same offset, the same closed days, and the same rules in the same order
abbrev pub same_record : Rules → Rules → Bool
same_record a b = int_eq a.offset b.offset && (pointwise int_eq a.closed b.closed && pointwise same_rule a.rules b.rules)

pub exact_record : IsExact same_record
exact_record =
    of_struct
    (λ rules. (rules.offset, (rules.closed, rules.rules)))
    (λ fields. record { offset = fields.0; closed = fields.1.0; rules = fields.1.1 })
    (λ rules. refl)
    (of_both of_integer (of_both (of_list of_integer) (of_list exact_rule)))

pub same_record_equiv : IsEquivalence same_record
same_record_equiv = decided same_record exact_record

pub same_record_per : IsPartialEquivalence same_record
same_record_per = partial_equiv_from_equiv same_record_equiv
