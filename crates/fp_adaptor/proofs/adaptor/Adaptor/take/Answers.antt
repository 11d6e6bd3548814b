use Rattle.std.proofs.Common.{refl, ap, subst, ◌∙◌}
use Rattle.std.proofs.lemmas.Result.{IfOk-weaker}
use Rattle.fp_adaptor.specs.Counted.{counted_once_more}
use Rattle.fp_adaptor.specs.declared.counts.Counted.TheVariants as counted
use Rattle.fp_adaptor.specs.History.{heard, managed, refused, returned, unreadable}
use Rattle.fp_adaptor.specs.Verdict.{Judges}
use Rattle.fp_adaptor.specs.Verdict as verdicts
use Rattle.fp_sccp.specs.View.{unit_data_value}
use Rattle.fp_adaptor.proofs.adaptor.Adaptor.take.Goals as goal

pub returns-in-HandedOn : goal.returns-in-HandedOn
returns-in-HandedOn c =
    IfOk-weaker c.hand_on.result _ _
    (λ outcome h setting history led.
    let r = h setting history led in
    let verdict = verdicts.handed_on c.in-HandedOn.octets.now in
    let judged = subst (λ s. Judges s c.args.octets.now verdict) led.setting_is c.in-HandedOn.ensures.verdict in
    (heard r.0, (verdict, judged, (r.0, r.1, refl, r.2)), r.3))
    c.hand_on.ensures

pub returns-in-Management : goal.returns-in-Management
returns-in-Management c =
    IfOk-weaker c.manage.result _ _
    (λ outcome h setting history led.
    let r = h setting history led in
    let verdict = verdicts.management (unit_data_value c.in-Management.message) in
    let judged = subst (λ s. Judges s c.args.octets.now verdict) led.setting_is c.in-Management.ensures.verdict in
    (managed, (verdict, judged, (refl, r.0)), r.1))
    c.manage.ensures

pub returns-in-Refused : goal.returns-in-Refused
returns-in-Refused c =
    IfOk-weaker c.refuse.result _ _
    (λ outcome h setting history led.
    let r = h setting history led in
    let verdict = verdicts.refused (unit_data_value c.in-Refused.message) c.in-Refused.cause in
    let judged = subst (λ s. Judges s c.args.octets.now verdict) led.setting_is c.in-Refused.ensures.verdict in
    (refused c.in-Refused.cause, (verdict, judged, (refl, r.0)), r.1))
    c.refuse.ensures

pub returns-in-Returned : goal.returns-in-Returned
returns-in-Returned c = λ setting history led. (
  returned,
  (verdicts.returned, subst (λ s. Judges s c.args.octets.now verdicts.returned) led.setting_is c.in-Returned.ensures.verdict, (refl, refl)),
  record {
    setting_is = led.setting_is;
    units = led.units;
    connections = led.connections;
    dialogues = led.dialogues;
    counts = λ what. c.count.ensures what ∙ ap (counted_once_more counted.Returned what) (led.counts what);
  },
)

pub returns-in-Unreadable : goal.returns-in-Unreadable
returns-in-Unreadable c = λ setting history led. (
  unreadable,
  (verdicts.unreadable c.in-Unreadable.field-0, subst (λ s. Judges s c.args.octets.now (verdicts.unreadable c.in-Unreadable.field-0)) led.setting_is c.in-Unreadable.ensures.verdict, (refl, refl)),
  record {
    setting_is = led.setting_is;
    units = led.units;
    connections = led.connections;
    dialogues = led.dialogues;
    counts = λ what. c.count-in-Unreadable.ensures what ∙ ap (counted_once_more counted.Unreadable what) (led.counts what);
  },
)
