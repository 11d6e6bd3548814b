use Rattle.std.proofs.Common.{rules, arith, List, ◌≡◌, ◌<◌, not, length, take, min, cond, true, Some, None, refl, sym, ◌∙◌, ap, nat_lt}
use Rattle.std.proofs.lemmas.Bool.Decides.{nat_tests}
use Rattle.std.proofs.lemmas.List.{length-take-le}
use Rattle.fp_entry.specs.declared.entry.Entry.{Entry}
use Rattle.fp_row.proofs.Waiting.{ready_within, waiting_ready, waiting_taken}
use Rattle.fp_row.specs.declared.turn.Turn.{Turn}
use Rattle.fp_row.specs.Row.{has_turn_out, is_closed, is_ready, start_of, served_of, turn_of, unserved}
use Rattle.fp_row.specs.Turn.{most_entries}
use Rattle.fp_service.specs.declared.dialogue.Core.{Core}
use Rattle.fp_service.specs.Dialogue.{is_over}
use Rattle.fp_row.proofs.row.Row.take.Goals as goal

pub returns-clause-ok : goal.returns-clause-ok
returns-clause-ok c =
    let row = c.args.self.now in
    let count = c.next_count-count.result in
    let ready : is_ready row ≡ true = sym c.if-not-is_ready.ensures in
    let within : row.served < length row.accepted = ready_within (not (has_turn_out row)) (not (is_closed row.ended)) (not (is_over row.core)) row.served (length row.accepted) ready in
    let some : 0 < count = c.next_count-count.ensures.some within in
    let out : nat_lt 0 count ≡ true = grind (arith, nat_tests) in
    let fits : length (take count (unserved row)) ≡ count = length-take-le count (unserved row) c.next_count-count.ensures.most in
    let entries : c.in_ok-entries.entries ≡ take count (unserved row) = c.in_ok-entries.ensures ∙ ap (take count) c.unserved.ensures in
    let before : c.in_ok-before.before ≡ row.core = c.in_ok-before.ensures in
    let made : List Entry → Core → Turn = λ es core. record (turn_of row es) { before = core } in
    record {
      was_ready = ready;
      turn_is = ap (λ b. cond b (Some (turn_of row (take count (unserved row)))) None) out ∙ (λ i. Some (made (sym entries i) (sym before i)));
      local = refl;
      birth = ap (λ (core : Core). core.birth) (before ∙ row.core_is) ∙ c.births_stay.ensures.core_after_has_birth (start_of row) (served_of row);
      same = search rules;
      accepted = refl;
      stay = search rules;
      out = sym (ap length entries ∙ fits);
      ended = refl;
      count =
          ap length entries ∙ fits ∙ c.next_count-count.ensures.value
          ∙ ap (λ es. min most_entries (min (length es) c.args.free)) (sym (waiting_ready (is_closed row.ended) (is_over row.core) row.accepted row.served row.out ready));
      some = omega (arith, some, fits, ap length entries);
      waiting = waiting_taken (is_closed row.ended) (is_over row.core) row.accepted row.served row.out count c.in_ok-entries.entries ready entries;
      deadline = refl;
    }
