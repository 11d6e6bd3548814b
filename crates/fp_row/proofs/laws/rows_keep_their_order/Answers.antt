use Rattle.std.proofs.Common.{◌≡◌, ◌≤◌, ◌||◌, ◌++◌, length, drop, sym, ◌∙◌, ap, arith}
use Rattle.std.proofs.lemmas.List.{length-take-le, take-append-drop, take_all}
use Rattle.std.specs.Prelude.{is_some}
use Rattle.fp_row.proofs.Fronts.{shorter_front}
use Rattle.fp_row.proofs.Keeping.{all_of, frames_count, going, queued_within, sent_within, turn_is_next}
use Rattle.fp_row.proofs.Waiting.{entries_are_out, out_count, parts_by, whole_by}
use Rattle.fp_row.specs.Row.{frames_of, has_turn_out, is_closed, requests_of, served_of, start_of, unserved}
use Rattle.fp_service.specs.declared.dialogue.Core.{Core}
use Rattle.fp_service.specs.Dialogue.{is_over}
use Rattle.fp_service.specs.Fold.{core_after, cut}
use Rattle.fp_row.proofs.laws.rows_keep_their_order.Goals as goal

pub returns : goal.returns
returns c = λ row.
    let rest = cut (core_after (start_of row) (served_of row)) (unserved row) in
    let served_count : length (served_of row) ≡ row.served = length-take-le row.served row.accepted row.served_within in
    record {
      served = (
        rest,
        ap (λ front. front ++ rest) (sym row.cut_is)
            ∙ sym (c.folds_along_a_grown_list.ensures.both.cut_of_both (start_of row) (served_of row) (unserved row))
            ∙ ap (cut (start_of row)) (take-append-drop row.served row.accepted),
      );
      core = row.core_is;
      queued = (drop row.queued (frames_of row), take-append-drop row.queued (frames_of row));
      kept = shorter_front (frames_of row) row.kept row.queued row.kept_within;
      sent = shorter_front (frames_of row) row.sent row.kept row.sent_within;
      all_kept = λ none.
          let kept = all_of (is_some row.ended) row.kept _ row.all_kept (ap is_some none) in
          let frames = frames_count row in
          take_all row.kept (frames_of row) (omega arith);
      served_count = served_count;
      queued_count = length-take-le row.queued (frames_of row) (queued_within row);
      kept_count = length-take-le row.kept (frames_of row) (omega (arith, queued_within row, row.kept_within));
      sent_count = length-take-le row.sent (frames_of row) (sent_within row);
      out_count = out_count row.accepted row.served row.out row.out_within;
      few_frames =
          let few : length (requests_of row) ≤ length (served_of row) = c.entries_ask_once_at_most.ensures (start_of row) (served_of row) in
          let frames = frames_count row in
          omega arith;
      parts = parts_by (is_closed row.ended || is_over row.core) row.accepted row.served row.out;
      whole = λ unclosed live. whole_by (is_closed row.ended) (is_over row.core) row.accepted row.served row.out unclosed live;
      next = turn_is_next row;
      turn = entries_are_out row;
      live = going (has_turn_out row) (is_over row.core) row.out_is_live;
      birth = ap (λ (core : Core). core.birth) row.core_is ∙ c.births_stay.ensures.core_after_has_birth (start_of row) (served_of row);
    }
