-- The turn of the next entries, and what it is once it was served.
use Rattle.std.proofs.Common.{rules, arith, List, ◌≡◌, ◌<◌, ◌≤◌, ◌&&◌, ℕ, Bool, not, length, take, min, cond, true, false, Some, None, refl, sym, ◌∙◌, ap, nat_lt}
use Rattle.std.proofs.lemmas.Bool.Decides.{nat_tests}
use Rattle.std.proofs.lemmas.List.{length-take-le, length-drop}
use Rattle.fp_entry.specs.declared.entry.Entry.{Entry}
use Rattle.fp_row.proofs.Served.{Served}
use Rattle.fp_row.proofs.Waiting.{ready_within, waiting_ready, waiting_taken}
use Rattle.fp_row.specs.declared.done.Done.{Done}
use Rattle.fp_row.specs.declared.requested.Requested.{Requested}
use Rattle.fp_row.specs.declared.row.Row.{Row}
use Rattle.fp_row.specs.declared.serving.Steps.{Steps}
use Rattle.fp_row.specs.declared.turn.Turn.{Turn}
use Rattle.fp_row.specs.Calls.{HandsOut, frames_in, requested_of}
use Rattle.fp_row.specs.Row.{has_turn_out, is_closed, is_ready, served_of, start_of, turn_of, unserved}
use Rattle.fp_row.specs.Turn.{most_entries}
use Rattle.fp_row.specs.proof_only.Serving.{AreAll}
use Rattle.fp_service.specs.declared.dialogue.Core.{Core}
use Rattle.fp_service.specs.Dialogue.{is_over}
use Rattle.fp_service.specs.Laws.{AsksOnceAtMost, BirthsStay, CutIsFront, FoldsGrow}

-- the dialogue is ready, and this many entries are the next ones
pub record Next (free : ℕ) (row : Row) (count : ℕ) : Type 0 where
  pub births : BirthsStay
  pub ready : is_ready row ≡ true
  pub count_is : count ≡ min most_entries (min (length (unserved row)) free)
  pub most : count ≤ length (unserved row)
  pub some : row.served < length row.accepted → 0 < count

-- a dialogue that is ready isn't over
pub goes_on : (out a over d : Bool) → (not out && (a && (not over && d))) ≡ true → over ≡ false
goes_on out a over d ready = grind (arith, nat_tests)

pub live_by : (out over : Bool) → over ≡ false → (out && over) ≡ false
live_by out over live = grind (arith, nat_tests)

module _ (free : ℕ) (row : Row) (count : ℕ) (n : Next free row count) where
  abbrev pub next_entries : List Entry
  next_entries = take count (unserved row)

  abbrev pub turn : Turn
  turn = turn_of row next_entries

  more_waits : row.served < length row.accepted
  more_waits = ready_within (not (has_turn_out row)) (not (is_closed row.ended)) (not (is_over row.core)) row.served (length row.accepted) n.ready

  some_out : nat_lt 0 count ≡ true
  some_out = let some : 0 < count = n.some more_waits in grind (arith, nat_tests)

  fits : length next_entries ≡ count
  fits = length-take-le count (unserved row) n.most

  -- the row while that turn is out
  abbrev pub between : Row
  between = record row {
    out = count;
    out_within = omega (arith, n.most, length-drop row.served row.accepted, row.served_within);
    out_is_live = live_by (nat_lt 0 count) (is_over row.core)
        (goes_on (has_turn_out row) (not (is_closed row.ended)) (is_over row.core) (nat_lt row.served (length row.accepted)) n.ready);
  }

  pub hands_out : HandsOut free row turn between
  hands_out = record {
    was_ready = n.ready;
    turn_is = ap (λ b. cond b (Some turn) None) some_out;
    local = refl;
    birth = ap (λ (core : Core). core.birth) row.core_is ∙ n.births.core_after_has_birth (start_of row) (served_of row);
    same = search rules;
    accepted = refl;
    stay = search rules;
    out = sym fits;
    ended = refl;
    count =
        fits ∙ n.count_is
        ∙ ap (λ (es : List Entry). min most_entries (min (length es) free)) (sym (waiting_ready (is_closed row.ended) (is_over row.core) row.accepted row.served row.out n.ready));
    some = omega (arith, n.some more_waits, fits);
    waiting = waiting_taken (is_closed row.ended) (is_over row.core) row.accepted row.served row.out count next_entries n.ready refl;
    deadline = refl;
  }

  -- that turn, served
  abbrev pub done : (steps : Steps) (after : Core) → AreAll row.local row.peer row.core next_entries steps after → Done
  done steps after all = record {
    turn = turn;
    served = steps.served;
    after = after;
    frames = steps.frames;
    served_is = all.count;
    after_is = all.core;
    frames_are = all.frames;
  }

  -- what becomes of its requests then
  pub at_once : (steps : Steps) (after : Core) (all : AreAll row.local row.peer row.core next_entries steps after) (asked : Requested) (queued : ℕ) → FoldsGrow → CutIsFront → AsksOnceAtMost
      → asked ≡ requested_of row.ended steps.frames → queued ≡ length (frames_in asked) → Served between (done steps after all) asked queued
  at_once steps after all asked queued folds fronts few asked_is count_is = record {
    folds = folds;
    fronts = fronts;
    few = few;
    out = hands_out.turn_is;
    requested_is = asked_is;
    count_is = count_is;
  }
