-- What a row has once the entries of the turn that is out were served.
use Rattle.std.proofs.Common.{◌≡◌, ℕ, ◌+◌, ◌≤◌, Bool, true, false, not, ◌&&◌, ◌||◌, cond, nat_eq, Option, Some, None, List, [], ◌∷◌, ◌++◌, length, take, drop, refl, sym, ◌∙◌, ap, arith, append_assoc, length-append}
use Rattle.std.proofs.lemmas.List.{length-take-le, map-append, take-append-drop, take-append-le, take_at}
use Rattle.std.specs.Prelude.{is_some}
use Rattle.fp_entry.specs.declared.entry.Entry.{Entry}
use Rattle.fp_q773.specs.Tid.{octets_of}
use Rattle.fp_reply.specs.Reply.{frame_of}
use Rattle.fp_row.proofs.Fronts.{more_counted}
use Rattle.fp_row.proofs.Keeping.{IsOut, all_by, all_of, frames_count, frames_from, frames_under_count, going, known_turn, queued_within, sent_within}
use Rattle.fp_row.proofs.Waiting.{out_count, waiting_served}
use Rattle.fp_row.specs.declared.done.Done.{Done}
use Rattle.fp_row.specs.declared.ending.Ending.{Ending}
use Rattle.fp_row.specs.declared.requested.Requested.{Requested}
use Rattle.fp_row.specs.declared.row.Row.{Row}
use Rattle.fp_row.specs.Calls.{frames_in, requested_of}
use Rattle.fp_row.specs.Row.{entries_out, frames_of, has_turn_out, is_closed, kept_of, queued_of, requests_of, sent_of, served_of, start_of, turn_out, waiting_of}
use Rattle.fp_row.specs.Turn.{core_then, frames_under, frames_for, served_in}
use Rattle.fp_service.specs.declared.request.Request.{Request}
use Rattle.fp_service.specs.Dialogue.{is_over}
use Rattle.fp_service.specs.Fold.{core_after, cut, requests}
use Rattle.fp_service.specs.Laws.{AsksOnceAtMost, CutIsFront, FoldsGrow}

-- the turn that is out was served, and this is what becomes of its requests
pub record Served (row : Row) (done : Done) (requested : Requested) (count : ℕ) : Type 0 where
  pub folds : FoldsGrow
  pub fronts : CutIsFront
  pub few : AsksOnceAtMost
  pub out : turn_out row ≡ Some done.turn
  pub requested_is : requested ≡ requested_of row.ended done.frames
  pub count_is : count ≡ length (frames_in requested)

-- the entries that were served then
abbrev pub served_then : Row → Done → List Entry
served_then row done = take (row.served + done.served) row.accepted

-- the entries of the turn that were served
abbrev pub now_served : Row → List Entry
now_served row = cut row.core (entries_out row)

-- what is to be sent: nothing of a dialogue that was ended from outside, and else all that is requested
sent_by : (ended : Option Ending) (frames : List (List ℕ)) → frames_in (requested_of ended frames) ≡ cond (is_some ended) [] frames
sent_by None [] = refl
sent_by None (frame ∷ frames) = refl
sent_by (Some ending) [] = refl
sent_by (Some ending) (frame ∷ frames) = refl

at_most : {A : Type 0} (drops : Bool) (all : List A) → length (cond drops [] all) ≤ length all
at_most true all = omega arith
at_most false all = omega arith

-- a front of what comes after a front
front_more : {A : Type 0} (xs : List A) (n k : ℕ) (some rest : List A) → n + k ≤ length xs → some ++ rest ≡ take k (drop n xs)
    → take (n + length some) xs ≡ take n xs ++ some
front_more xs n k some rest within split =
    let front : length (take n xs) ≡ n = length-take-le n xs (omega arith) in
    let count : length (take n xs ++ some) ≡ n + length some = length-append (take n xs) some ∙ ap (λ m. m + length some) front in
    let whole : (take n xs ++ some) ++ (rest ++ drop k (drop n xs)) ≡ xs =
    append_assoc (take n xs) some (rest ++ drop k (drop n xs))
    ∙ ap (λ ys. take n xs ++ ys) (sym (append_assoc some rest (drop k (drop n xs))) ∙ ap (λ ys. ys ++ drop k (drop n xs)) split ∙ take-append-drop k (drop n xs))
    ∙ take-append-drop n xs in
    ap (take (n + length some)) (sym whole) ∙ take_at (take n xs ++ some) (rest ++ drop k (drop n xs)) (n + length some) count

module _ (row : Row) (done : Done) (requested : Requested) (count : ℕ) (s : Served row done requested count) where
  out : IsOut row done.turn
  out = known_turn row done.turn s.out

  live : is_over row.core ≡ false
  live = going (has_turn_out row) (is_over row.core) row.out_is_live out.is_out

  -- what was served of the turn, by the row alone
  count_served : done.served ≡ length (now_served row)
  count_served = done.served_is ∙ ap (λ turn. length (served_in turn)) (sym out.turn_is)

  core_served : done.after ≡ core_after row.core (now_served row)
  core_served = done.after_is ∙ ap core_then (sym out.turn_is)

  frames_served : done.frames ≡ frames_under row.local row.peer (requests row.core (now_served row))
  frames_served = done.frames_are ∙ ap frames_for (sym out.turn_is)

  entries_count : length (entries_out row) ≡ row.out
  entries_count = out_count row.accepted row.served row.out row.out_within

  pub count_out : length done.turn.entries ≡ row.out
  count_out = ap length (sym out.entries) ∙ entries_count

  -- they are a front of the turn, and all of it if the dialogue goes on
  pub few_served : done.served ≤ row.out
  few_served =
      let front = s.fronts.front row.core (entries_out row) in
      omega (arith, count_served, entries_count, ap length front.1, length-append (now_served row) front.0)

  all_served : is_over done.after ≡ false → done.served ≡ row.out
  all_served goes_on =
      let after = sym (s.fronts.same_end row.core (entries_out row)) ∙ ap is_over (sym core_served) ∙ goes_on in
      count_served ∙ ap length (s.fronts.whole row.core (entries_out row) after) ∙ entries_count

  then_is : served_then row done ≡ served_of row ++ now_served row
  then_is =
      let front = s.fronts.front row.core (entries_out row) in
      ap (λ n. take (row.served + n) row.accepted) count_served
      ∙ front_more row.accepted row.served row.out (now_served row) front.0 row.out_within front.1

  pub served_within : row.served + done.served ≤ length row.accepted
  served_within = omega (arith, few_served, row.out_within)

  -- the core, the frames and the requests are those of the row
  pub core_is : done.after ≡ core_after (start_of row) (served_then row done)
  core_is =
      core_served ∙ ap (λ core. core_after core (now_served row)) row.core_is
      ∙ sym (s.folds.core_after_both (start_of row) (served_of row) (now_served row)) ∙ ap (core_after (start_of row)) (sym then_is)

  pub cut_is : cut (start_of row) (served_then row done) ≡ served_then row done
  cut_is =
      ap (cut (start_of row)) then_is
      ∙ s.folds.cut_of_both (start_of row) (served_of row) (now_served row)
      ∙ (λ i. row.cut_is i ++ (ap (λ core. cut core (now_served row)) (sym row.core_is) ∙ s.fronts.once row.core (entries_out row)) i)
      ∙ sym then_is

  requests_are : requests (start_of row) (served_then row done) ≡ requests_of row ++ requests row.core (now_served row)
  requests_are =
      ap (requests (start_of row)) then_is
      ∙ s.folds.requests_of_both (start_of row) (served_of row) (now_served row)
      ∙ ap (λ core. requests_of row ++ requests core (now_served row)) (sym row.core_is)

  pub frames_are : frames_from row (served_then row done) ≡ frames_of row ++ done.frames
  frames_are =
      ap (frames_under row.local row.peer) requests_are
      ∙ map-append (λ (request : Request). frame_of request row.local (octets_of row.peer)) (requests_of row) (requests row.core (now_served row))
      ∙ ap (λ more. frames_of row ++ more) (sym frames_served)

  -- how many are to be sent, and how many there are then
  sent_is : frames_in requested ≡ cond (is_some row.ended) [] done.frames
  sent_is = ap frames_in s.requested_is ∙ sent_by row.ended done.frames

  count_is : count ≡ length (cond (is_some row.ended) [] done.frames)
  count_is = s.count_is ∙ ap length sent_is

  pub few_frames : length (frames_in requested) ≤ row.out
  few_frames =
      let asked = s.few row.core (now_served row) in
      let frames = ap length frames_served ∙ frames_under_count row.local row.peer (requests row.core (now_served row)) in
      omega (arith, ap length sent_is, at_most (is_some row.ended) done.frames, frames, asked, count_served, few_served)

  count_then : length (requests (start_of row) (served_then row done)) ≡ length (requests_of row) + length done.frames
  count_then =
      sym (frames_under_count row.local row.peer (requests (start_of row) (served_then row done)))
      ∙ ap length frames_are
      ∙ length-append (frames_of row) done.frames
      ∙ ap (λ n. n + length done.frames) (frames_count row)

  pub queued_fits : row.queued + count ≤ length (requests (start_of row) (served_then row done))
  queued_fits = omega (arith, count_then, count_is, at_most (is_some row.ended) done.frames, row.queued_within)

  -- no more than were accepted entries
  pub queued_few : row.queued + count ≤ length row.accepted
  queued_few =
      let asked = s.few (start_of row) (served_then row done) in
      let front = length-take-le (row.served + done.served) row.accepted served_within in
      omega (arith, queued_fits, asked, front, served_within)

  -- if nothing ended the dialogue from outside, all are kept
  kept_all : is_some row.ended ≡ false → row.kept ≡ length (frames_of row)
  kept_all free = all_of (is_some row.ended) row.kept (length (requests_of row)) row.all_kept free ∙ sym (frames_count row)

  pub all_kept : (not (is_some row.ended) && not (nat_eq (row.kept + count) (length (requests (start_of row) (served_then row done))))) ≡ false
  all_kept = all_by (is_some row.ended) (row.kept + count) (length (requests (start_of row) (served_then row done))) (λ free.
      omega (arith, count_then, count_is, ap (λ drops. length (cond drops [] done.frames)) free, kept_all free, frames_count row))

  -- a front that is whole if all are kept grows by what is to be sent
  front_then : (n : ℕ) → n ≤ length (frames_of row) → (is_some row.ended ≡ false → n ≡ length (frames_of row)) → take (n + count) (frames_from row (served_then row done)) ≡ take n (frames_of row) ++ frames_in requested
  front_then n within whole =
      ap (take (n + count)) frames_are
      ∙ ap (λ k. take (n + k) (frames_of row ++ done.frames)) count_is
      ∙ more_counted (is_some row.ended) (frames_of row) done.frames n within whole
      ∙ ap (λ more. take n (frames_of row) ++ more) (sym sent_is)

  pub kept_frames : take (row.kept + count) (frames_from row (served_then row done)) ≡ kept_of row ++ frames_in requested
  kept_frames = front_then row.kept (omega (arith, queued_within row, row.kept_within)) kept_all

  pub queued_frames : take (row.queued + count) (frames_from row (served_then row done)) ≡ queued_of row ++ frames_in requested
  queued_frames = front_then row.queued (queued_within row) (λ free. omega (arith, queued_within row, kept_all free, row.kept_within))

  pub sent_frames : take row.sent (frames_from row (served_then row done)) ≡ sent_of row
  sent_frames = ap (take row.sent) frames_are ∙ take-append-le row.sent (frames_of row) done.frames (sent_within row)

  -- the entries that wait then
  pub waiting_then : cond (is_closed row.ended || is_over done.after) [] (drop (row.served + done.served) row.accepted) ≡ cond (is_over done.after) [] (waiting_of row)
  waiting_then = waiting_served (is_closed row.ended) (is_over row.core) (is_over done.after) row.accepted row.served row.out done.served live all_served
