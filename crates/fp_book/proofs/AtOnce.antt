-- A turn that is handed out, served and given back at once: the book between the two.
use Rattle.fp_book.proofs.Names.{Bool, Done, HandsOut, List, None, Row, Shelf, Some, Sound, TakesTurn, ap, arith, cond, eq-eqb, eqb, false, frames_in, is_held, keep, length, logged, min, most_entries, most_places, places_held, refl, request_count, subst, sym, true, waiting_of, ℕ, ◌^◌, ◌-◌, ◌+◌, ◌<◌, ◌∙◌, ◌∷◌, ◌≡◌, ◌≤◌}
use Rattle.std.specs.FinMap as map
use Rattle.fp_book.proofs.Kept.{few_entries, few_served}
use Rattle.fp_book.proofs.Sums.{Rows, get-inserted, get-removed, same_rows}
use Rattle.fp_book.proofs.Turns.{few_requests, min_most, not_ready_out, taken_out}
use Rattle.fp_book.specs.Laws.{TakingKeepsSound}
use Rattle.fp_book.specs.declared.dialogues.Left.{Left}
use Rattle.fp_book.specs.declared.line.LoggedStep.TheVariants as line
use Rattle.fp_book.specs.declared.taken.Taken.TheVariants.{Turn as ATurn}
use Rattle.fp_book.specs.proof_only.Dialogues.{ServesAt}
use Rattle.fp_row.specs.Calls.{Gives}
use Rattle.fp_row.specs.Laws.{TurnsAreServedByTheStep}
use Rattle.fp_row.specs.Row.{has_turn_out, is_ready}
use Rattle.fp_row.specs.declared.served_turn.ServedTurn.{ServedTurn}

-- a dialogue that is put under an identifier twice is what the second one is
twice_at : (q l : ℕ) (held : Bool) (a b : Row) (rows : Rows) (here : Bool) → eqb q l ≡ here
    → cond here (cond held (Some b) None) (cond here (Some a) (map.get rows q)) ≡ cond here (cond held (Some b) None) (map.get rows q)
twice_at q l held a b rows true is = refl
twice_at q l held a b rows false is = refl

keep-get : (rows : Rows) (l : ℕ) (b : Row) (held : Bool) (q : ℕ)
    → map.get (cond held (map.insert rows l b) (map.remove rows l)) q ≡ cond (eqb q l) (cond held (Some b) None) (map.get rows q)
keep-get rows l b true q = get-inserted rows l b q
keep-get rows l b false q = get-removed rows l q

pub keep_twice : (rows : Rows) (l : ℕ) (a b : Row) → keep (map.insert rows l a) l b ≡ keep rows l b
keep_twice rows l a b =
    same_rows _ _ (λ q.
    keep-get (map.insert rows l a) l b (is_held b) q
    ∙ ap (cond (eqb q l) (cond (is_held b) (Some b) None)) (get-inserted rows l a q)
    ∙ twice_at q l (is_held b) a b rows (eqb q l) refl
    ∙ sym (keep-get rows l b (is_held b) q))

-- the first dialogue of a sound book was served
pub record AtOnce (s : Shelf) (local : ℕ) (turn : ServedTurn) (left : Left) (rows : Rows) : Type 0 where
  pub sound : Sound s
  pub law : TakingKeepsSound
  pub step : TurnsAreServedByTheStep
  pub room : places_held s < most_places
  pub at : ServesAt (most_places - places_held s) s.rows local turn left rows

pub at_once : {s view : Shelf} {held local : ℕ} {turn : ServedTurn} {left : Left} {rows : Rows} → Sound s → s ≡ view → held ≡ places_held view → held < most_places → TakingKeepsSound → TurnsAreServedByTheStep
    → ServesAt (most_places - held) s.rows local turn left rows → AtOnce s local turn left rows
at_once {s} {view} {held} {local} {turn} {left} {rows} sound same is room law step at =
    let held_is : held ≡ places_held s = is ∙ sym (ap places_held same) in
    record {
      sound = sound;
      law = law;
      step = step;
      room = subst (λ n. n < most_places) held_is room;
      at = subst (λ n. ServesAt (most_places - n) s.rows local turn left rows) held_is at;
    }

module _ (s : Shelf) (local : ℕ) (turn : ServedTurn) (left : Left) (rows : Rows) (g : AtOnce s local turn left rows) where
  abbrev pub done : Done
  done = g.at.does.0.done

  abbrev pub between : Row
  between = g.at.does.0.between

  takes : HandsOut (most_places - places_held s) g.at.before done.turn between
  takes = g.at.does.0.takes

  pub here : done.turn.local ≡ local
  here = takes.local ∙ (g.sound.own local g.at.before g.at.was).local_is

  pub was : map.get s.rows done.turn.local ≡ Some g.at.before
  was = ap (map.get s.rows) here ∙ g.at.was

  out : has_turn_out between ≡ true
  out = taken_out (most_places - places_held s) g.at.before done.turn between takes

  pub not_ready_between : is_ready between ≡ false
  not_ready_between = not_ready_out between out

  -- the book after the take, if these are then the dialogues that are ready
  abbrev pub mid : List ℕ → Shelf
  mid rest = record s {
    rows = map.insert s.rows done.turn.local between;
    ready = rest;
    log = logged s.log (line.Take g.at.before.birth done.turn.position (length done.turn.entries));
  }

  pub takes_turn : (rest : List ℕ) → s.ready ≡ local ∷ rest → TakesTurn s done.turn (mid rest)
  takes_turn rest first = record {
    before = g.at.before;
    after = between;
    rest = rest;
    was = was;
    takes = takes;
    first = first ∙ ap (λ l. l ∷ rest) (sym here);
    room = g.room;
    new_is = refl;
  }

  pub mid_sound : (rest : List ℕ) → s.ready ≡ local ∷ rest → Sound (mid rest)
  mid_sound rest first = g.law s (mid rest) (ATurn done.turn) g.sound (takes_turn rest first)

  pub was_mid : map.get (map.insert s.rows done.turn.local between) done.turn.local ≡ Some between
  was_mid =
      get-inserted s.rows done.turn.local between done.turn.local
      ∙ ap (λ b. cond b (Some between) (map.get s.rows done.turn.local)) (eq-eqb done.turn.local done.turn.local refl)

  gives : Gives between done turn.requested g.at.after
  gives = g.at.does.0.gives

  count_is : turn.count ≡ length done.turn.entries
  count_is = g.at.does.0.count

  served_is : turn.served ≡ done.served
  served_is = g.at.does.0.served

  outs : between.out ≡ min most_entries (min (length (waiting_of g.at.before)) (most_places - places_held s))
  outs = takes.out ∙ takes.count

  -- no more than sixteen entries are served
  pub few_count : turn.count ≤ most_entries
  few_count = omega (arith, count_is, takes.count)

  pub few_done : turn.served ≤ most_entries
  few_done = omega (arith, served_is, gives.few_served, outs)

  -- so few were served before that these can be counted, too
  pub fits : s.totals.served + turn.served < 2 ^ 64
  fits = omega (arith, few_served s g.sound, few_entries s g.sound, few_done)

  -- their frames find a place
  pub place : length s.outbox.frames + length (frames_in turn.requested) ≤ most_places
  place = omega (arith, gives.few_frames, outs, min_most most_entries (length (waiting_of g.at.before)) (most_places - places_held s), g.room)

  pub few_asked : request_count turn.requested ≤ most_places
  few_asked = omega (arith, few_requests between g.at.after done turn.requested gives (g.step done), outs)
