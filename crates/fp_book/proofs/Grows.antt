-- What a message does: a new dialogue, one that accepts it, or one that is closed for it, and the answer.
use Rattle.fp_book.proofs.Names.{AbortCause, Accepted, Accepts, AnsweredBy, Answers, AreTimed, Bool, Closed, ClosesOne, EndsAt, Entry, Extend, Extends, ExtendsAt, Follows, Grows, Inside, IsKept, Left, List, LocalIds, LoggedStep, None, Opens, OpensAt, Option, Outbox, Posted, PostingKeepsSound, Prepared, Refuse, Refuses, Row, Shelf, Some, Tid, Totals, abort_for, and_parts, ap, arith, arrival_of, cond, entries_in, false, gone_with, inl, is_admitted, is_frame_of, is_held, is_over, is_ready, is_some, joins, left_as, length, link_with_tag, logged, more_accepted, not, not-true, option_map_or, or_left, posted_line, refl, shelf_of, subst, sum_of, sym, takes_more, true, turns_of, verdict, with_deadline, with_dialogue, with_returned, without, without_frames_of, ℕ, ◌&&◌, ◌++◌, ◌+◌, ◌∙◌, ◌≡◌}
use Rattle.std.specs.FinMap as map
use Rattle.fp_book.proofs.Serials.{freed, linked}
use Rattle.fp_book.proofs.Sums.{Rows}
use Rattle.fp_book.proofs.Turns.{admitted_as, held_dialogue}
use Rattle.fp_book.proofs.Fits.{CanRefuse, Allowed, verdict_allowed}
use Rattle.fp_book.proofs.Kept.{Deadlines, Leaves, leaves, same_parts, seen_with, timed_by, turns_by}

-- a dialogue that takes messages has the entries after its others
pub extended_by : (rows : Rows) (local : ℕ) (before extended : Row) (entries : List Entry) (taken : Bool) → map.get rows local ≡ Some before → takes_more (map.get rows local) ≡ true
    → taken ≡ is_admitted before → Accepts taken before entries extended → Extends before entries extended
extended_by rows local before extended entries taken was admitted is accepts =
    subst (λ b. Accepts b before entries extended) (is ∙ sym (ap (λ o. option_map_or is_admitted o false) was) ∙ admitted) accepts

-- a dialogue that has become ready wasn't
pub was_idle : (before after : Row) (left : Left) (deadline : Option ℕ) → left ≡ record { birth = after.birth; is_held = is_held after; is_ready = not (is_ready before) && is_ready after; deadline = deadline } → left.is_ready ≡ true → is_ready before ≡ false
was_idle before after left deadline is joins = not-true (is_ready before) (and_parts (not (is_ready before)) (is_ready after) (sym (ap (λ (x : Left). x.is_ready) is) ∙ joins)).0

-- its turn stays out
pub grown_out : (entries : List Entry) (ends sends : Bool) (before after : Row) → Grows entries ends sends before after → after.out ≡ before.out
grown_out entries false sends before after g = g.out
grown_out entries true sends before after g = g.2.out ∙ g.1.out

-- what a book is then: of a dialogue that isn't ended the frames stay
pub grown_shelf : (s then : Shelf) (came : Prepared) (local : ℕ) (ends : Bool) (left : Left) (rows : Rows) (answer : Posted) → (g : ExtendsAt s.rows local (entries_in came) ends (is_frame_of local s.outbox.out) left rows)
    → takes_more (map.get s.rows local) ≡ true → answer ≡ Accepted (length (entries_in came))
    → then ≡ record (with_dialogue s local g.after) {
      entries = s.entries + length (entries_in came);
      ready = s.ready ++ joins local (not (is_ready g.before) && is_ready g.after);
      outbox = cond ends (without_frames_of local s.outbox) s.outbox;
      totals = more_accepted s.totals (entries_in came);
      log = logged s.log (posted_line came answer);
    }
    → Follows (Extend local ends) s came answer then
grown_shelf s then came local false left rows answer g takes answer_is is =
    let extends : Extends g.before (entries_in came) g.after = g.does.0 in
    let admits : is_admitted g.after ≡ true = admitted_as g.before g.after extends.ended extends.stay.core ∙ sym (ap takes_more g.was) ∙ takes in
    let held : is_held g.after ≡ true = or_left (is_admitted g.after) _ admits in
    record {
      before = g.before;
      after = g.after;
      was = g.was;
      extends = extends;
      answer_is = answer_is;
      new_is = is ∙ ap (λ (t : Shelf). record t {
        entries = s.entries + length (entries_in came);
        ready = s.ready ++ joins local (not (is_ready g.before) && is_ready g.after);
        totals = more_accepted s.totals (entries_in came);
        log = logged s.log (posted_line came answer);
      }) (held_dialogue s local g.after held);
    }
grown_shelf s then came local true left rows answer g takes answer_is is = record {
  before = g.before;
  extended = g.does.0.0;
  after = g.after;
  was = g.was;
  extends = g.does.0.1;
  ends = g.does.0.2;
  answer_is = answer_is;
  new_is = is;
}

-- a dialogue that was opened takes messages
admits : (local : ℕ) (peer : Tid) (birth moment : ℕ) (opened : Row) → Opens local peer birth moment opened → is_admitted opened ≡ true
admits local peer birth moment opened g =
    ap (λ e. not (is_some e) && not (is_over opened.core)) g.ended
    ∙ ap (λ core. not (is_over core)) g.core

-- so it takes the entries of its Begin
pub opened_at : (rows : Rows) (local : ℕ) (peer : Tid) (birth moment : ℕ) (entries : List Entry) (opened after : Row) (taken : Bool) → Opens local peer birth moment opened
    → taken ≡ is_admitted opened → Accepts taken opened entries after → OpensAt rows local peer birth moment entries (left_as after) (map.insert rows local after)
opened_at rows local peer birth moment entries opened after taken opens is accepts = record {
  opened = opened;
  after = after;
  opens = opens;
  extends = subst (λ b. Accepts b opened entries after) (is ∙ admits local peer birth moment opened opens) accepts;
  left_is = refl;
  rows = refl;
}

there_by : (o : Option Row) → option_map_or is_admitted o false ≡ true → is_some o ≡ true
there_by None e = e
there_by (Some row) e = refl

-- a dialogue that is closed is there
pub is_there : (b : Inside) (s : Shelf) (came : Prepared) (cause : Option AbortCause) (closes : Option ℕ) (local : ℕ) → shelf_of b ≡ s → verdict s came ≡ Refuse cause closes → closes ≡ Some local
    → map.contains_key b.rows local ≡ true
is_there b s came cause closes local view is names =
    let can : CanRefuse s closes = subst (Allowed s came) is (verdict_allowed s came) in
    there_by (map.get b.rows local) (subst (λ (t : Shelf). option_map_or is_admitted (map.get t.rows local) false ≡ true) (sym view) (can.known local names))

-- the parts of a book are those of one in which the dialogue is closed, if one is
pub record ClosedAs (b m : Inside) (closes : Option ℕ) : Type 0 where
  pub gone : Totals
  pub closing : ClosesOne (shelf_of b) closes (seen_with m gone)
  pub aborts : m.outbox.aborts ≡ b.outbox.aborts
  pub links : link_with_tag m.ids.link m.ids.tag ≡ link_with_tag m.link m.tag
  pub turns : m.turns ≡ sum_of turns_of m.rows
  pub timed : AreTimed m.deadlines m.rows

pub none_closed : (b : Inside) → IsKept b → ClosedAs b b None
none_closed b k = record { gone = (shelf_of b).gone; closing = refl; aborts = refl; links = k.links; turns = k.turns; timed = k.timed }

pub one_closed : (b : Inside) (local : ℕ) (held : Bool) (ids : LocalIds) (rows : Rows) (deadlines : Deadlines) (ready : List ℕ) (outbox : Outbox) → IsKept b → EndsAt b.rows local Closed (is_frame_of local b.outbox.out) held rows
    → ids ≡ cond held b.ids (with_returned b.ids local) → deadlines ≡ map.remove b.deadlines local → ready ≡ without local b.ready → outbox ≡ without_frames_of local b.outbox
    → ClosedAs b (record b { ids = ids; rows = rows; deadlines = deadlines; ready = ready; outbox = outbox }) (Some local)
one_closed b local held ids rows deadlines ready outbox k ends ended cleared left dropped =
    let gone = gone_with (shelf_of b).gone ends.after in
    record {
      gone = gone;
      closing = record {
        before = ends.before;
        after = ends.after;
        was = ends.was;
        ends = ends.does.0;
        new_is = same_parts (record (shelf_of b) { gone = gone }) (freed b.ids ids local held ends.after ended ends.does.1) ends.rows left dropped refl;
      };
      aborts = ap (λ (o : Outbox). o.aborts) dropped;
      links = linked b.ids ids local held ended ∙ k.links;
      turns = turns_by b.turns b.turns ends k.turns (omega (arith, ends.does.0.out));
      timed = timed_by b.deadlines deadlines ends k.timed (cleared ∙ ap (with_deadline b.deadlines local) (sym ends.does.0.deadline));
    }

-- the message is answered
answers_by : (s : Shelf) (abort : Option (Tid × AbortCause)) (closes : Option ℕ) (answer : Posted) (outbox : Outbox) → AnsweredBy s.outbox abort closes answer outbox → Answers s closes abort answer (record s { outbox = outbox })
answers_by s None closes answer outbox g = (g.0, ap (λ x. record s { outbox = x }) g.1)
answers_by s (Some (peer, cause)) closes answer outbox g = (g.0, record { frame = g.1.0; frame_is = g.1.1; new_is = ap (λ x. record s { outbox = x }) g.1.2 })

-- the book keeps what a book keeps, and is what the contract says
pub refused_book : PostingKeepsSound → (b m : Inside) (outbox : Outbox) (log : List LoggedStep) (cause : Option AbortCause) (closes : Option ℕ) (came : Prepared) (answer : Posted) → IsKept b
    → verdict (shelf_of b) came ≡ Refuse cause closes → ClosedAs b m closes → AnsweredBy m.outbox (abort_for (length m.outbox.aborts) cause (arrival_of came).ids.orig) closes answer outbox
    → log ≡ logged m.log (posted_line came answer) → Leaves (record m { outbox = outbox; log = log }) (Refuses (shelf_of b) cause closes came answer)
refused_book law b m outbox log cause closes came answer k is c answering log_is =
    let closed : Shelf = seen_with m c.gone in
    let abort = abort_for (length b.outbox.aborts) cause (arrival_of came).ids.orig in
    leaves (record m { outbox = outbox; log = log }) c.gone (Refuses (shelf_of b) cause closes came answer)
    (λ s does. law (shelf_of b) s came answer k.sound (inl (subst (λ v. Follows v (shelf_of b) came answer s) (sym is) does)))
    (record {
      closed = closed;
      answered = record closed { outbox = outbox };
      closing = c.closing;
      answering = answers_by closed abort closes answer outbox (subst (λ l. AnsweredBy m.outbox (abort_for (length l) cause (arrival_of came).ids.orig) closes answer outbox) c.aborts answering);
      new_is = ap (λ l. record closed { outbox = outbox; log = l }) log_is;
    })
    c.links c.turns c.timed
