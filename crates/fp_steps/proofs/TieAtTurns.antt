-- Steps of turns keep the tie between a book and its history.
use Rattle.fp_steps.proofs.Names.{Done, Ending, Entry, Event, Given, GivesDone, IsOut, IsTied, List, None, Option, Output, Prepared, PutsTurnBack, Row, RowsKeepTheirOrder, Shelf, Some, Step, TakesTurn, Tied, Turn, [], accepted, add-zero, ap, append-nil, append_assoc, arith, asked_at, cond, count_out, cut, cut-front, drop, ending, entry_count, frame_from, frames_in, frames_under, given_of, if_queued, in_places, known_turn, length, map_list, named, numbers_from, positions, queued, queued_in, refl, requested_of, requests, row_entries_out, sent, story, subst, sym, take, take-append-drop, take_at, turn_frames, turn_served, ℕ, ◌++◌, ◌∙◌, ◌∷◌, ◌≡◌, ◌≤◌}
use Rattle.fp_steps.proofs.HeldDialogues.{Held, becomes, core_tied, event, for_other, for_own, held_of, is_other, is_own, next_places, numbers_more, same_beginning, stays, tied_same}
use Rattle.fp_steps.proofs.TieNext.{quiet, Tied-left, Tied-put}

pub none_queued : (given : Given) → if_queued given [] ≡ []
none_queued Given.Silent = refl
none_queued given = refl

-- a turn is handed out
pub Tied-takes : {h : List Event} (came : Option Prepared) {old new : Shelf} {turn : Turn} → Tied h old → TakesTurn old turn new
    → Tied (event Step.Take came (Output.Took turn.local turn.position (length turn.entries)) ∷ h) new
Tied-takes {h} came {turn} t g =
    let l = turn.local in let n = length turn.entries in
    let e = event Step.Take came (Output.Took turn.local turn.position n) in
    let b = g.before.birth in let held : Held h l b g.before = held_of l g.before t g.was in
    let told : story (e ∷ h) b ≡ record (story h b) { out = n } =
    becomes e h b (ending h b) n refl refl refl refl refl refl (ap (λ x. cond x n (count_out h b)) (is_own (named h l) b held.name))
    in
    subst (Tied (e ∷ h)) (sym g.new_is)
    (Tied-put l g.before t (quiet e _ t refl (add-zero (entry_count h) ∙ t.entries_are) refl refl refl refl refl refl refl) g.was refl
    (subst (λ s. IsTied b s g.after) (sym told)
    (tied_same n held.tied g.takes.same g.takes.accepted g.takes.stay.served g.takes.stay.queued_frames g.takes.stay.sent_frames g.takes.stay.core g.takes.ended g.takes.out))
    (λ d ne. stays e h d refl refl refl refl refl refl (ap (λ x. cond x n (count_out h d)) (is_other (named h l) d b held.name ne))))

-- a turn is put back
pub Tied-puts_back : RowsKeepTheirOrder → {h : List Event} (came : Option Prepared) {old new : Shelf} {turn : Turn} → Tied h old → PutsTurnBack old turn new
    → Tied (event (Step.PutBack turn.local) came Output.WentBack ∷ h) new
Tied-puts_back law {h} came {turn} t g =
    let e = event (Step.PutBack turn.local) came Output.WentBack in let l = turn.local in
    let b = g.before.birth in let held : Held h l b g.before = held_of l g.before t g.was in
    let told : story (e ∷ h) b ≡ record (story h b) { out = 0 } =
    becomes e h b (ending h b) 0 refl refl refl refl refl refl (ap (λ x. cond {A = ℕ} x 0 (count_out h b)) (is_own (named h l) b held.name))
    in
    subst (Tied (e ∷ h)) (sym g.new_is)
    (Tied-left law l g.before t (quiet e _ t refl (add-zero (entry_count h) ∙ t.entries_are) refl refl refl refl refl refl refl) g.was refl
    (subst (λ s. IsTied b s g.after) (sym told)
    (tied_same 0 held.tied g.puts.same g.puts.accepted g.puts.stay.served g.puts.stay.queued_frames g.puts.stay.sent_frames g.puts.stay.core g.puts.ended g.puts.out))
    (λ d ne. stays e h d refl refl refl refl refl refl (ap (λ x. cond {A = ℕ} x 0 (count_out h d)) (is_other (named h l) d b held.name ne))))

-- what is served of the turn that is out, by its row alone
abbrev pub served_now : Row → List Entry
served_now row = cut row.core (row_entries_out row)

pub count_served : {row : Row} (done : Done) → IsOut row done.turn → done.served ≡ length (served_now row)
count_served done is = done.served_is ∙ ap (λ (t : Turn). length (turn_served t)) (sym is.turn_is)

pub frames_served : {row : Row} (done : Done) → IsOut row done.turn → done.frames ≡ frames_under row.local row.peer (requests row.core (served_now row))
frames_served done is = done.frames_are ∙ ap turn_frames (sym is.turn_is)

pub place_of : {row : Row} {turn : Turn} → IsOut row turn → row.served ≡ turn.position
place_of is = ap (λ (t : Turn). t.position) is.turn_is

-- a front of so many entries after others
front_is : (xs front rest : List Entry) (n k : ℕ) → front ++ rest ≡ take k (drop n xs) → take (length front) (drop n xs) ≡ front
front_is xs front rest n k split =
    let after = drop k (drop n xs) in
    let whole : front ++ (rest ++ after) ≡ drop n xs = sym (append_assoc front rest after) ∙ ap (λ ys. ys ++ after) split ∙ take-append-drop k (drop n xs) in
    ap (take (length front)) (sym whole) ∙ take_at front (rest ++ after) (length front) refl

-- its places are those from its position on
pub places_served : (h : List Event) {row : Row} (done : Done) {d : ℕ} → IsTied d (story h d) row → IsOut row done.turn → done.served ≤ row.out
    → in_places (accepted h d) (numbers_from done.turn.position done.served) ≡ served_now row
places_served h {row} done k is few =
    let count : done.served ≡ length (served_now row) = count_served done is in
    let front = cut-front row.core (row_entries_out row) in
    (λ i. in_places (k.accepts i) (numbers_from (sym (place_of is) i) (count i)))
    ∙ next_places row.accepted row.served (length (served_now row)) (omega (arith, count, few, row.out_within))
    ∙ front_is row.accepted (served_now row) front.0 row.served row.out front.1

-- and the frames of what is requested there are those of the turn
frames_there : (h : List Event) {row : Row} (done : Done) {d : ℕ} → IsTied d (story h d) row → IsOut row done.turn → done.served ≤ row.out → asked_at h d done.turn.position done.served ≡ done.frames
frames_there h done k is few = (λ i. map_list (frame_from (k.begins i)) (requests (core_tied k i) (places_served h done k is few i))) ∙ sym (frames_served done is)

-- the requests are accepted for sending where their frames are queued
queued_by : (ended : Option Ending) (frames : List (List ℕ)) → if_queued (given_of (requested_of ended frames)) frames ≡ frames_in (requested_of ended frames)
queued_by None [] = refl
queued_by None (frame ∷ frames) = refl
queued_by (Some ending) [] = refl
queued_by (Some ending) (frame ∷ frames) = refl

-- what is accepted for sending where a turn is given back
pub queued_asked : {h : List Event} {old new : Shelf} {done : Done} {given : Given} → Tied h old → (g : GivesDone old done given new)
    → queued_in (Output.Gave done.turn.local done.turn.position done.served given) h g.before.birth ≡ frames_in g.asked
queued_asked {h} {done} {given} t g =
    let l = done.turn.local in let b = g.before.birth in
    let held : Held h l b g.before = held_of l g.before t g.was in
    let frames : asked_at h b done.turn.position done.served ≡ done.frames = frames_there h done held.tied (known_turn g.before done.turn g.gives.was_out) g.gives.few_served in
    let same : given ≡ given_of (requested_of g.before.ended done.frames) = g.given_is ∙ ap given_of g.gives.requested_is in
    ap (if_queued given) (for_own (named h l) b (asked_at h b done.turn.position done.served) held.name)
    ∙ (λ i. if_queued (same i) (frames i)) ∙ queued_by g.before.ended done.frames ∙ ap frames_in (sym g.gives.requested_is)

-- a turn that was served is given back
pub Tied-gives : RowsKeepTheirOrder → {h : List Event} (came : Option Prepared) {old new : Shelf} {done : Done} {given : Given} → Tied h old → GivesDone old done given new
    → Tied (event (Step.Give done.turn.local) came (Output.Gave done.turn.local done.turn.position done.served given) ∷ h) new
Tied-gives law {h} came {done} {given} t g =
    let l = done.turn.local in let p = done.turn.position in let n = done.served in let b = g.before.birth in
    let e = event (Step.Give l) came (Output.Gave l p n given) in
    let held : Held h l b g.before = held_of l g.before t g.was in
    let name : named h l ≡ Some b = held.name in
    let before : IsTied b (story h b) g.before = held.tied in
    let tied : IsTied b (story (e ∷ h) b) g.after =
    record {
      birth = g.gives.same.birth;
      begins = before.begins ∙ ap Some (sym (same_beginning g.gives.same));
      accepts = append-nil (accepted h b) ∙ before.accepts ∙ sym g.gives.accepted;
      serves = ap (λ ps. positions h b ++ ps) (for_own (named h l) b (numbers_from p n) name)
          ∙ (λ i. before.serves i ++ numbers_from (sym (place_of (known_turn g.before done.turn g.gives.was_out)) i) n)
          ∙ numbers_more g.before.served n ∙ sym (ap (numbers_from 0) g.gives.served);
      queues = ap (λ fs. queued h b ++ fs) (queued_asked t g) ∙ ap (λ fs. fs ++ frames_in g.asked) before.queues ∙ sym g.gives.queued_frames;
      sends = append-nil (sent h b) ∙ before.sends ∙ sym g.gives.sent_frames;
      ends = before.ends ∙ sym g.gives.ended;
      outs = ap (λ x. cond {A = ℕ} x 0 (count_out h b)) (is_own (named h l) b name) ∙ sym g.gives.out;
    } in subst (Tied (e ∷ h)) (sym g.new_is)
    (Tied-left law l g.before t (quiet e _ t refl (add-zero (entry_count h) ∙ t.entries_are) refl refl refl refl refl refl refl) g.was refl tied
    (λ d ne. stays e h d refl refl (for_other (named h l) d b (numbers_from p n) name ne)
    (ap (if_queued given) (for_other (named h l) d b (asked_at h d p n) name ne) ∙ none_queued given)
    refl refl (ap (λ x. cond {A = ℕ} x 0 (count_out h d)) (is_other (named h l) d b name ne))))
