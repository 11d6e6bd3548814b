-- Each step adds to the totals of its book, and to the sums over all dialogues, what its output tells.
use Rattle.fp_steps.proofs.Names.{AbortCause, AddUp, AreFew, Bool, Clock, Content, Entry, Event, Follows, Headline, List, MakesOf, None, Option, Output, Posted, Prepared, Request, Row, RowsKeepTheirOrder, Sends, Shelf, Some, Sound, Step, Story, Tells, Tid, Tied, Totals, Verdict, [], abort_for, accepted, accepted_in, add-one, all_entries, ap, arith, arrival_of, base, births, births_after, cases_Bool, component_count, components_came, components_in, cond, course, destination, entries_in, entry_at, eqb, eqb-false, eqb-true, false, first_identifier, for_one, frame_for, frame_of, frames_of, handed, is_from_component, is_none, is_sent, length, length-append, length-map, more_accepted, most_dialogues, named, ne_eqb, no_totals, not, numbers_from, octets_of, opened_in, opened_with, option_map, out, outputs_of, plus, position_in, positions, posted_totals, receiver, refl, refused_by, requests_of, sent, sent_by, sent_in, served, served_by, story, subst, suc, sum-le, sum_by-append, sum_of, sum_to, sym, totals_of, totals_over, true, untold, verdict, verdict_tells, zero, ℕ, ⊎_elim, ⊤, ◌*◌, ◌++◌, ◌+◌, ◌<◌, ◌∙◌, ◌∷◌, ◌≡◌, ◌≤◌}
use Rattle.fp_steps.proofs.Cases.{Cases, by_made}
use Rattle.fp_steps.proofs.HeldDialogues.{event, for_other, for_own, held_of, length-numbers_from, none_named, not_abort}
use Rattle.fp_steps.proofs.MessageAnswers.{answer_is, answer_of}
use Rattle.fp_steps.proofs.OutputTotals.{added, local_in, make, none_more, one_if, plus_none, same, totals_next}
use Rattle.fp_steps.proofs.SumsOverBirths.{sum_to_same}
use Rattle.fp_steps.proofs.TieAtMessages.{dest_of, posts}

-- SUMS

sum_none : (n : ℕ) (of : ℕ → ℕ) → ((d : ℕ) → d ≤ n → of d ≡ 0) → sum_to n of ≡ 0
sum_none zero of none = refl
sum_none (suc n) of none = omega (arith, sum_none n of (λ d le. none d (omega (arith, le))), none (suc n) (omega arith))

zeros : (n : ℕ) → sum_to n (λ d. 0) ≡ 0
zeros n = sum_none n (λ d. 0) (λ d le. refl)

-- where one of the births alone has so much
sum_one : (n b much : ℕ) (of : ℕ → ℕ) → 0 < b → b ≤ n → of b ≡ much → ((d : ℕ) → eqb d b ≡ false → of d ≡ 0) → sum_to n of ≡ much
sum_one zero b much of first last own others = absurd (omega (arith, first, last))
sum_one (suc n) b much of first last own others =
    ⊎_elim
    (λ e.
    let same : suc n ≡ b = eqb-true (suc n) b e in
    let rest : sum_to n of ≡ 0 = sum_none n of (λ d to. others d (ne_eqb d b (λ is. omega (arith, to, is, same)))) in
    let here : of (suc n) ≡ much = subst (λ m. of m ≡ much) (sym same) own in
    omega (arith, rest, here))
    (λ ne.
    omega (arith, sum_one n b much of first (omega (arith, last, eqb-false (suc n) b ne)) own others, others (suc n) ne)) (cases_Bool (eqb (suc n) b))

-- what one dialogue gets of a list
sum_for : {X : Type 0} → (size : List X → ℕ) (n : ℕ) (o : Option ℕ) (b : ℕ) (xs : List X) → size [] ≡ 0 → o ≡ Some b → 0 < b → b ≤ n → sum_to n (λ d. size (for_one o d xs)) ≡ size xs
sum_for size n o b xs empty is first last =
    sum_one n b (size xs) (λ d. size (for_one o d xs)) first last (ap size (for_own o b xs is)) (λ d ne. ap size (for_other o d b xs is ne) ∙ empty)

sum_more : (n : ℕ) (f g more : ℕ → ℕ) → ((d : ℕ) → g d ≡ f d + more d) → sum_to n g ≡ sum_to n f + sum_to n more
sum_more zero f g more each = refl
sum_more (suc n) f g more each = omega (arith, sum_more n f g more each, each (suc n))

-- one birth more, that has nothing
sum_new : (o : Option ℕ) (n : ℕ) (of : ℕ → ℕ) → of (n + 1) ≡ 0 → sum_to (births_after o n) of ≡ sum_to n of
sum_new None n of none = refl
sum_new (Some local) n of none =
    let next : sum_to (n + 1) of ≡ sum_to n of + of (suc n) = ap (λ m. sum_to m of) (add-one n) in
    let here : of (suc n) ≡ 0 = ap of (sym (add-one n)) ∙ none in omega (arith, next, here)

-- SUMS OVER DIALOGUES

abbrev components_at : List Event → ℕ → ℕ
components_at h d = component_count (accepted h d)

abbrev served_at : List Event → ℕ → ℕ
served_at h d = length (positions h d)

abbrev sent_at : List Event → ℕ → ℕ
sent_at h d = length (sent h d)

-- over the dialogues of these births, with the places that were served
abbrev sums : ℕ → List Event → Totals
sums n h = make (sum_to n (components_at h)) (sum_to n (served_at h)) (sum_to n (sent_at h))

-- what all of them get of an event
abbrev shares : ℕ → List Event → Event → Totals
shares n h e = make (sum_to n (λ d. component_count (accepted_in e.output e.step e.came h d (course h d)))) (sum_to n (λ d. length (position_in e.output h d))) (sum_to n (λ d. length (sent_in e.output h d)))

count_more : (xs ys : List Entry) → component_count (xs ++ ys) ≡ component_count xs + component_count ys
count_more xs ys = sum_by-append (λ (entry : Entry). cond {A = ℕ} (is_from_component entry.kind) 1 0) xs ys

-- each dialogue has what it had and its share; one that is new had nothing
sums_next : (h : List Event) (e : Event) → story h (births h + 1) ≡ untold → sums (births (e ∷ h)) (e ∷ h) ≡ plus (sums (births h) h) (shares (births (e ∷ h)) h e)
sums_next h e none =
    let n = births (e ∷ h) in
    let had : (f : Story → ℕ) → f untold ≡ 0 → sum_to n (λ d. f (story h d)) ≡ sum_to (births h) (λ d. f (story h d)) = λ f nothing. sum_new (opened_in e.output) (births h) (λ d. f (story h d)) (ap f none ∙ nothing) in
    same (sums n (e ∷ h)) (plus (sums (births h) h) (shares n h e))
    (sum_more n (components_at h) (components_at (e ∷ h)) (λ d. component_count (accepted_in e.output e.step e.came h d (course h d))) (λ d. count_more (accepted h d) (accepted_in e.output e.step e.came h d (course h d)))
    ∙ ap (λ m. m + sum_to n (λ d. component_count (accepted_in e.output e.step e.came h d (course h d)))) (had (λ t. component_count t.accepts) refl))
    (sum_more n (served_at h) (served_at (e ∷ h)) (λ d. length (position_in e.output h d)) (λ d. length-append (positions h d) (position_in e.output h d))
    ∙ ap (λ m. m + sum_to n (λ d. length (position_in e.output h d))) (had (λ t. length t.places) refl))
    (sum_more n (sent_at h) (sent_at (e ∷ h)) (λ d. length (sent_in e.output h d)) (λ d. length-append (sent h d) (sent_in e.output h d))
    ∙ ap (λ m. m + sum_to n (λ d. length (sent_in e.output h d))) (had (λ t. length t.sends) refl))

-- each place that was served holds an entry
by_places : {h : List Event} → Headline h → totals_over h ≡ sums (births h) h
by_places {h} l =
    ap (λ n. make (sum_to (births h) (components_at h)) n (sum_to (births h) (sent_at h)))
    (sum_to_same (births h) (λ d. length (served h d)) (served_at h) (λ d first last. l.each_there d))

-- EVENTS

-- the dialogues and the book get what the output tells
record Counts (h : List Event) (e : Event) (old new : Shelf) : Type 0 where
  shared : shares (births (e ∷ h)) h e ≡ added h e
  counted : new.totals ≡ plus old.totals (added h e)

-- one that adds nothing
quiet : (h : List Event) (e : Event) (old new : Shelf) → new.totals ≡ old.totals → added h e ≡ no_totals → shares (births (e ∷ h)) h e ≡ no_totals → Counts h e old new
quiet h e old new stay nothing none = record { shared = none ∙ sym nothing; counted = stay ∙ plus_none old.totals ∙ ap (plus old.totals) (sym nothing) }

none_shared : (n : ℕ) → make (sum_to n (λ d. 0)) (sum_to n (λ d. 0)) (sum_to n (λ d. 0)) ≡ no_totals
none_shared n = same (make (sum_to n (λ d. 0)) (sum_to n (λ d. 0)) (sum_to n (λ d. 0))) no_totals (zeros n) (zeros n) (zeros n)

-- ticks
clock_none : (b : Bool) (moment : ℕ) → component_count (cond b (entry_at moment Clock ∷ []) []) ≡ 0
clock_none true moment = refl
clock_none false moment = refl

ticked : (h : List Event) (came : Option Prepared) (moment many wanting : ℕ) (old new : Shelf) → new.totals ≡ old.totals → Counts h (event (Step.Tick moment) came (Output.Ticked many wanting)) old new
ticked h came moment many wanting old new stay =
    let e = event (Step.Tick moment) came (Output.Ticked many wanting) in
    quiet h e old new stay refl
    (same (shares (births h) h e) no_totals (sum_none (births h) (λ d. component_count (accepted_in e.output e.step e.came h d (course h d))) (λ d le. clock_none _ moment)) (zeros (births h)) (zeros (births h)))

-- what is out to be sent
out_is : {h : List Event} {s : Shelf} (content : Content) → Tied h s → s.outbox.out ≡ Some content → out h ≡ Some (handed h content)
out_is {h} content t was = t.is_out ∙ ap (option_map (handed h)) was

-- a frame of a dialogue, whose identifier isn't 0, is sent, or an Abort of the provider
frame_sent : {h : List Event} (came : Option Prepared) {old : Shelf} (new : Shelf) (content : Content) → Tied h old → Sends old content new → Counts h (event Step.Sent came Output.Sent) old new
frame_sent {h} came {old} new (Content.Abort frame) t g =
    let is = out_is (Content.Abort frame) t g.was_out in
    let octets = (handed h (Content.Abort frame)).octets in
    let e = event Step.Sent came Output.Sent in
    quiet h e old new (ap (λ (s : Shelf). s.totals) g.new_is) (ap (λ o. make 0 0 (one_if (is_sent Output.Sent (local_in o)))) is)
    (same (shares (births h) h e) no_totals (zeros (births h)) (zeros (births h))
    (ap (λ o. sum_to (births h) (λ d. length (frame_for o d))) is
    ∙ ap (λ o. sum_to (births h) (λ d. length (for_one o d (octets ∷ [])))) (none_named h t.opened) ∙ zeros (births h)))
frame_sent {h} came {old} new (Content.Frame w) t g =
    let is = out_is (Content.Frame w) t g.was_out in
    let born = held_of w.local g.before t g.was in let e = event Step.Sent came Output.Sent in
    let one : one_if (is_sent Output.Sent (local_in (out h))) ≡ 1 =
    ap (λ o. one_if (is_sent Output.Sent (local_in o))) is ∙ ap (λ b. one_if (not b)) (not_abort w.local g.before t g.was)
    in
    let share : sum_to (births h) (λ d. length (frame_for (out h) d)) ≡ 1 =
    ap (λ o. sum_to (births h) (λ d. length (frame_for o d))) is ∙ sum_for length (births h) (named h w.local) g.before.birth (w.frame ∷ []) refl born.name born.first born.last
    in
    record {
      shared = same (shares (births h) h e) (added h e) (zeros (births h)) (zeros (births h)) (share ∙ sym one);
      counted = ap (λ (s : Shelf). s.totals) g.new_is
          ∙ same (make old.totals.accepted old.totals.served (old.totals.sent + 1)) (plus old.totals (added h e)) (none_more old.totals.accepted) (none_more old.totals.served) (ap (λ n. old.totals.sent + n) (sym one));
    }

-- MESSAGES

components_are : (came : Prepared) → components_came came ≡ component_count (entries_in came)
components_are (Prepared.Message arrival incoming) = refl
components_are came = refl

-- the dialogue that accepts one is there
abbrev Receives : List Event → Prepared → Posted → Type 0
Receives h came (Posted.Accepted count) = (b : ℕ) × (destination h (Some came) ≡ Some b) × (0 < b) × (b ≤ births h)
Receives h came _ = ⊤

received : (h : List Event) (came : Prepared) (components : ℕ) (answer : Posted) → Receives h came answer
    → sum_to (births_after (opened_in (Output.Posted answer components)) (births h)) (λ d. component_count (for_one (receiver answer (Some came) h) d (entries_in came))) ≡ components_in answer came
received h came components (Posted.Opened local) r =
    sum_for component_count (births h + 1) (Some (births h + 1)) (births h + 1) (entries_in came) refl refl (omega arith) (omega arith) ∙ sym (components_are came)
received h came components (Posted.Accepted count) r = sum_for component_count (births h) (destination h (Some came)) r.0 (entries_in came) refl r.1 r.2 r.3 ∙ sym (components_are came)
received h came components answer r = zeros (births h)

-- what a book counts of it, by its answer
accepts : (t : Totals) (came : Prepared) → more_accepted t (entries_in came) ≡ plus t (make (components_came came) 0 0)
accepts t came = same _ _ (ap (λ n. t.accepted + n) (sym (components_are came))) (none_more t.served) (none_more t.sent)

counted_by : (t : Totals) (came : Prepared) (answer : Posted) → posted_totals t came answer ≡ plus t (make (components_in answer came) 0 0)
counted_by t came (Posted.Opened local) = accepts t came
counted_by t came (Posted.Accepted count) = accepts t came
counted_by t came answer = plus_none t

message : (h : List Event) (step : Step) (came : Prepared) (answer : Posted) (components : ℕ) (old new : Shelf) → Receives h came answer → components ≡ components_in answer came → new.totals ≡ posted_totals old.totals came answer
    → Counts h (posts step came answer components) old new
message h step came answer components old new r count grows =
    let e = posts step came answer components in
    let n = births_after (opened_in (Output.Posted answer components)) (births h) in
    record {
      shared = same (shares n h e) (added h e) (received h came components answer r ∙ sym count) (zeros n) (zeros n);
      counted = grows ∙ counted_by old.totals came answer ∙ ap (λ n. plus old.totals (make n 0 0)) (sym count);
    }

-- no dialogue receives a refused message
refused : (h : List Event) (came : Prepared) (abort : Option (Tid × AbortCause)) (b : Bool) → Receives h came (refused_by abort b)
refused h came None true = tt
refused h came None false = tt
refused h came (Some (peer, cause)) b = tt

opens : (h : List Event) (came : Prepared) (next : Option ℕ) → Receives h came (opened_with next)
opens h came None = tt
opens h came (Some local) = tt

-- by the verdict
receives : {h : List Event} (came : Prepared) (answer : Posted) {old : Shelf} (new : Shelf) (waiting : ℕ) (next : Option ℕ) (v : Verdict) → Tied h old → Tells old came v → Follows v old came answer new → Receives h came (answer_of waiting next came v)
receives came answer new waiting next Verdict.Discard t told g = tt
receives {h} came answer new waiting next (Verdict.Refuse cause closes) t told g = refused h came (abort_for waiting cause (arrival_of came).ids.orig) (is_none closes)
receives {h} came answer new waiting next (Verdict.Open peer) t told g = opens h came next
receives came answer new waiting next (Verdict.Extend local false) t told g =
    let born = held_of local g.before t g.was in (g.before.birth, dest_of came local g.before t told.0 g.was, born.first, born.last)
receives came answer new waiting next (Verdict.Extend local true) t told g =
    let born = held_of local g.before t g.was in (g.before.birth, dest_of came local g.before t told.0 g.was, born.first, born.last)

-- EACH STEP

abbrev CountsBy : List Event → Option Prepared → Shelf → Shelf → Step → Output → Type 0
CountsBy h came old new step output = Counts h (event step came output) old new

counts : {h : List Event} (came : Option Prepared) {old : Shelf} (new : Shelf) → Tied h old → Sound old → Cases (CountsBy h came old new) came old new
counts {h} came {old} new t k =
    let none : (step : Step) (output : Output) → new.totals ≡ old.totals → added h (event step came output) ≡ no_totals → shares (births (event step came output ∷ h)) h (event step came output) ≡ no_totals → CountsBy h came old new step output =
    λ step output. quiet h (event step came output) old new in
    let stays : new ≡ old → new.totals ≡ old.totals = ap (λ (s : Shelf). s.totals) in
    let empty = none_shared (births h) in
    record {
      posted = λ step posting p answer components is count g totals.
          let v = verdict old p in let waiting = length old.outbox.aborts in
          let next = first_identifier (base old) old.free in
          let says = answer_is old new p answer v g in
          subst (λ c. Counts h (event step c (Output.Posted answer components)) old new) (sym is)
          (message h step p answer components old new (subst (Receives h p) (sym says) (receives p answer new waiting next v t (verdict_tells old p) g)) count totals);
      none_posted = λ step posting nothing same. none step Output.Nothing (stays same) refl empty;
      ticked = λ moment many wanting zero g. ticked h came moment many wanting old new (ap (λ (s : Shelf). s.totals) g.new_is);
      took = λ turn g. none Step.Take (Output.Took turn.local turn.position (length turn.entries)) (ap (λ (s : Shelf). s.totals) g.new_is) refl empty;
      no_room = λ some full same. none Step.Take Output.NoRoom (stays same) refl empty;
      none_taken = λ none_ready same. none Step.Take Output.Nothing (stays same) refl empty;
      gave = λ done given g.
          let local = done.turn.local in let born = held_of local g.before t g.was in
          let e = event (Step.Give local) came (Output.Gave local done.turn.position done.served given) in
          record {
            shared = same (shares (births h) h e) (added h e) (zeros (births h))
                (sum_for length (births h) (named h local) g.before.birth (numbers_from done.turn.position done.served) refl born.name born.first born.last ∙ length-numbers_from done.turn.position done.served) (zeros (births h));
            counted = ap (λ (s : Shelf). s.totals) g.new_is
                ∙ same (make old.totals.accepted (old.totals.served + done.served) old.totals.sent) (plus old.totals (added h e)) (none_more old.totals.accepted) refl (none_more old.totals.sent);
          };
      none_given = λ local out same. none (Step.Give local) Output.Nothing (stays same) refl empty;
      went_back = λ turn g. none (Step.PutBack turn.local) Output.WentBack (ap (λ (s : Shelf). s.totals) g.new_is) refl empty;
      none_back = λ local out same. none (Step.PutBack local) Output.Nothing (stays same) refl empty;
      picked = λ content frame octets g. none Step.Pick (Output.Picked _ frame) (ap (λ (s : Shelf). s.totals) g.new_is) refl empty;
      busy = λ some same. none Step.Pick Output.Busy (stays same) refl empty;
      none_picked = λ none_waits same. none Step.Pick Output.Nothing (stays same) refl empty;
      sent = λ content g. frame_sent came new content t g;
      none_sent = λ none_out same. none Step.Sent Output.Nothing (stays same) refl empty;
      unsent = λ parcel g. none Step.Unsent Output.Unsent (ap (λ (s : Shelf). s.totals) g.down.new_is) refl empty;
      none_unsent = λ none_out same. none Step.Unsent Output.Nothing (stays same) refl empty;
      down = λ g. none Step.Down Output.Down (ap (λ (s : Shelf). s.totals) g.new_is) refl empty;
    }

-- THE BOUND

pub none_few : AreFew no_totals
none_few = let low : 0 ≤ all_entries + 2 * most_dialogues = omega arith in record { accepted = low; served = low; sent = low }

sent_most : RowsKeepTheirOrder → (row : Row) → row.sent ≤ row.served
sent_most law row =
    let few : length (frames_of row) ≤ row.served = (law row).few_frames in
    let count : length (frames_of row) ≡ length (requests_of row) = length-map (requests_of row) (λ (request : Request). frame_of request row.local (octets_of row.peer)) in
    omega (arith, few, count, row.queued_within, row.kept_within, row.sent_within)

few_counted : RowsKeepTheirOrder → {s : Shelf} → Sound s → AreFew s.totals
few_counted law {s} k =
    let served : sum_of served_by s.rows ≤ sum_of (λ (row : Row). length row.accepted) s.rows = sum-le served_by (λ (row : Row). length row.accepted) s.rows (λ row. row.served_within) in
    let sent : sum_of sent_by s.rows ≤ sum_of served_by s.rows = sum-le sent_by served_by s.rows (sent_most law) in
    record {
      accepted = omega (arith, k.few_accepted, k.entries);
      served = omega (arith, served, k.served, k.all_entries, k.entries);
      sent = omega (arith, sent, served, k.sent, k.gone_sent, k.all_entries, k.entries);
    }

-- a step more, after a history whose totals the book has
pub add_up_next : RowsKeepTheirOrder → {h : List Event} (e : Event) {old new : Shelf} → Tied h old → Sound old → MakesOf e.step e.came e.output old new → Sound new
    → Headline h → Headline (e ∷ h) → AddUp (outputs_of h) h → old.totals ≡ totals_of (outputs_of h) → AddUp (outputs_of (e ∷ h)) (e ∷ h) × (new.totals ≡ totals_of (outputs_of (e ∷ h)))
add_up_next law {h} e {old} {new} t sound_old g sound held holds k was =
    let c : Counts h e old new = by_made _ e.step e.output (counts e.came new t sound_old) g in
    let more : totals_of (outputs_of (e ∷ h)) ≡ plus (totals_of (outputs_of h)) (added h e) = totals_next h e in
    let counted : new.totals ≡ totals_of (outputs_of (e ∷ h)) = c.counted ∙ ap (λ t. plus t (added h e)) was ∙ sym more in
    let all : sums (births (e ∷ h)) (e ∷ h) ≡ plus (sums (births h) h) (added h e) = sums_next h e (t.later (births h + 1) (omega arith)) ∙ ap (plus (sums (births h) h)) c.shared in (
      record {
        totals = more ∙ ap (λ t. plus t (added h e)) (k.totals ∙ by_places held) ∙ sym all ∙ sym (by_places holds);
        few = subst AreFew counted (few_counted law sound);
      },
      counted,
    )
