-- What a book logs of a step is what its history tells of it.
use Rattle.fp_steps.proofs.Names.{get_or_from_slice_get, is_some, slice_index_or, AreInPlace, greatest_place, [], cases_Bool, nat_le, placed, slice_get, table_at, told, told_from, unwrap_or, ⊎_elim, ⊤, Arrival, Bool, Content, Contents, Event, IsArrival, IsCame, IsLost, IsRead, List, LoggedStep, MakesOf, None, Option, Output, Posted, Prepared, Shelf, Some, Sound, Step, Tied, ap, birth_out, cond, false, followed_log, length, log_with, logged, nat_eq, not, option_map, parcel_birth, posted_line, refl, subst, sym, told_message, true, written, ℕ, ◌+◌, ◌∙◌, ◌≡◌}
use Rattle.fp_book.specs.Log as book
use Rattle.fp_steps.proofs.Cases.{Cases, by_made, read_by}
use Rattle.fp_steps.proofs.HeldDialogues.{by_option}
use Rattle.fp_steps.proofs.LoggedLines.{back_told, from_log, out_birth, picked_birth, sent_line}
use Rattle.fp_steps.proofs.StepAnswers.{sent_out}

-- of a message
arrived_line : {arrival : Arrival} {frame : List ℕ} {moment index : ℕ} (answer : Posted) → IsArrival frame moment arrival → arrival.table ≡ index → LoggedStep.Post arrival.table arrival.moment arrival.frame answer ≡ LoggedStep.Post index moment frame answer
arrived_line answer is by_table = λ i. LoggedStep.Post (by_table i) (is.is_moment i) (is.is_frame i) answer

read_line : (contents : Contents) (contexts : List (List ℕ)) (frame : List ℕ) (moment : ℕ) (p : Prepared) (answer : Posted) → IsRead contents contexts frame moment (Some p) → posted_line p answer ≡ LoggedStep.Post contents.index moment frame answer
read_line contents contexts frame moment (Prepared.Message arrival incoming) answer is = arrived_line answer is.0.is_arrival is.0.by_table
read_line contents contexts frame moment (Prepared.Refused arrival fault) answer is = arrived_line answer is.0.is_arrival is.0.by_table
read_line contents contexts frame moment (Prepared.Lost arrival) answer is = absurd (let clash : true ≡ false = is.1 in cc)

unread_line : (frame : List ℕ) (moment : ℕ) (p : Prepared) (answer : Posted) → IsLost frame moment p → posted_line p answer ≡ LoggedStep.Lost moment frame answer
unread_line frame moment (Prepared.Lost arrival) answer is = λ i. LoggedStep.Lost (is.0.is_moment i) (is.0.is_frame i) answer
unread_line frame moment p answer is = absurd is

-- its table was handed in, in a place of 0 to 65,535
pub record IsHandedIn (tables : List Contents) (table : ℕ) (contents : Contents) : Type 0 where
  pub within : nat_le table greatest_place ≡ true
  pub there : slice_get tables table ≡ Some contents

pub in_place_of : (tables : List Contents) (table : ℕ) (contents : Contents) → table_at tables table ≡ Some contents → IsHandedIn tables table contents
in_place_of tables table contents is = ⊎_elim
    (λ e. record { within = e; there = sym (ap (λ b. cond b (slice_get tables table) None) e) ∙ is })
    (λ ne. absurd (let clash : None ≡ Some contents = sym (ap (λ b. cond b (slice_get tables table) None) ne) ∙ is in cc))
    (cases_Bool (nat_le table greatest_place))

-- the one that is found in its place
pub table_there : (tables : List Contents) (table : ℕ) (contents : Contents) → is_some (table_at tables table) ≡ true → contents ≡ slice_index_or tables table contents → table_at tables table ≡ Some contents
table_there tables table contents is value = by_option (λ o. is_some o ≡ true → table_at tables table ≡ o → table_at tables table ≡ Some contents) (table_at tables table) (λ none e found. absurd (cc))
    (λ other some e found.
    let at : IsHandedIn tables table other = in_place_of tables table other found in
    found ∙ ap Some (sym (value ∙ get_or_from_slice_get tables table other contents at.there)))
    is refl

message_line : (tables : List Contents) (contexts : List (List ℕ)) (step : Step) (log : List LoggedStep) (p : Prepared) (answer : Posted) → AreInPlace tables → IsCame tables contexts step (Some p)
    → book.logged log (posted_line p answer) ≡ log_with log (written (told_message greatest_place step answer))
message_line tables contexts (Step.Post table frame moment) log p answer in_place is =
    let r = read_by (table_at tables table) contexts frame moment p is in
    let at : IsHandedIn tables table r.contents = in_place_of tables table r.contents r.is in
    ap (book.logged log) (read_line r.contents contexts frame moment p answer r.read ∙ ap (λ n. LoggedStep.Post n moment frame answer) (in_place table r.contents at.there))
    ∙ sym (ap (λ b. log_with log (written (cond b (Some (LoggedStep.Post table moment frame answer)) None))) at.within)
message_line tables contexts (Step.Lost frame moment) log p answer in_place is = ap (book.logged log) (unread_line frame moment p answer is)
message_line tables contexts step log p answer in_place is = absurd is

-- what a run tells of it, whatever place its table has
message_told : (tables : List Contents) (contexts : List (List ℕ)) (step : Step) (p : Prepared) (answer : Posted) → IsCame tables contexts step (Some p)
    → Some (placed step (posted_line p answer)) ≡ told_message greatest_place step answer
message_told tables contexts (Step.Post table frame moment) p answer is =
    let r = read_by (table_at tables table) contexts frame moment p is in
    let at : IsHandedIn tables table r.contents = in_place_of tables table r.contents r.is in
    let step : Step = Step.Post table frame moment in
    ap (λ line. Some (placed step line)) (read_line r.contents contexts frame moment p answer r.read)
    ∙ ap (λ b. Some (LoggedStep.Post (unwrap_or (cond b (Some table) None) r.contents.index) moment frame answer)) at.within
    ∙ sym (ap (λ b. cond b (Some (LoggedStep.Post table moment frame answer)) None) at.within)
message_told tables contexts (Step.Lost frame moment) p answer is = ap (λ line. Some (placed (Step.Lost frame moment) line)) (unread_line frame moment p answer is)
message_told tables contexts step p answer is = absurd is

-- a message is posted
record Posts (came : Option Prepared) (answer : Posted) (s after : Shelf) : Type 0 where
  message : Prepared
  is : came ≡ Some message
  log : after.log ≡ book.logged s.log (posted_line message answer)

posted_log : (step : Step) (came : Option Prepared) (answer : Posted) (components : ℕ) (s after : Shelf) → MakesOf step came (Output.Posted answer components) s after → Posts came answer s after
posted_log (Step.Post table frame moment) (Some p) answer components s after g = record { message = p; is = refl; log = followed_log s p answer after g.1 }
posted_log (Step.Lost frame moment) (Some p) answer components s after g = record { message = p; is = refl; log = followed_log s p answer after g.1 }
posted_log step came answer components s after g = absurd g

-- of a tick, where a dialogue was due
tick_line : (none : Bool) (log : List LoggedStep) (line : LoggedStep) → cond none log (book.logged log line) ≡ log_with log (cond (not none) (Some line) None)
tick_line true log line = refl
tick_line false log line = refl

-- of what was out
out_line : {h : List Event} {s : Shelf} (content : Content) (of : ℕ → LoggedStep) → Tied h s → Sound s → s.outbox.out ≡ Some content → Some (of (parcel_birth content)) ≡ option_map of (birth_out h)
out_line content of t k was = sym (ap (option_map of) (out_birth content t k was))

-- of all other steps what the history tells
abbrev LogsTo : List Event → Shelf → Shelf → Step → Output → Type 0
LogsTo h s after step (Output.Posted answer components) = ⊤
LogsTo h s after step output = after.log ≡ log_with s.log (logged h step output)

logs : {h : List Event} (came : Option Prepared) {s : Shelf} (after : Shelf) → Tied h s → Sound s → Cases (LogsTo h s after) came s after
logs came {s} after t k = record {
  posted = λ step posting p answer components same count g totals. tt;
  none_posted = λ step posting none same. ap (λ (s : Shelf). s.log) same;
  ticked = λ moment added wanting zero g. ap (λ (s : Shelf). s.log) g.new_is ∙ tick_line (nat_eq (added + wanting) 0) s.log (LoggedStep.Tick moment added wanting);
  took = λ turn g. ap (λ (s : Shelf). s.log) g.new_is
      ∙ ap (λ o. log_with s.log (written (option_map (λ d. LoggedStep.Take d turn.position (length turn.entries)) o))) (sym (t.names turn.local g.before g.was));
  no_room = λ some full same. ap (λ (s : Shelf). s.log) same;
  none_taken = λ empty same. ap (λ (s : Shelf). s.log) same;
  gave = λ done given g. ap (λ (s : Shelf). s.log) g.new_is
      ∙ ap (λ o. log_with s.log (written (option_map (λ d. LoggedStep.Give d done.turn.position done.served given) o))) (sym (t.names done.turn.local g.before g.was));
  none_given = λ local out same. ap (λ (s : Shelf). s.log) same;
  went_back = λ turn g. ap (λ (s : Shelf). s.log) g.new_is ∙ ap (λ o. log_with s.log (written o)) (back_told t g);
  none_back = λ local out same. ap (λ (s : Shelf). s.log) same;
  picked = λ content frame octets g. ap (λ (s : Shelf). s.log) g.new_is ∙ ap (λ n. log_with s.log (Some (LoggedStep.Pick n))) (sym (picked_birth content t k g));
  busy = λ some same. ap (λ (s : Shelf). s.log) same;
  none_picked = λ empty same. ap (λ (s : Shelf). s.log) same;
  sent = λ content g. sent_line s content after g ∙ ap (λ o. log_with s.log (written o)) (out_line content (λ d. LoggedStep.Sent d) t k (sent_out s content after g));
  none_sent = λ empty same. ap (λ (s : Shelf). s.log) same;
  unsent = λ parcel g. ap (λ (s : Shelf). s.log) g.down.new_is ∙ ap (λ o. log_with s.log (written o)) (out_line parcel.content (λ d. LoggedStep.Unsent d) t k g.was_out);
  none_unsent = λ empty same. ap (λ (s : Shelf). s.log) same;
  down = λ g. ap (λ (s : Shelf). s.log) g.new_is;
}

pub log_tells : (tables : List Contents) (contexts : List (List ℕ)) (h : List Event) (step : Step) (came : Option Prepared) (output : Output) (s after : Shelf) → AreInPlace tables → Tied h s → Sound s → IsCame tables contexts step came → MakesOf step came output s after
    → after.log ≡ log_with s.log (logged h step output)
log_tells tables contexts h step came (Output.Posted answer components) s after in_place t k is g =
    let p = posted_log step came answer components s after g in
    p.log ∙ message_line tables contexts step s.log p.message answer in_place (subst (IsCame tables contexts step) p.is is)
log_tells tables contexts h step came output s after in_place t k is g = by_made (LogsTo h s after) step output (logs came after t k) g

-- what a run tells of a step is what the history tells of it
pub line_is : (tables : List Contents) (contexts : List (List ℕ)) {h : List Event} (step : Step) (came : Option Prepared) (output : Output) {s : Shelf} (after : Shelf) → Tied h s → Sound s → s.log ≡ [] → IsCame tables contexts step came → MakesOf step came output s after
    → told_from after.log step output ≡ told h step output
line_is tables contexts {h} step came (Output.Posted answer components) {s} after t k empty is g =
    let p = posted_log step came answer components s after g in
    ap (λ log. told_from log step (Output.Posted answer components)) (p.log ∙ ap (λ log. book.logged log (posted_line p.message answer)) empty)
    ∙ message_told tables contexts step p.message answer (subst (IsCame tables contexts step) p.is is)
line_is tables contexts {h} step came output {s} after t k empty is g = from_log h step output s.log after.log tt empty (by_made (LogsTo h s after) step output (logs came after t k) g)
