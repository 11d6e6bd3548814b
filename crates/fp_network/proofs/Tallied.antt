-- Each connection that is closed is counted once.
use Rattle.std.proofs.Common.{◌≡◌, ℕ, zero, suc, ◌+◌, ◌<◌, ◌≤◌, Bool, true, false, nat_eq, List, [], ◌∷◌, ◌++◌, Option, Some, None, append-nil, append_assoc, arith, inl, inr, length, is_some, slice_get, refl, sym, subst, ap, ◌∙◌}
use Rattle.std.proofs.lemmas.Bool.{cases_Bool, cases_lt, eqb-false, eqb-true, false≢true}
use Rattle.std.proofs.lemmas.List.{get_or_past}
use Rattle.std.proofs.lemmas.List.Sorted.{IsPermutation-append, IsPermutation-append_comm, IsPermutation-append_left, IsPermutation-append_right, IsPermutation-refl, IsPermutation-sym, IsPermutation-trans}
use Rattle.std.proofs.lemmas.Option.{none-some}
use Rattle.std.specs.List.{flat_map, range_with_len}
use Rattle.std.specs.List.Sorted.{IsPermutation}
use Rattle.std.specs.Option.{option_map}
use Rattle.fp_ipa.specs.declared.message.IpaMessage.{IpaMessage}
use Rattle.fp_ipa.specs.declared.stream_identifier.StreamIdentifier.{StreamIdentifier}
use Rattle.fp_network.specs.declared.arrival.Arrival.{Arrival}
use Rattle.fp_network.specs.declared.arrival.Arrival.TheVariants as arrivals
use Rattle.fp_network.specs.declared.connection.Connection.{Connection}
use Rattle.fp_network.specs.declared.course.Course.{Course}
use Rattle.fp_network.specs.declared.course.Course.TheVariants.{Open, Draining, Shut, Over}
use Rattle.fp_network.specs.declared.event.Closing.{Closing}
use Rattle.fp_network.specs.declared.event.NetworkEvent.{NetworkEvent}
use Rattle.fp_network.specs.declared.event.NetworkEvent.TheVariants.{Active, Gone}
use Rattle.fp_network.specs.declared.node.Node.{Node}
use Rattle.fp_network.specs.declared.tally.Tally.{Tally}
use Rattle.fp_network.specs.Changes.{closing, is_slow, sending, sending_if}
use Rattle.fp_network.specs.Counting.{AreActive, Counts, CountsActive, Notes, active_by, active_for, active_of, counted_for, course_at, course_of, gone_at, gone_below, gone_for, gone_if, number_of}
use Rattle.fp_network.specs.Course.{closed, closing_of}
use Rattle.fp_network.specs.Node.{LeavesOthers, connection_at, connection_in, is_over_at, is_over_of}
use Rattle.fp_network.specs.Receiving.{NextIf, NextIn, feeding}
use Rattle.fp_network.specs.Stepping.{ArrivesIf, ArrivesIn}
use Rattle.fp_network.specs.Tally.{closed_once_more, closings_of}
use Rattle.fp_network.proofs.First.{same_some}
use Rattle.fp_network.proofs.News.{notes_none, notes_then}

-- the number of a connection and how far it is from its end, if there is one
abbrev pub progress_of : Option Connection → Option (ℕ × Course)
progress_of None = None
progress_of (Some own) = Some (own.number, own.course)

-- no connection is nearer to its end
abbrev pub CoursesStay : Node → Node → Type 0
CoursesStay old new = (place : ℕ) → progress_of (connection_in new place) ≡ progress_of (connection_in old place)

abbrev course_by : Option (ℕ × Course) → Option Course
course_by None = None
course_by (Some own) = Some own.1

course_is : (own : Option Connection) → course_of own ≡ course_by (progress_of own)
course_is None = refl
course_is (Some own) = refl

course_same : (one other : Option Connection) → progress_of one ≡ progress_of other → course_of one ≡ course_of other
course_same one other same = course_is one ∙ ap course_by same ∙ sym (course_is other)

-- whether a connection is to be closed, and why, follows from its course
abbrev over_by : Option Course → Bool
over_by None = true
over_by (Some course) = is_some (closing_of course)

over_is : (own : Option Connection) → is_over_of own ≡ over_by (course_of own)
over_is None = refl
over_is (Some own) = refl

over_of_course : (one other : Option Connection) → course_of one ≡ course_of other → is_over_of one ≡ is_over_of other
over_of_course one other same = over_is one ∙ ap over_by same ∙ sym (over_is other)

pub over_same : (one other : Option Connection) → progress_of one ≡ progress_of other → is_over_of one ≡ is_over_of other
over_same one other same = over_of_course one other (course_same one other same)

abbrev why_by : Option Course → Option Closing
why_by None = None
why_by (Some course) = closing_of course

-- and its number doesn't change
abbrev number_by : Option (ℕ × Course) → Option ℕ
number_by None = None
number_by (Some own) = Some own.0

number_is : (own : Option Connection) → number_of own ≡ number_by (progress_of own)
number_is None = refl
number_is (Some own) = refl

number_same : (one other : Option Connection) → progress_of one ≡ progress_of other → number_of one ≡ number_of other
number_same one other same = number_is one ∙ ap number_by same ∙ sym (number_is other)

pub none_if : (why : Option Closing) → is_some why ≡ false → why ≡ None
none_if None is = refl
none_if (Some why) is = absurd (false≢true (sym is))

-- the event of a connection that is closed depends on its number and its course, and there is none of any other one
gone_as : (over : Bool) (one other : Option Connection) → number_of one ≡ number_of other → course_of one ≡ course_of other
    → gone_if over one ≡ gone_if over other
gone_as true one other number course = refl
gone_as false None None number course = refl
gone_as false None (Some other) number course = absurd (none-some _ number)
gone_as false (Some one) None number course = absurd (none-some _ (sym number))
gone_as false (Some one) (Some other) number course =
    λ i. gone_for (same_some one.number other.number number i) (ap why_by course i)

-- there is none of one that isn't to be closed, or was before
pub gone_none : (over : Bool) (own : Option Connection) → is_over_of own ≡ over → gone_if over own ≡ []
gone_none true own is = refl
gone_none false None is = refl
gone_none false (Some own) is = ap (gone_for own.number) (none_if (closing_of own.course) is)

-- which of the places have an event decides alone
none_each : (f : ℕ → List NetworkEvent) (places : List ℕ) → ((place : ℕ) → f place ≡ []) → flat_map f places ≡ []
none_each f [] none = refl
none_each f (place ∷ places) none = λ i. none place i ++ none_each f places none i

none_past : (f : ℕ → List NetworkEvent) (place first count : ℕ) → place < first → ((other : ℕ) → (other ≡ place → ⊥) → f other ≡ [])
    → flat_map f (range_with_len first count) ≡ []
none_past f place first zero past none = refl
none_past f place first (suc count) past none =
    λ i. none first (λ is. absurd (omega (arith, is, past))) i ++ none_past f place (first + 1) count (omega (arith, past)) none i

one_each : (f : ℕ → List NetworkEvent) (place first count : ℕ) → first ≤ place → place < first + count
    → ((other : ℕ) → (other ≡ place → ⊥) → f other ≡ []) → flat_map f (range_with_len first count) ≡ f place
one_each f place first zero from below none = absurd (omega (arith, from, below))
one_each f place first (suc count) from below none = elim (cases_lt first place) [
  | inl less ↦ λ i.
      none first (λ is. absurd (omega (arith, is, less))) i
      ++ one_each f place (first + 1) count (omega (arith, less)) (omega (arith, below)) none i
  | inr above ↦
      let is : first ≡ place = omega (arith, from, above) in
      (λ i. f (is i) ++ none_past f place (first + 1) count (omega (arith, above)) none i) ∙ append-nil (f place)
]

-- in which order they are doesn't matter
swap_inner : (a b c d : List NetworkEvent) → IsPermutation ((a ++ b) ++ (c ++ d)) ((a ++ c) ++ (b ++ d))
swap_inner a b c d =
    subst (λ (l : List NetworkEvent). IsPermutation l ((a ++ c) ++ (b ++ d))) (sym (append_assoc a b (c ++ d)))
    (subst (IsPermutation (a ++ (b ++ (c ++ d)))) (sym (append_assoc a c (b ++ d)))
    (IsPermutation-append_right a (b ++ (c ++ d)) (c ++ (b ++ d))
    (subst (λ (l : List NetworkEvent). IsPermutation l (c ++ (b ++ d))) (append_assoc b c d)
    (subst (IsPermutation ((b ++ c) ++ d)) (append_assoc c b d)
    (IsPermutation-append_left d (b ++ c) (c ++ b) (IsPermutation-append_comm b c))))))

each_then : (first then all : ℕ → List NetworkEvent) (places : List ℕ) → ((place : ℕ) → first place ++ then place ≡ all place)
    → IsPermutation (flat_map first places ++ flat_map then places) (flat_map all places)
each_then first then all [] each = IsPermutation-refl []
each_then first then all (place ∷ places) each =
    IsPermutation-trans _ _ _ (swap_inner (first place) (flat_map first places) (then place) (flat_map then places))
    (subst (λ (here : List NetworkEvent).
    IsPermutation ((first place ++ then place) ++ (flat_map first places ++ flat_map then places)) (here ++ flat_map all places)) (each place)
    (IsPermutation-append_right (first place ++ then place) _ _ (each_then first then all places each)))

counted_then : (why : Closing) (events others : List NetworkEvent) (count : ℕ)
    → counted_for why (events ++ others) count ≡ counted_for why others (counted_for why events count)
counted_then why [] others count = refl
counted_then why (Gone number other ∷ events) others count = counted_then why events others (closed_once_more other why count)
counted_then why (event ∷ events) others count = counted_then why events others count

pub counts_more : {active more : List NetworkEvent} (old mid new : Node) → length mid.places.items ≡ length old.places.items
    → Counts active old mid → Counts more mid new → Counts (active ++ more) old new
counts_more {active} {more} old mid new long first then = record {
  events = first.events ++ then.events;
  news = notes_then first.events then.events old mid new first.news then.news;
  once =
      IsPermutation-trans _ _ _ (IsPermutation-append_right (active ++ more) _ _ (IsPermutation-sym _ _ gones))
      (IsPermutation-trans _ _ _ (swap_inner active more _ _)
      (IsPermutation-append _ _ _ _ first.once
      (subst (λ (count : ℕ). IsPermutation (more ++ gone_below count mid new) then.events) long then.once)));
  each = λ why.
      then.each why ∙ ap (counted_for why then.events) (first.each why)
      ∙ sym (counted_then why first.events then.events (closings_of old.tally why));
  stay = λ place over. then.stay place (over_mid place over) ∙ first.stay place over;
  connections = then.connections ∙ first.connections;
  numbers = λ place. then.numbers place ∙ first.numbers place;
}
  where
    over_mid : (place : ℕ) → is_over_at old place ≡ true → is_over_at mid place ≡ true
    over_mid place over = over_of_course (connection_in mid place) (connection_in old place) (first.stay place over) ∙ over

    lived : (place : ℕ) → is_over_at mid place ≡ false → is_over_at old place ≡ false
    lived place lives = elim (cases_Bool (is_over_at old place)) [
      | inl over ↦ absurd (false≢true (sym lives ∙ over_mid place over))
      | inr before ↦ before
    ]

    gone_then : (place : ℕ) → gone_at old mid place ++ gone_at mid new place ≡ gone_at old new place
    gone_then place = elim (cases_Bool (is_over_at mid place)) [
      | inl over ↦
          (λ i. gone_at old mid place ++ gone_if (over i) (connection_in new place)) ∙ append-nil (gone_at old mid place)
          ∙ gone_as (is_over_at old place) _ _ (sym (then.numbers place)) (sym (then.stay place over))
      | inr lives ↦
          (λ i.
          gone_none (is_over_at old place) (connection_in mid place) (lives ∙ sym (lived place lives)) i
          ++ gone_if ((lives ∙ sym (lived place lives)) i) (connection_in new place))
    ]

    gones : IsPermutation (gone_below (length old.places.items) old mid ++ gone_below (length old.places.items) mid new)
        (gone_below (length old.places.items) old new)
    gones = each_then (gone_at old mid) (gone_at mid new) (gone_at old new) (range_with_len 0 (length old.places.items)) gone_then

-- and messages follow others
active_then : (events more : List NetworkEvent) → AreActive events → AreActive more → AreActive (events ++ more)
active_then [] more are then = then
active_then (Active number unit ∷ events) more are then = active_then events more are then
active_then (event ∷ events) more are then = absurd are

pub counts_on : (old mid new : Node) → length mid.places.items ≡ length old.places.items → CountsActive old mid → CountsActive mid new
    → CountsActive old new
counts_on old mid new long (active, are, first) (more, on, then) =
    (active ++ more, active_then active more are on, counts_more old mid new long first then)

-- nothing is closed
counted_none : (why : Closing) (events : List NetworkEvent) (count : ℕ) → AreActive events → counted_for why events count ≡ count
counted_none why [] count are = refl
counted_none why (Active number unit ∷ events) count are = counted_none why events count are
counted_none why (event ∷ events) count are = absurd are

pub counts_same : (events : List NetworkEvent) (old new : Node)
    → ((why : Closing) → closings_of new.tally why ≡ closings_of old.tally why) → new.tally.connections ≡ old.tally.connections
    → CoursesStay old new → Notes events old new → AreActive events → Counts events old new
counts_same events old new tally connections same notes are = record {
  events = events;
  news = notes;
  once =
      subst (λ (l : List NetworkEvent). IsPermutation l events)
      (sym ((λ i. events ++ none_each (gone_at old new) (range_with_len 0 (length old.places.items)) none i) ∙ append-nil events))
      (IsPermutation-refl events);
  each = λ why. tally why ∙ sym (counted_none why events (closings_of old.tally why) are);
  stay = λ place over. courses place;
  connections = connections;
  numbers = λ place. number_same (connection_in new place) (connection_in old place) (same place);
}
  where
    courses : (place : ℕ) → course_at new place ≡ course_at old place
    courses place = course_same (connection_in new place) (connection_in old place) (same place)

    none : (place : ℕ) → gone_at old new place ≡ []
    none place =
        gone_none (is_over_at old place) (connection_in new place)
        (over_of_course (connection_in new place) (connection_in old place) (courses place))

-- the connection in one place has another course, or not
pub courses_at : (place : ℕ) (old new : Node) → progress_of (connection_in new place) ≡ progress_of (connection_in old place)
    → LeavesOthers place old new → CoursesStay old new
courses_at place old new here others other = elim (cases_Bool (nat_eq other place)) [
  | inl is ↦ subst (λ (other : ℕ). progress_of (connection_in new other) ≡ progress_of (connection_in old other)) (sym (eqb-true other place is)) here
  | inr apart ↦ ap progress_of (others other (eqb-false other place apart))
]

pub courses_map : (change : Connection → Connection) → ((own : Connection) → progress_of (Some (change own)) ≡ progress_of (Some own))
    → (own : Option Connection) → progress_of (option_map change own) ≡ progress_of own
courses_map change same None = refl
courses_map change same (Some own) = same own

-- octets are read, a message is read, comes or is sent
pub courses_fed : (octets : List ℕ) (own : Option Connection) → progress_of (option_map (feeding octets) own) ≡ progress_of own
courses_fed octets = courses_map (feeding octets) (λ own. refl)

sends_if : (fits written : Bool) (octets : List ℕ) (own : Connection)
    → progress_of (Some (sending_if fits written octets own)) ≡ progress_of (Some own)
sends_if true true octets own = refl
sends_if true false octets own = refl
sends_if false written octets own = refl

pub courses_sent : (octets : List ℕ) (own : Option Connection) → progress_of (option_map (sending octets) own) ≡ progress_of own
courses_sent octets = courses_map (sending octets) (λ own. sends_if _ _ octets own)

next_if : (over : Bool) (old : Connection) (new : Option Connection) (message : Option IpaMessage) → NextIf over old new message
    → progress_of new ≡ progress_of (Some old)
next_if true old new message so = ap progress_of so.0
next_if false old new message so = ap progress_of so.1

pub courses_next : (old new : Option Connection) (message : Option IpaMessage) → NextIn old new message → progress_of new ≡ progress_of old
courses_next None new message so = ap progress_of so.0
courses_next (Some old) new message so = next_if (is_some (closing_of old.course)) old new message so

arrives_if : (slow : Bool) (names : List (List ℕ)) (drains : Bool) (stream : StreamIdentifier) (octets : List ℕ) (old new : Connection)
    (arrival : Arrival) → ArrivesIf slow names drains stream octets old new arrival → progress_of (Some new) ≡ progress_of (Some old)
arrives_if true names drains stream octets old new arrival so = ap (λ (own : Connection). progress_of (Some own)) so.0
arrives_if false names drains stream octets old new arrival so = ap (λ (own : Connection). progress_of (Some own)) so.same

pub courses_arrived : (names : List (List ℕ)) (drains : Bool) (stream : StreamIdentifier) (octets : List ℕ) (old new : Option Connection)
    (arrival : Arrival) → ArrivesIn names drains stream octets old new arrival → progress_of new ≡ progress_of old
courses_arrived names drains stream octets None new arrival so = ap progress_of so.0
courses_arrived names drains stream octets (Some old) new arrival so =
    ap progress_of so.1 ∙ arrives_if (is_slow old) names drains stream octets old so.0 arrival so.2

-- a call changes the connection in one place, but not its course, and counts none
pub counts_at : (place : ℕ) (old new : Node) → progress_of (connection_in new place) ≡ progress_of (connection_in old place)
    → LeavesOthers place old new → new.tally ≡ old.tally → new.news ≡ old.news → Counts [] old new
counts_at place old new here others tally news =
    counts_same [] old new (λ why. ap (λ (t : Tally). closings_of t why) tally) (ap (λ (t : Tally). t.connections) tally)
    (courses_at place old new here others) (notes_none old new news) tt

-- a call changes no connection, and counts none
counts_places : (events : List NetworkEvent) (old new : Node) → new.places ≡ old.places → new.tally ≡ old.tally → Notes events old new
    → AreActive events → Counts events old new
counts_places events old new places tally =
    counts_same events old new (λ why. ap (λ (t : Tally). closings_of t why) tally) (ap (λ (t : Tally). t.connections) tally)
    (λ place. ap (λ places. progress_of (connection_at places.items place)) places)

pub counts_none : (old new : Node) → new.places ≡ old.places → new.tally ≡ old.tally → new.news ≡ old.news → Counts [] old new
counts_none old new places tally news = counts_places [] old new places tally (notes_none old new news) tt

-- the event of a connection that is active reports none over
are_active_for : (number : ℕ) (named : Option (List ℕ)) → AreActive (active_for number named)
are_active_for number None = tt
are_active_for number (Some unit) = tt

are_active : (names : List (List ℕ)) (unit : ℕ) (own : Option Connection) → AreActive (active_of names unit own)
are_active names unit None = tt
are_active names unit (Some own) = are_active_for own.number (slice_get names unit)

pub are_active_by : (arrival : Arrival) (names : List (List ℕ)) (own : Option Connection) → AreActive (active_by arrival names own)
are_active_by (arrivals.Active unit) names own = are_active names unit own
are_active_by arrivals.Nothing names own = tt
are_active_by arrivals.Skipped names own = tt
are_active_by arrivals.UnitData names own = tt
are_active_by (arrivals.Close why) names own = tt

-- the event hangs on the number of the connection alone, so that it is reported after others
active_of_number : List (List ℕ) → ℕ → Option ℕ → List NetworkEvent
active_of_number names unit None = []
active_of_number names unit (Some number) = active_for number (slice_get names unit)

active_is : (names : List (List ℕ)) (unit : ℕ) (own : Option Connection) → active_of names unit own ≡ active_of_number names unit (number_of own)
unfolding active_of_number
active_is names unit None = refl
active_is names unit (Some own) = refl

pub counts_active : (unit place : ℕ) (old mid new : Node) → mid.names.items ≡ old.names.items
    → length mid.places.items ≡ length old.places.items → Counts [] old mid → new.places ≡ mid.places → new.tally ≡ mid.tally
    → Notes (active_of mid.names.items unit (connection_in mid place)) mid new
    → Counts (active_of old.names.items unit (connection_in old place)) old new
counts_active unit place old mid new names long counts places tally notes =
    subst (λ (events : List NetworkEvent). Counts events old new) same
    (counts_more old mid new long counts
    (counts_places _ mid new places tally notes (are_active mid.names.items unit (connection_in mid place))))
  where
    same : active_of mid.names.items unit (connection_in mid place) ≡ active_of old.names.items unit (connection_in old place)
    same =
        active_is mid.names.items unit (connection_in mid place) ∙ ap (active_of_number mid.names.items unit) (counts.numbers place)
        ∙ ap (λ names. active_of_number names unit (number_of (connection_in old place))) names
        ∙ sym (active_is old.names.items unit (connection_in old place))

-- the connection in one place is closed
closed_stays : (why : Closing) (course : Course) → is_some (closing_of course) ≡ true → closed why course ≡ course
closed_stays why Open over = absurd (false≢true over)
closed_stays why (Draining since) over = absurd (false≢true over)
closed_stays why (Shut since) over = absurd (false≢true over)
closed_stays why (Over first) over = refl

pub closing_stays : (why : Closing) (own : Option Connection) → is_over_of own ≡ true → progress_of (option_map (closing why) own) ≡ progress_of own
closing_stays why None over = refl
closing_stays why (Some own) over = ap (λ (course : Course). Some (own.number, course)) (closed_stays why own.course over)

pub closed_for : (why : Closing) (course : Course) → is_some (closing_of course) ≡ false → closing_of (closed why course) ≡ Some why
closed_for why Open lives = refl
closed_for why (Draining since) lives = refl
closed_for why (Shut since) lives = refl
closed_for why (Over first) lives = absurd (false≢true (sym lives))

closing_number : (why : Closing) (own : Option Connection) → number_of (option_map (closing why) own) ≡ number_of own
closing_number why None = refl
closing_number why (Some own) = refl

-- the event of the one that is closed has its number and the reason
pub gone_is : (why : Closing) (own : Option Connection) (number : ℕ) → is_over_of own ≡ false → number_of own ≡ Some number
    → gone_if false (option_map (closing why) own) ≡ Gone number why ∷ []
gone_is why None number lives is = absurd (none-some _ is)
gone_is why (Some own) number lives is = λ i. gone_for (same_some own.number number is i) (closed_for why own.course lives i)

pub counts_one : (why : Closing) (place : ℕ) (old new : Node) → connection_in new place ≡ option_map (closing why) (connection_in old place)
    → LeavesOthers place old new → (is_over_at old place ≡ true → new.tally ≡ old.tally)
    → (is_over_at old place ≡ false → (other : Closing) → closings_of new.tally other ≡ closed_once_more why other (closings_of old.tally other))
    → (is_over_at old place ≡ true → new.news ≡ old.news)
    → (is_over_at old place ≡ false → (number : ℕ) × (number_of (connection_in old place) ≡ Some number) × Notes (Gone number why ∷ []) old new)
    → new.tally.connections ≡ old.tally.connections → Counts [] old new
counts_one why place old new here others stays counts silent reports connections = elim (cases_Bool (is_over_at old place)) [
  | inl over ↦ counts_same [] old new (λ other. ap (λ (t : Tally). closings_of t other) (stays over)) connections
      (courses_at place old new (ap progress_of here ∙ closing_stays why (connection_in old place) over) others)
      (notes_none old new (silent over)) tt
  | inr lives ↦ record {
    events = Gone (reports lives).0 why ∷ [];
    news = let report = reports lives in report.2;
    once =
        subst (λ (l : List NetworkEvent). IsPermutation l (Gone (reports lives).0 why ∷ [])) (sym (gone lives))
        (IsPermutation-refl (Gone (reports lives).0 why ∷ []));
    each = λ other. counts lives other;
    stay = λ other over. ap course_of (others other (λ is. false≢true (sym lives ∙ ap (is_over_at old) (sym is) ∙ over)));
    connections = connections;
    numbers = λ other. elim (cases_Bool (nat_eq other place)) [
      | inl is ↦ subst (λ (other : ℕ). number_of (connection_in new other) ≡ number_of (connection_in old other)) (sym (eqb-true other place is))
          (ap number_of here ∙ closing_number why (connection_in old place))
      | inr apart ↦ ap number_of (others other (eqb-false other place apart))
    ];
  }
]
  where
    within : is_over_at old place ≡ false → place < length old.places.items
    within lives = elim (cases_lt place (length old.places.items)) [
      | inl below ↦ below
      | inr above ↦ absurd (false≢true (sym lives ∙ ap is_over_of (get_or_past old.places.items place None (omega (arith, above)))))
    ]

    gone : (lives : is_over_at old place ≡ false) → gone_below (length old.places.items) old new ≡ Gone (reports lives).0 why ∷ []
    gone lives =
        one_each (gone_at old new) place 0 (length old.places.items) (omega arith) (let below = within lives in omega (arith, below))
        (λ other apart. gone_none (is_over_at old other) (connection_in new other) (ap is_over_of (others other apart)))
        ∙ (λ i. gone_if (lives i) (here i)) ∙ gone_is why (connection_in old place) (reports lives).0 lives (reports lives).1
