-- A call keeps each connection that a unit has there and not to be closed.
use Rattle.std.proofs.Common.{◌≡◌, ℕ, Bool, true, false, ◌⊎◌, nat_eq, cond, List, [], ◌∷◌, ◌++◌, Option, Some, None, append_assoc, inl, inr, is_none, is_some, refl, sym, subst, ap, ◌∙◌}
use Rattle.std.proofs.lemmas.Bool.{cases_Bool, eqb-false, eqb-true, false≢true}
use Rattle.std.proofs.lemmas.Option.{none-some}
use Rattle.std.specs.Option.{option_map}
use Rattle.fp_adaptor.specs.declared.adaptor.Adaptor.{Adaptor}
use Rattle.fp_adaptor.specs.declared.adaptor.Outcome.{Outcome}
use Rattle.fp_adaptor.specs.declared.adaptor.Outcome.TheVariants as outcomes
use Rattle.fp_adaptor.specs.declared.adaptor.Sending.{Sending}
use Rattle.fp_adaptor.specs.declared.adaptor.Sending.TheVariants as sendings
use Rattle.fp_adaptor.specs.declared.setting.Setting.{Setting}
use Rattle.fp_adaptor.specs.Adaptor.{Comes, Led, Receives, TakesJudged, what_became}
use Rattle.fp_adaptor.specs.History.{Event, came, connection_after, said}
use Rattle.fp_adaptor.specs.Verdict.{Verdict}
use Rattle.fp_adaptor.specs.Verdict as verdicts
use Rattle.fp_ipa.specs.declared.message.IpaMessage.{IpaMessage}
use Rattle.fp_network.specs.declared.arrival.Arrival.{Arrival}
use Rattle.fp_network.specs.declared.arrival.Arrival.TheVariants.{Active, Close, Nothing, Skipped, UnitData}
use Rattle.fp_network.specs.declared.connection.Connection.{Connection}
use Rattle.fp_network.specs.declared.course.Course.{Course}
use Rattle.fp_network.specs.declared.course.Course.TheVariants.{Open, Draining, Shut, Over}
use Rattle.fp_network.specs.declared.event.Closing.{Closing}
use Rattle.fp_network.specs.declared.event.Closing.TheVariants.{Replaced, TooLong}
use Rattle.fp_network.specs.declared.node.Node.{Node}
use Rattle.fp_network.specs.Course.{closing_of, drained, shut}
use Rattle.fp_network.specs.Endings.{ClosesOnly, EndsClosed, IsTied, KeepsTied}
use Rattle.fp_network.specs.Forwarding.{ForwardsEach, ForwardsOctets, Puts}
use Rattle.fp_network.specs.Node.{ChangesEach, LeavesOthers, connection_at, connection_in, ended_at, ended_unless, is_over_at, is_over_of}
use Rattle.fp_network.specs.Receiving.{ComesTo, EndsAt, NextIf, NextIn, Steps, answering}
use Rattle.fp_network.proofs.First.{same_some}
use Rattle.fp_network.proofs.Hearing.{HearingOn, HearsOn, same_led}
use Rattle.fp_network.proofs.Tallied.{CoursesStay, courses_arrived, courses_at, courses_fed, courses_next, courses_sent, over_same, progress_of}
use Rattle.fp_network.proofs.Tied.{tied_closes, without_some}

-- events lead to a node, and it is tied after them
abbrev Ties : Setting → Node → Type 0
Ties setting node = (later : List Event) × Led node.adaptor setting later × IsTied node later

-- which connection a unit has is the same after all events that lead to an adaptor
led_same : (own : Adaptor) (setting : Setting) (one other : List Event) → Led own setting one → Led own setting other
    → (unit : ℕ) → connection_after other unit ≡ connection_after one unit
led_same own setting one other first then unit = sym (then.connections unit) ∙ first.connections unit

keeps_by : (old new : Node) → ((setting : Setting) (history : List Event) → Led old.adaptor setting history → IsTied old history → Ties setting new)
    → KeepsTied old new
keeps_by old new so setting history later led tied then unit place is =
    let ties = so setting history led tied in
    ties.2 unit place (led_same new.adaptor setting later ties.0 then ties.1 unit ∙ is)

-- no connection is to be closed that wasn't
tied_lives : (old new : Node) (history : List Event) → ((place : ℕ) → is_over_at old place ≡ false → is_over_at new place ≡ false)
    → IsTied old history → IsTied new history
tied_lives old new history lives tied unit place is = lives place (tied unit place is)

pub keeps_lives : (old new : Node) → new.adaptor ≡ old.adaptor → ((place : ℕ) → is_over_at old place ≡ false → is_over_at new place ≡ false)
    → KeepsTied old new
keeps_lives old new own lives =
    keeps_by old new (λ setting history led tied. (history, same_led _ _ setting history own led, tied_lives old new history lives tied))

lives_places : (old new : Node) → new.places ≡ old.places → (place : ℕ) → is_over_at old place ≡ false → is_over_at new place ≡ false
lives_places old new places place lives = ap (λ places. is_over_of (connection_at places.items place)) places ∙ lives

pub keeps_places : (old new : Node) → new.adaptor ≡ old.adaptor → new.places ≡ old.places → KeepsTied old new
keeps_places old new own places = keeps_lives old new own (lives_places old new places)

-- a place whose connection is over, or that is free, gets another one, or none
pub keeps_away : (place : ℕ) (old new : Node) → new.adaptor ≡ old.adaptor → is_over_at old place ≡ true → LeavesOthers place old new
    → KeepsTied old new
keeps_away place old new own over others =
    keeps_lives old new own
    (λ other lives. ap is_over_of (others other (λ is. false≢true (sym lives ∙ ap (is_over_at old) is ∙ over))) ∙ lives)

pub free_over : (own : Option Connection) → is_none own ≡ true → is_over_of own ≡ true
free_over None is = refl
free_over (Some own) is = absurd (false≢true is)

-- connections are changed, and whether they are to be closed isn't
module _ (change : Connection → Connection) (same : (own : Connection) → is_some (closing_of (change own).course) ≡ is_some (closing_of own.course)) where
  over_changed : (own : Option Connection) → is_over_of (option_map change own) ≡ is_over_of own
  over_changed None = refl
  over_changed (Some own) = same own

  pub keeps_each : (old new : Node) → new.adaptor ≡ old.adaptor → ChangesEach change old new → KeepsTied old new
  keeps_each old new own each =
      keeps_lives old new own (λ place lives. ap is_over_of (each place) ∙ over_changed (connection_in old place) ∙ lives)

  pub keeps_at : (place : ℕ) (old new : Node) → new.adaptor ≡ old.adaptor → connection_in new place ≡ option_map change (connection_in old place)
      → LeavesOthers place old new → KeepsTied old new
  keeps_at place old new own here others = keeps_lives old new own (λ other lives. elim (cases_Bool (nat_eq other place)) [
    | inl is ↦ subst (λ (other : ℕ). is_over_at old other ≡ false → is_over_at new other ≡ false) (sym (eqb-true other place is))
        (λ lives. ap is_over_of here ∙ over_changed (connection_in old place) ∙ lives) lives
    | inr apart ↦ ap is_over_of (others other (eqb-false other place apart)) ∙ lives
  ])

pub over_drained : (is_common : Bool) (at : ℕ) (course : Course) → is_some (closing_of (drained is_common at course)) ≡ is_some (closing_of course)
over_drained true at Open = refl
over_drained true at (Draining since) = refl
over_drained true at (Shut since) = refl
over_drained true at (Over why) = refl
over_drained false at course = refl

pub over_shut : (course : Course) → is_some (closing_of (shut course)) ≡ is_some (closing_of course)
over_shut Open = refl
over_shut (Draining since) = refl
over_shut (Shut since) = refl
over_shut (Over why) = refl

tied_courses : (old new : Node) (history : List Event) → CoursesStay old new → IsTied old history → IsTied new history
tied_courses old new history same =
    tied_lives old new history (λ place lives. over_same (connection_in new place) (connection_in old place) (same place) ∙ lives)

-- connections are closed
pub keeps_closed : (old new : Node) → EndsClosed old new → KeepsTied old new
keeps_closed old new (closed, closes, adds) =
    keeps_by old new (λ setting history led tied. (closed ++ history, adds setting history led, tied_closes old new history closed closes tied))

tied_only : (why : Closing) (closed : Option ℕ) (old new : Node) (history : List Event) → ClosesOnly why closed old new → IsTied old history
    → IsTied new (ended_at old closed ++ history)
tied_only why None old new history same tied = λ unit place is. ap is_over_of (same place) ∙ tied unit place is
tied_only why (Some gone) old new history (here, others) tied = by (is_over_at old gone) refl
  where
    by : (over : Bool) → is_over_at old gone ≡ over → IsTied new (ended_unless over gone ++ history)
    by true over unit place is =
        ap is_over_of (others place (λ same. false≢true (sym (tied unit place is) ∙ ap (is_over_at old) same ∙ over))) ∙ tied unit place is
    by false lives unit place is =
        let so = without_some gone place (connection_after history unit) is in
        ap is_over_of (others place (λ same. eqb-false gone place so.1 (sym same))) ∙ tied unit place so.0

-- a connection came for a unit
placed_some : (same : Bool) (connection place : ℕ) (had : Option ℕ) → cond same (Some connection) had ≡ Some place
    → (connection ≡ place) ⊎ (had ≡ Some place)
placed_some true connection place had is = inl (same_some _ _ is)
placed_some false connection place had is = inr is

tied_came : (place unit : ℕ) (closed : Option ℕ) (node : Node) (setting : Setting) (history more : List Event)
    → Comes setting history place unit closed more → is_over_at node place ≡ false → IsTied node history → IsTied node (more ++ history)
tied_came place unit closed node setting history [] comes lives tied = tied
tied_came place unit closed node setting history (event ∷ rest) (within, had, is, none) lives tied =
    subst (λ (e : Event). IsTied node (e ∷ (rest ++ history))) (sym is)
    (subst (λ (l : List Event). IsTied node (came place unit ∷ (l ++ history))) (sym none) at)
  where
    at : IsTied node (came place unit ∷ history)
    at other taken is = elim (placed_some (nat_eq other unit) place taken (connection_after history other) is) [
      | inl same ↦ ap (is_over_at node) (sym same) ∙ lives
      | inr had ↦ tied other taken had
    ]

-- a message of SCCP came, and what comes of it changes no unit
judged : (setting : Setting) (history : List Event) (verdict : Verdict) (outcome : Outcome) (event : Event)
    → TakesJudged setting history verdict outcome event → (unit : ℕ) → connection_after (event ∷ history) unit ≡ connection_after history unit
judged setting history (verdicts.handed_on octets) outcome event (message, read, is, hands) unit = ap (λ (e : Event). connection_after (e ∷ history) unit) is
judged setting history (verdicts.management value) outcome event so unit = ap (λ (e : Event). connection_after (e ∷ history) unit) so.0
judged setting history (verdicts.refused value cause) outcome event so unit = ap (λ (e : Event). connection_after (e ∷ history) unit) so.0
judged setting history verdicts.returned outcome event so unit = ap (λ (e : Event). connection_after (e ∷ history) unit) so.0
judged setting history (verdicts.unreadable fault) outcome event so unit = ap (λ (e : Event). connection_after (e ∷ history) unit) so.0

tied_received : (place : ℕ) (octets : List ℕ) (outcome : Outcome) (more : List Event) (node : Node) (setting : Setting) (history : List Event)
    → Receives setting history place octets outcome more → IsTied node history → IsTied node (more ++ history)
tied_received place octets outcome [] node setting history so tied = tied
tied_received place octets outcome (event ∷ rest) node setting history (here, (verdict, judges, takes), none) tied =
    subst (λ (l : List Event). IsTied node (event ∷ (l ++ history))) (sym none)
    (λ unit taken is. tied unit taken (sym (judged setting history verdict outcome event takes unit) ∙ is))

courses_answer : (outcome : Outcome) (own : Option Connection) → progress_of (answering outcome own) ≡ progress_of own
courses_answer (outcomes.Answered octets) own = courses_sent octets.items own
courses_answer (outcomes.HandedOn frames) own = refl
courses_answer outcomes.Nothing own = refl

-- a message of a connection that isn't to be closed
tied_comes : (arrival : Arrival) (setting : Setting) (history : List Event) (place : ℕ) (octets : List ℕ) (old new : Node) (more : List Event)
    → ComesTo setting history place octets arrival old new more → is_over_at old place ≡ false → IsTied old history
    → IsTied new (more ++ history)
tied_comes Nothing setting history place octets old new more (is, places, link, skips) lives tied =
    subst (λ (l : List Event). IsTied new (l ++ history)) (sym is) (tied_lives old new history (lives_places old new places) tied)
tied_comes Skipped setting history place octets old new more (is, places, link, skips) lives tied =
    subst (λ (l : List Event). IsTied new (l ++ history)) (sym is) (tied_lives old new history (lives_places old new places) tied)
tied_comes (Active unit) setting history place octets old new more (earlier, events, comes, is, link, only, skips) lives tied =
    subst (λ (l : List Event). IsTied new (l ++ history)) (sym is)
    (subst (λ (l : List Event). IsTied new l) (sym (append_assoc (ended_at old earlier) events history))
    (tied_only Replaced earlier old new (events ++ history) only (tied_came place unit earlier old setting history events comes lives tied)))
tied_comes UnitData setting history place octets old new more (outcome, receives, link, here, others, skips) lives tied =
    tied_received place octets outcome more new setting history receives
    (tied_courses old new history (courses_at place old new (ap progress_of here ∙ courses_answer outcome (connection_in old place)) others) tied)
tied_comes (Close why) setting history place octets old new more (is, link, only, skips) lives tied =
    subst (λ (l : List Event). IsTied new (l ++ history)) (sym is) (tied_only why (Some place) old new history only tied)

tied_steps : (setting : Setting) (history : List Event) (place : ℕ) (message : IpaMessage) (old new : Node)
    → (way : Steps setting history place message old new) → is_over_at old place ≡ false → IsTied old history → IsTied new (way.more ++ history)
tied_steps setting history place message old new way lives tied =
    let same = courses_at place old way.between (courses_arrived _ _ _ _ _ _ _ way.arrives) way.only.others in
    tied_comes way.arrival setting history place message.octets way.between new way.more way.comes_to
    (over_same (connection_in way.between place) (connection_in old place) (same place) ∙ lives) (tied_courses old way.between history same tied)

lives_if : (over : Bool) (old : Connection) (new : Option Connection) (message : IpaMessage) → is_some (closing_of old.course) ≡ over
    → NextIf over old new (Some message) → is_over_of new ≡ false
lives_if true old new message is (same, none) = absurd (none-some _ (sym none))
lives_if false old new message is (rest, same, hands) = ap is_over_of same ∙ is

lives_read : (old new : Option Connection) (message : IpaMessage) → NextIn old new (Some message) → is_over_of new ≡ false
lives_read None new message (same, none) = absurd (none-some _ (sym none))
lives_read (Some old) new message next = lives_if (is_some (closing_of old.course)) old new message refl next

tied_ends : (place : ℕ) (history more : List Event) (old new : Node) → EndsAt place old new more → IsTied old history
    → IsTied new (more ++ history)
tied_ends place history more old new ends tied = elim ends [
  | inl so ↦ subst (λ (l : List Event). IsTied new (l ++ history)) (sym so.0)
      (tied_courses old new history (courses_at place old new (courses_next _ _ None so.1) so.2.others) tied)
  | inr so ↦ subst (λ (l : List Event). IsTied new (l ++ history)) (sym so.1) (tied_only TooLong (Some place) old new history so.3 tied)
]

tied_hears : (setting : Setting) (place : ℕ) (messages : List IpaMessage) (history : List Event) (old new : Node)
    → HearsOn setting history place messages old new → IsTied old history → Ties setting new
tied_hears setting place [] history old new (more, ends, led) tied = (more ++ history, led, tied_ends place history more old new ends tied)
tied_hears setting place (message ∷ messages) history old new (next, mid, (is, only), way, each) tied =
    tied_hears setting place messages (way.more ++ history) mid new each
    (tied_steps setting history place message next mid way (lives_read _ _ message is)
    (tied_courses old next history (courses_at place old next (courses_next _ _ (Some message) is) only.others) tied))

pub keeps_hearing : (place : ℕ) (octets : List ℕ) (old new : Node) → HearingOn place octets old new → KeepsTied old new
keeps_hearing place octets old new hears = keeps_by old new (λ setting history led tied.
    let so = hears setting history led in
    tied_hears setting place so.3 history so.0 new so.4
    (tied_courses old so.0 history (courses_at place old so.0 (ap progress_of so.1 ∙ courses_fed octets (connection_in old place)) so.2.others) tied))

-- a message of the link
courses_put : (sent : Sending) (old new : Node) → Puts sent old new → CoursesStay old new
courses_put (sendings.By unit_data) old new (here, others) =
    courses_at unit_data.connection old new (ap progress_of here ∙ courses_sent unit_data.octets.items (connection_in old unit_data.connection)) others
courses_put sendings.NoConnection old new same = λ place. ap progress_of (same place)
courses_put sendings.TooLong old new same = λ place. ap progress_of (same place)

tied_forwards : (setting : Setting) (messages : List (List ℕ)) (history : List Event) (old new : Node)
    → ForwardsEach setting history messages old new → IsTied old history → Ties setting new
tied_forwards setting [] history old new (places, names, drains, led) tied =
    (history, led, tied_lives old new history (lives_places old new places) tied)
tied_forwards setting (message ∷ messages) history old new (mid, way, each) tied =
    tied_forwards setting messages (said way.read (what_became way.sent) ∷ (way.closed ++ history)) mid new each
    (tied_courses way.between mid (way.closed ++ history) (courses_put way.sent way.between mid way.puts)
    (tied_closes old way.between history way.closed way.closes tied))

pub keeps_forwards : (octets : List ℕ) (old new : Node) → ForwardsOctets octets old new → KeepsTied old new
keeps_forwards octets old new (messages, frames, rest, each) =
    keeps_by old new (λ setting history led tied. tied_forwards setting messages history old new (each setting history led) tied)
