-- The adaptor of a node has each connection that is closed as over, unless it was over before.
use Rattle.std.proofs.Common.{◌≡◌, ℕ, Bool, true, false, not, ◌&&◌, ◌||◌, ◌⊎◌, nat_eq, List, [], ◌∷◌, ◌++◌, Option, Some, None, append_assoc, inl, inr, refl, sym, subst, ap, ◌∙◌, is_some}
use Rattle.std.proofs.lemmas.Bool.{cases_Bool, eq-eqb, eqb-true, eqb-false, false≢true}
use Rattle.std.specs.Option.{option_map}
use Rattle.fp_adaptor.specs.declared.adaptor.Adaptor.{Adaptor}
use Rattle.fp_adaptor.specs.declared.setting.Setting.{Setting}
use Rattle.fp_adaptor.specs.Adaptor.{Led}
use Rattle.fp_adaptor.specs.History.{Event, ended}
use Rattle.fp_network.specs.declared.connection.Connection.{Connection}
use Rattle.fp_network.specs.declared.course.Course.{Course}
use Rattle.fp_network.specs.declared.course.Course.TheVariants.{Open, Draining, Shut, Over}
use Rattle.fp_network.specs.declared.event.Closing.{Closing}
use Rattle.fp_network.specs.declared.node.Node.{Node}
use Rattle.fp_network.specs.Changes.{closing}
use Rattle.fp_network.specs.Course.{closed, closing_of}
use Rattle.fp_network.specs.Endings.{Adds, AreEnded, Closes, ClosesOnly, ClosesRefused, EndsClosed, IsRefused, ends}
use Rattle.fp_network.specs.Node.{LeavesOthers, connection_at, connection_in, ended_unless, is_over_at, is_over_of, refusal_of}
use Rattle.fp_network.proofs.Tallied.{CoursesStay, over_same}

pub closed_led : (over : Bool) (place : ℕ) (old new : Adaptor) (setting : Setting) (history : List Event)
    → (over ≡ true → new ≡ old) → (over ≡ false → Led old setting history → Led new setting (ended place ∷ history))
    → Led old setting history → Led new setting (ended_unless over place ++ history)
closed_led true place old new setting history stays ends led = subst (λ (own : Adaptor). Led own setting history) (sym (stays refl)) led
closed_led false place old new setting history stays ends led = ends refl led

-- events after others end what either do
or_assoc : (a b c : Bool) → (a || (b || c)) ≡ ((a || b) || c)
or_assoc true b c = refl
or_assoc false b c = refl

ends_append : (place : ℕ) (more events : List Event) → ends place (more ++ events) ≡ (ends place more || ends place events)
ends_append place [] events = refl
ends_append place (ended other ∷ more) events =
    ap (λ (b : Bool). nat_eq other place || b) (ends_append place more events)
    ∙ or_assoc (nat_eq other place) (ends place more) (ends place events)
ends_append place (event ∷ more) events = ends_append place more events

ended_append : (more events : List Event) → AreEnded more → AreEnded events → AreEnded (more ++ events)
ended_append [] events first then = then
ended_append (ended other ∷ more) events first then = ended_append more events first then
ended_append (event ∷ more) events first then = absurd first

-- over at first, in between and at last: what became over does in one of two steps
two_steps : (a b c : Bool) → (a ≡ true → b ≡ true) → (b ≡ true → c ≡ true) → ((not b && c) || (not a && b)) ≡ (not a && c)
two_steps true true c first then = refl
two_steps true false c first then = absurd (false≢true (first refl))
two_steps false true c first then = sym (then refl)
two_steps false false true first then = refl
two_steps false false false first then = refl

-- nothing is closed
pub none_closed : (node : Node) → Closes node node []
none_closed node = record { are_ended = tt; those = λ place. same (is_over_at node place); stay = λ place over. over }
  where
    same : (over : Bool) → false ≡ (not over && over)
    same true = refl
    same false = refl

pub closes_none : (node : Node) → EndsClosed node node
closes_none node = ([], none_closed node, λ setting history led. led)

same_over : (old new : Bool) → new ≡ old → false ≡ (not old && new)
same_over true new is = refl
same_over false new is = sym is

pub closes_courses : (old new : Node) → new.adaptor ≡ old.adaptor → CoursesStay old new → EndsClosed old new
closes_courses old new own same = (
  [],
  record {
    are_ended = tt;
    those = λ place. same_over (is_over_at old place) (is_over_at new place) (over place);
    stay = λ place was. over place ∙ was;
  },
  λ setting history led. subst (λ (own : Adaptor). Led own setting history) (sym own) led,
)
  where
    over : (place : ℕ) → is_over_at new place ≡ is_over_at old place
    over place = over_same (connection_in new place) (connection_in old place) (same place)

-- some connections are closed, and then others
pub closes_then : (old mid new : Node) (first then : List Event) → Closes old mid first → Closes mid new then → Closes old new (then ++ first)
closes_then old mid new first then is then_is = record {
  are_ended = ended_append then first then_is.are_ended is.are_ended;
  those = λ place.
      ends_append place then first ∙ (λ i. then_is.those place i || is.those place i)
      ∙ two_steps (is_over_at old place) (is_over_at mid place) (is_over_at new place) (is.stay place) (then_is.stay place);
  stay = λ place over. then_is.stay place (is.stay place over);
}

pub adds_then : (old mid new : Adaptor) (first then : List Event) → Adds old mid first → Adds mid new then → Adds old new (then ++ first)
adds_then old mid new first then adds then_adds setting history led =
    subst (λ (l : List Event). Led new setting l) (sym (append_assoc then first history))
    (then_adds setting (first ++ history) (adds setting history led))

pub closes_more : (old mid new : Node) → EndsClosed old mid → EndsClosed mid new → EndsClosed old new
closes_more old mid new (first, is, adds) (then, then_is, then_adds) =
    (then ++ first, closes_then old mid new first then is then_is, adds_then old.adaptor mid.adaptor new.adaptor first then adds then_adds)

-- a connection that is closed is over
closed_over : (why : Closing) (course : Course) → is_some (closing_of (closed why course)) ≡ true
closed_over why Open = refl
closed_over why (Draining since) = refl
closed_over why (Shut since) = refl
closed_over why (Over first) = refl

over_closed : (why : Closing) (own : Option Connection) → is_over_of (option_map (closing why) own) ≡ true
over_closed why None = refl
over_closed why (Some own) = closed_over why own.course

-- the connection in one place is closed
pub adds_one : (place : ℕ) (old new : Node) → (is_over_at old place ≡ true → new.adaptor ≡ old.adaptor)
    → (is_over_at old place ≡ false → (setting : Setting) (history : List Event) → Led old.adaptor setting history
    → Led new.adaptor setting (ended place ∷ history)) → Adds old.adaptor new.adaptor (ended_unless (is_over_at old place) place)
adds_one place old new stays tells setting history = closed_led _ place _ _ setting history stays (λ lives. tells lives setting history)

pub closes_place : (why : Closing) (place : ℕ) (old new : Node) → connection_in new place ≡ option_map (closing why) (connection_in old place)
    → LeavesOthers place old new → Closes old new (ended_unless (is_over_at old place) place)
closes_place why place old new here others = record {
  are_ended = are (is_over_at old place);
  those = λ other. elim (cases_Bool (nat_eq place other)) [
    | inl is ↦ at other (eqb-true place other is)
    | inr apart ↦ away other apart
  ];
  stay = λ other over. elim (cases_Bool (nat_eq place other)) [
    | inl is ↦ subst (λ (other : ℕ). is_over_at new other ≡ true) (eqb-true place other is) over_here
    | inr apart ↦ ap is_over_of (others other (λ is. eqb-false place other apart (sym is))) ∙ over
  ];
}
  where
    over_here : is_over_at new place ≡ true
    over_here = ap is_over_of here ∙ over_closed why (connection_in old place)

    are : (over : Bool) → AreEnded (ended_unless over place)
    are true = tt
    are false = tt

    away_by : (over was : Bool) (other : ℕ) → nat_eq place other ≡ false → ends other (ended_unless over place) ≡ (not was && was)
    away_by true true other apart = refl
    away_by true false other apart = refl
    away_by false true other apart = ap (λ (b : Bool). b || false) apart
    away_by false false other apart = ap (λ (b : Bool). b || false) apart

    away : (other : ℕ) → nat_eq place other ≡ false
        → ends other (ended_unless (is_over_at old place) place) ≡ (not (is_over_at old other) && is_over_at new other)
    away other apart =
        away_by (is_over_at old place) (is_over_at old other) other apart
        ∙ ap (λ (b : Bool). not (is_over_at old other) && b) (sym (ap is_over_of (others other (λ is. eqb-false place other apart (sym is)))))

    at_by : (over : Bool) → ends place (ended_unless over place) ≡ (not over && true)
    at_by true = refl
    at_by false = ap (λ (b : Bool). b || false) (eq-eqb place place refl)

    at : (other : ℕ) → place ≡ other
        → ends other (ended_unless (is_over_at old place) place) ≡ (not (is_over_at old other) && is_over_at new other)
    at other is =
        subst (λ (other : ℕ). ends other (ended_unless (is_over_at old place) place) ≡ (not (is_over_at old other) && is_over_at new other))
        is (at_by (is_over_at old place) ∙ ap (λ (b : Bool). not (is_over_at old place) && b) (sym over_here))

pub closes_one : (why : Closing) (place : ℕ) (old new : Node) → connection_in new place ≡ option_map (closing why) (connection_in old place)
    → LeavesOthers place old new → (is_over_at old place ≡ true → new.adaptor ≡ old.adaptor)
    → (is_over_at old place ≡ false → (setting : Setting) (history : List Event) → Led old.adaptor setting history
    → Led new.adaptor setting (ended place ∷ history)) → EndsClosed old new
closes_one why place old new here others stays tells =
    (ended_unless (is_over_at old place) place, closes_place why place old new here others, adds_one place old new stays tells)

-- a connection is closed for the first reason
twice : (first then : Closing) (course : Course) → closed then (closed first course) ≡ closed first course
twice first then Open = refl
twice first then (Draining since) = refl
twice first then (Shut since) = refl
twice first then (Over before) = refl

closing_twice : (first then : Closing) (own : Option Connection)
    → option_map (closing then) (option_map (closing first) own) ≡ option_map (closing first) own
closing_twice first then None = refl
closing_twice first then (Some own) = ap (λ (course : Course). Some (record own { course = course })) (twice first then own.course)

-- one more connection that takes no message is closed
pub refused_more : (why : Closing) (place : ℕ) (old mid new : Node) → ClosesRefused old mid
    → refusal_of (connection_in mid place) ≡ Some why
    → connection_in new place ≡ option_map (closing why) (connection_in mid place) → LeavesOthers place mid new
    → ClosesRefused old new
refused_more why place old mid new so refused here others other =
    elim (cases_Bool (nat_eq place other)) [
      | inl is ↦ subst (λ (other : ℕ). Is other) (eqb-true place other is) at
      | inr apart ↦ away (others other (λ is. eqb-false place other apart (sym is)))
    ]
  where
    Is : ℕ → Type 0
    Is other = (connection_in new other ≡ connection_in old other) ⊎ IsRefused old new other

    away : connection_in new other ≡ connection_in mid other → Is other
    away same = elim (so other) [
      | inl is ↦ inl (same ∙ is)
      | inr is ↦ inr (is.0, is.1, same ∙ is.2)
    ]

    at : Is place
    at = elim (so place) [
      | inl is ↦ inr (why, sym (ap refusal_of is) ∙ refused, here ∙ ap (option_map (closing why)) is)
      | inr is ↦ inr (is.0, is.1, here ∙ ap (option_map (closing why)) is.2 ∙ closing_twice is.0 why (connection_in old place))
    ]

-- which connections are closed doesn't depend on anything else of the new node than its places
pub closes_as : (why : Closing) (closed : Option ℕ) (old mid new : Node) → new.places ≡ mid.places → ClosesOnly why closed old mid
    → ClosesOnly why closed old new
closes_as why None old mid new same so = λ other. ap (λ places. connection_at places.items other) same ∙ so other
closes_as why (Some place) old mid new same so = (
  ap (λ places. connection_at places.items place) same ∙ so.0,
  λ other apart. ap (λ places. connection_at places.items other) same ∙ so.1 other apart,
)
