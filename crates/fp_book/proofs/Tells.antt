-- What the verdict on a message says of it.
use Rattle.fp_book.proofs.Names.{Abort, AbortCause, Answers, Arrival, Begin, Bool, ClosesOne, Continue, Discard, End, Extend, Facts, Fault, Follows, Ids, Incoming, Kind, Lost, Message, None, Open, Option, Posted, Prepared, Refuse, Refused, Rule, Shelf, Some, Tid, Unidirectional, Verdict, abort_for, admitted, ap, arrival_of, cond, cond_both, facts_of, false, first_that_fits, inl, inr, is_admitted, lacks_room, length, logged, named, nat_eq, nat_le, not, option_and_then, option_map_or, posted_line, refl, rule, rules_up, subst, true, verdict, verdict_by, ℕ, ⊤, ◌||◌, ◌∙◌, ◌≡◌, ◌⊎◌, most_dialogues}
use Rattle.std.specs.FinMap as map
use Rattle.fp_q773.specs.declared.provider_abort.AbortCause.TheVariants as cause

-- a Begin has no destination
abbrev pub BeginsAnew : Ids → Type 0
BeginsAnew ids = ids.kind ≡ Begin → ids.dest ≡ None

-- what a rule says of the kind of its message
abbrev OfKind : Kind → Rule → Type 0
OfKind kind (Rule.Extend false) = kind ≡ Continue
OfKind kind (Rule.Extend true) = (kind ≡ End) ⊎ (kind ≡ Abort)
OfKind kind rule = ⊤

lost_of_kind : (f : Facts) (arrival : Arrival) (kind : Kind) → OfKind kind (first_that_fits (rules_up f (Lost arrival) kind))
lost_of_kind f arrival Continue = cond_both (not f.names_one) (Rule.Refuse (Some cause.UnrecognizedTransactionIdentifier)) (Rule.Refuse (Some cause.ResourceLimitation)) (OfKind Continue) (λ _. tt) (λ _. tt)
lost_of_kind f arrival kind = tt

refused_of_kind : (f : Facts) (arrival : Arrival) (fault : Fault) (kind : Kind) → OfKind kind (first_that_fits (rules_up f (Refused arrival fault) kind))
refused_of_kind f arrival fault Unidirectional = tt
refused_of_kind f arrival fault kind = tt

-- a Continue or an End that isn't refused extends its dialogue
taken_of_kind : (f : Facts) (came : Prepared) (kind : Kind) (unnamed taken : Rule) → OfKind kind unnamed → OfKind kind taken
    → OfKind kind (cond (not f.names_one) unnamed (cond (lacks_room f came) (Rule.Refuse (Some cause.ResourceLimitation)) taken))
taken_of_kind f came kind unnamed taken u t =
    let more = cond (lacks_room f came) (Rule.Refuse (Some cause.ResourceLimitation)) taken in
    cond_both (not f.names_one) unnamed more (OfKind kind) (λ _. u) (λ _. cond_both (lacks_room f came) (Rule.Refuse (Some cause.ResourceLimitation)) taken (OfKind kind) (λ _. tt) (λ _. t))

message_of_kind : (f : Facts) (arrival : Arrival) (incoming : Incoming) (kind : Kind) → OfKind kind (first_that_fits (rules_up f (Message arrival incoming) kind))
message_of_kind f arrival incoming Begin =
    let lacks = lacks_room f (Message arrival incoming) || nat_le most_dialogues f.held in
    let opens = cond (not (nat_eq (length incoming.entries) 0)) Rule.Open Rule.Discard in
    cond_both lacks (Rule.Refuse (Some cause.ResourceLimitation)) opens (OfKind Begin) (λ _. tt) (λ _. cond_both (not (nat_eq (length incoming.entries) 0)) Rule.Open Rule.Discard (OfKind Begin) (λ _. tt) (λ _. tt))
message_of_kind f arrival incoming Continue = taken_of_kind f (Message arrival incoming) Continue (Rule.Refuse (Some cause.UnrecognizedTransactionIdentifier)) (Rule.Extend false) tt refl
message_of_kind f arrival incoming End = taken_of_kind f (Message arrival incoming) End Rule.Discard (Rule.Extend true) tt (inl refl)
message_of_kind f arrival incoming Abort =
    let one = cond (nat_le (length incoming.entries) 1) (Rule.Extend true) Rule.Discard in
    cond_both (not f.names_one) Rule.Discard one (OfKind Abort) (λ _. tt) (λ _. cond_both (nat_le (length incoming.entries) 1) (Rule.Extend true) Rule.Discard (OfKind Abort) (λ _. inr refl) (λ _. tt))
message_of_kind f arrival incoming kind = tt

up_of_kind : (f : Facts) (came : Prepared) (kind : Kind) → OfKind kind (first_that_fits (rules_up f came kind))
up_of_kind f (Lost arrival) kind = lost_of_kind f arrival kind
up_of_kind f (Refused arrival fault) kind = refused_of_kind f arrival fault kind
up_of_kind f (Message arrival incoming) kind = message_of_kind f arrival incoming kind

rule_of_kind : (f : Facts) (came : Prepared) → OfKind (arrival_of came).ids.kind (rule f came)
rule_of_kind f came =
    let kind = (arrival_of came).ids.kind in
    cond_both f.is_down Rule.Discard (first_that_fits (rules_up f came kind)) (OfKind kind) (λ _. tt) (λ _. up_of_kind f came kind)

-- what is said: of a refusal, the dialogue that is named; of a Begin, its sender; of what is accepted, the dialogue
-- that is named, and whether its peer ends it
abbrev pub TellsOf : Ids → Kind → Option ℕ → Verdict → Type 0
TellsOf ids kind dialogue Discard = ⊤
TellsOf ids kind dialogue (Refuse cause closes) = closes ≡ dialogue
TellsOf ids kind dialogue (Open peer) = ids.orig ≡ Some peer
TellsOf ids kind dialogue (Extend local false) = (dialogue ≡ Some local) × (kind ≡ Continue)
TellsOf ids kind dialogue (Extend local true) = (dialogue ≡ Some local) × ((kind ≡ End) ⊎ (kind ≡ Abort))

told_by : (ids : Ids) (kind : Kind) (rule : Rule) (dialogue : Option ℕ) (sender : Option Tid) → OfKind kind rule → ids.orig ≡ sender → TellsOf ids kind dialogue (verdict_by rule dialogue sender)
told_by ids kind Rule.Discard dialogue sender fits orig = tt
told_by ids kind (Rule.Refuse cause) dialogue sender fits orig = refl
told_by ids kind Rule.Open dialogue None fits orig = tt
told_by ids kind Rule.Open dialogue (Some peer) fits orig = orig
told_by ids kind (Rule.Extend ends) None sender fits orig = tt
told_by ids kind (Rule.Extend false) (Some local) sender fits orig = (refl, fits)
told_by ids kind (Rule.Extend true) (Some local) sender fits orig = (refl, fits)

abbrev pub Tells : Shelf → Prepared → Verdict → Type 0
Tells s came v = TellsOf (arrival_of came).ids (arrival_of came).ids.kind (named s (arrival_of came).ids) v

-- what each verdict says
pub verdict_tells : (s : Shelf) (came : Prepared) → Tells s came (verdict s came)
verdict_tells s came = let ids = (arrival_of came).ids in told_by ids ids.kind (rule (facts_of s came) came) (named s ids) ids.orig (rule_of_kind (facts_of s came) came) refl

-- a message names a dialogue by its number, if that dialogue takes messages
pub record Names (s : Shelf) (o : Option ℕ) (local : ℕ) : Type 0 where
  pub number : o ≡ Some local
  pub takes : option_map_or is_admitted (map.get s.rows local) false ≡ true

known_by : (b : Bool) (l local : ℕ) → cond b (Some l) None ≡ Some local → (b ≡ true) × (l ≡ local)
known_by true l local e = (refl, cc)
known_by false l local e = absurd (cc)

pub names_by : (s : Shelf) (o : Option ℕ) (local : ℕ) → option_and_then (admitted s.rows) o ≡ Some local → Names s o local
names_by s None local e = absurd (cc)
names_by s (Some l) local e =
    let is : (option_map_or is_admitted (map.get s.rows l) false ≡ true) × (l ≡ local) = known_by (option_map_or is_admitted (map.get s.rows l) false) l local e in
    record { number = ap Some is.1; takes = subst (λ d. option_map_or is_admitted (map.get s.rows d) false ≡ true) is.1 is.0 }

-- if no dialogue is named that takes messages, that with the number, if there is one, doesn't
not_known : (b : Bool) (l : ℕ) → cond b (Some l) None ≡ None → b ≡ false
not_known true l e = absurd (cc)
not_known false l e = refl

pub unnamed_by : (s : Shelf) (o : Option ℕ) (local : ℕ) → option_and_then (admitted s.rows) o ≡ None → o ≡ Some local → option_map_or is_admitted (map.get s.rows local) false ≡ false
unnamed_by s None local e is = absurd (cc)
unnamed_by s (Some l) local e is =
    let same : l ≡ local = cc in
    subst (λ d. option_map_or is_admitted (map.get s.rows d) false ≡ false) same (not_known (option_map_or is_admitted (map.get s.rows l) false) l e)

-- a message is logged with its answer

closed_log : (s : Shelf) (closes : Option ℕ) (closed : Shelf) → ClosesOne s closes closed → closed.log ≡ s.log
closed_log s None closed g = ap (λ (x : Shelf). x.log) g
closed_log s (Some local) closed g = ap (λ (x : Shelf). x.log) g.new_is

answered_log : (s : Shelf) (closes : Option ℕ) (abort : Option (Tid × AbortCause)) (answer : Posted) (answered : Shelf) → Answers s closes abort answer answered → answered.log ≡ s.log
answered_log s closes None answer answered g = ap (λ (x : Shelf). x.log) g.1
answered_log s closes (Some (peer, cause)) answer answered g = ap (λ (x : Shelf). x.log) g.1.new_is

log_by : (v : Verdict) (s : Shelf) (came : Prepared) (answer : Posted) (new : Shelf) → Follows v s came answer new → new.log ≡ logged s.log (posted_line came answer)
log_by (Refuse cause closes) s came answer new g =
    ap (λ (x : Shelf). x.log) g.new_is
    ∙ ap (λ log. logged log (posted_line came answer)) (answered_log g.closed closes (abort_for (length s.outbox.aborts) cause (arrival_of came).ids.orig) answer g.answered g.answering ∙ closed_log s closes g.closed g.closing)
log_by (Extend local false) s came answer new g = ap (λ (x : Shelf). x.log) g.new_is
log_by (Extend local true) s came answer new g = ap (λ (x : Shelf). x.log) g.new_is
log_by v s came answer new g = ap (λ (x : Shelf). x.log) g.new_is

pub followed_log : (s : Shelf) (came : Prepared) (answer : Posted) (new : Shelf) → Follows (verdict s came) s came answer new → new.log ≡ logged s.log (posted_line came answer)
followed_log s came answer new g = log_by (verdict s came) s came answer new g
