-- What a link counts once a message was posted, and what its receipt says.
use Rattle.fp_book.proofs.Names.{AbortCause, Answers, Arrival, Bool, ClosesOne, Continue, Discard, Entry, Extend, Follows, IsReceipt, Kind, List, Lost, None, Open, Option, Posted, Posts, Prepared, Receipt, Refuse, Rule, Shelf, Some, Tid, Totals, Verdict, [], accepted_components, ap, are_some, arrival_of, asks_for_memory, closed_answer, cond_both, facts_with, false, first_that_fits, false≢true, inl, inr, named, posted_totals, refl, rules_up, subst, sym, treated_as, true, verdict, verdict_by, ℕ, ⊎_elim, ◌∙◌, ◌∷◌, ◌≡◌, ◌≢◌}
use Rattle.fp_entry.specs.declared.prepared.Prepared.TheVariants as prepared

-- whether a message is accepted
abbrev pub accepts : Verdict → Bool
accepts Discard = false
accepts (Refuse cause closes) = false
accepts v = true

-- nothing is counted for such an answer, whatever came
abbrev CountsNone : Posted → Type 0
CountsNone answer = (totals : Totals) (came : Prepared) → (posted_totals totals came answer ≡ totals) × (accepted_components answer came ≡ 0)

closed_counts_none : (closes : Option ℕ) → CountsNone (closed_answer closes)
closed_counts_none None totals came = (refl, refl)
closed_counts_none (Some local) totals came = (refl, refl)

-- to close a dialogue counts nothing
closing_totals : (old : Shelf) (closes : Option ℕ) (new : Shelf) → ClosesOne old closes new → new.totals ≡ old.totals
closing_totals old None new g = ap (λ (s : Shelf). s.totals) g
closing_totals old (Some local) new g = ap (λ (s : Shelf). s.totals) g.new_is

-- nor does to refuse a message
pub record Uncounted (old : Shelf) (answer : Posted) (new : Shelf) : Type 0 where
  pub same : new.totals ≡ old.totals
  pub none : CountsNone answer

answered : (old : Shelf) (closes : Option ℕ) (abort : Option (Tid × AbortCause)) (answer : Posted) (new : Shelf) → Answers old closes abort answer new → Uncounted old answer new
answered old closes None answer new g = record { same = ap (λ (s : Shelf). s.totals) g.1; none = subst CountsNone (sym g.0) (closed_counts_none closes) }
answered old closes (Some (peer, cause)) answer new g = record { same = ap (λ (s : Shelf). s.totals) g.1.new_is; none = subst CountsNone (sym g.0) (λ totals came. (refl, refl)) }

pub turned_away : (v : Verdict) (old : Shelf) (came : Prepared) (answer : Posted) (new : Shelf) → accepts v ≡ false → Follows v old came answer new → Uncounted old answer new
turned_away Discard old came answer new e g = record { same = ap (λ (s : Shelf). s.totals) g.new_is; none = subst CountsNone (sym g.answer_is) (λ totals came. (refl, refl)) }
turned_away (Refuse cause closes) old came answer new e g =
    let a = answered g.closed closes _ answer g.answered g.answering in
    record { same = ap (λ (s : Shelf). s.totals) g.new_is ∙ a.same ∙ closing_totals old closes g.closed g.closing; none = a.none }
turned_away v old came answer new e g = absurd (let clash : true ≡ false = e in cc)

uncounted : (old : Shelf) (came : Prepared) (answer : Posted) (new : Shelf) → Uncounted old answer new → new.totals ≡ posted_totals old.totals came answer
uncounted old came answer new g = g.same ∙ sym (g.none old.totals came).0

followed : (v : Verdict) (old : Shelf) (came : Prepared) (answer : Posted) (new : Shelf) → Follows v old came answer new → new.totals ≡ posted_totals old.totals came answer
followed Discard old came answer new g = uncounted old came answer new (turned_away Discard old came answer new refl g)
followed (Refuse cause closes) old came answer new g = uncounted old came answer new (turned_away (Refuse cause closes) old came answer new refl g)
followed (Open peer) old came answer new g = ap (λ (s : Shelf). s.totals) g.new_is ∙ sym (ap (posted_totals old.totals came) g.answer_is)
followed (Extend local false) old came answer new g = ap (λ (s : Shelf). s.totals) g.new_is ∙ sym (ap (posted_totals old.totals came) g.answer_is)
followed (Extend local true) old came answer new g = ap (λ (s : Shelf). s.totals) g.new_is ∙ sym (ap (posted_totals old.totals came) g.answer_is)

-- what was lost isn't accepted
lost_by : (s : Shelf) (arrival : Arrival) (kind : Kind) (o : Option ℕ) (sender : Option Tid) → accepts (verdict_by (first_that_fits (rules_up (facts_with s o) (prepared.Lost arrival) kind)) o sender) ≡ false
lost_by s arrival Continue None sender = refl
lost_by s arrival Continue (Some local) sender = refl
lost_by s arrival kind o sender = refl

pub lost_away : (s : Shelf) (arrival : Arrival) → accepts (verdict s (prepared.Lost arrival)) ≡ false
lost_away s arrival =
    let o = named s arrival.ids in
    cond_both s.is_down Rule.Discard (first_that_fits (rules_up (facts_with s o) (prepared.Lost arrival) arrival.ids.kind)) (λ rule. accepts (verdict_by rule o arrival.ids.orig) ≡ false) (λ _. refl) (λ _. lost_by s arrival arrival.ids.kind o arrival.ids.orig)

-- the answer says what is counted
pub posted_counts : (old : Shelf) (came : Prepared) (answer : Posted) (new : Shelf) → Posts old came answer new → new.totals ≡ posted_totals old.totals came answer
posted_counts old came answer new posts =
    ⊎_elim (λ g. followed (verdict old came) old came answer new g)
    (λ g. uncounted old came answer new (turned_away (verdict old (prepared.Lost (arrival_of came))) old (prepared.Lost (arrival_of came)) answer new (lost_away old (arrival_of came)) g.1)) posts

-- it was accepted
pub receipt_of : (v : Verdict) (old new : Shelf) (came : Prepared) (posted : Posted) (components : ℕ) → verdict old came ≡ v → components ≡ accepted_components posted came → Follows v old came posted new
    → IsReceipt old came (record { posted = posted; components = components; lost = false }) new
receipt_of v old new came posted components is count follows = record {
  components = count;
  asked = λ e. absurd (false≢true e);
  follows = subst (λ v. Follows v old came posted new) (sym is) follows;
}

-- it was refused or discarded
pub receipt_away : (v : Verdict) (old new : Shelf) (came : Prepared) (posted : Posted) → verdict old came ≡ v → accepts v ≡ false → Follows v old came posted new
    → IsReceipt old came (record { posted = posted; components = 0; lost = false }) new
receipt_away v old new came posted is away follows =
    receipt_of v old new came posted 0 is (sym ((turned_away v old came posted new away follows).none old.totals came).1) follows

-- memory ran out for it, and nothing had changed
pub receipt_lost : (v : Verdict) (old same new : Shelf) (came : Prepared) (back : Arrival) (posted : Posted) → verdict old came ≡ v → asks_for_memory v came ≡ true → back ≡ arrival_of came → same ≡ old
    → Follows (verdict same (Lost back)) same (Lost back) posted new → IsReceipt old came (record { posted = posted; components = 0; lost = true }) new
receipt_lost v old same new came back posted is asks known stays follows =
    let on_old : Follows (verdict old (Lost (arrival_of came))) old (Lost (arrival_of came)) posted new =
    subst (λ s. Follows (verdict s (Lost (arrival_of came))) s (Lost (arrival_of came)) posted new) stays (subst (λ a. Follows (verdict same (Lost a)) same (Lost a) posted new) known follows)
    in
    let away = turned_away (verdict old (Lost (arrival_of came))) old (Lost (arrival_of came)) posted new (lost_away old (arrival_of came)) on_old in
    record { components = sym (away.none old.totals came).1; asked = λ _. ap (λ v. asks_for_memory v came) is ∙ asks; follows = on_old }

posts_by : (lost : Bool) (old new : Shelf) (came : Prepared) (posted : Posted) → (lost ≡ true → asks_for_memory (verdict old came) came ≡ true)
    → Follows (verdict old (treated_as lost came)) old (treated_as lost came) posted new → Posts old came posted new
posts_by false old new came posted asked follows = inl follows
posts_by true old new came posted asked follows = inr (asked refl, follows)

-- so a message was posted
pub receipt_posts : (old new : Shelf) (came : Prepared) (receipt : Receipt) → IsReceipt old came receipt new → Posts old came receipt.posted new
receipt_posts old new came receipt g = posts_by receipt.lost old new came receipt.posted g.asked g.follows

-- entries that aren't none are some
pub some_of : (entries : List Entry) → entries ≢ [] → are_some entries ≡ true
some_of [] more = absurd (more refl)
some_of (entry ∷ entries) more = refl
