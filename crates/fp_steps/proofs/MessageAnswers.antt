-- Each message is answered as its history tells: by the rules of receipt.
use Rattle.fp_steps.proofs.Names.{AbortCause, Answers, Bool, Contents, Event, Follows, Freed, IsLost, IsPrepared, IsTied, Lined, List, None, Option, Output, Posted, Prepared, Row, RowsKeepTheirOrder, Rule, Shelf, Some, Sound, Tid, Tied, TiedAt, Verdict, [], abort_for, aborts_waiting, addressee, admits, admitted, answer_by, answer_to, ap, arrival_of, base, births, cases_Bool, components_in, cond, entries_in, facts_in, facts_with, false, first_identifier, first_that_fits, frame_octets, free, get, held, inl, inr, is_admitted, is_down, is_none, is_some, len, length, length-map, named, named_in, none-some, opened_with, option_and_then, option_map_or, place_count, places_taken, refl, refused, refused_by, rule, rules_up, story, subst, sym, taking, true, unserved, verdict, verdict_by, ℕ, ⊎_elim, ◌∙◌, ◌≡◌, ◌⊎◌}
use Rattle.fp_steps.proofs.HeldCount.{held_is}
use Rattle.fp_steps.proofs.HeldDialogues.{row_named, unserved_tied}
use Rattle.fp_steps.proofs.TieAtMessages.{named_admits, number_in}
use Rattle.fp_steps.proofs.WaitingAtSteps.{aborts_wait}

-- what a verdict is answered
abbrev pub answer_of : ℕ → Option ℕ → Prepared → Verdict → Posted
answer_of waiting next came Verdict.Discard = Posted.Discarded
answer_of waiting next came (Verdict.Refuse named closes) = refused waiting came named (is_none closes)
answer_of waiting next came (Verdict.Open peer) = opened_with next
answer_of waiting next came (Verdict.Extend local ends) = Posted.Accepted (length (entries_in came))

refused_is : (s : Shelf) (closes : Option ℕ) (abort : Option (Tid × AbortCause)) (answer : Posted) (answered : Shelf) → Answers s closes abort answer answered → answer ≡ refused_by abort (is_none closes)
refused_is s None None answer answered g = g.0
refused_is s (Some local) None answer answered g = g.0
refused_is s closes (Some (peer, named)) answer answered g = g.0

pub answer_is : (old new : Shelf) (came : Prepared) (answer : Posted) (v : Verdict) → Follows v old came answer new → answer ≡ answer_of (length old.outbox.aborts) (first_identifier (base old) old.free) came v
answer_is old new came answer Verdict.Discard g = g.answer_is
answer_is old new came answer (Verdict.Refuse named closes) g = refused_is g.closed closes (abort_for (length old.outbox.aborts) named (arrival_of came).ids.orig) answer g.answered g.answering
answer_is old new came answer (Verdict.Open peer) g = g.answer_is ∙ sym (ap (λ fs. opened_with (first_identifier (base old) fs)) g.first)
answer_is old new came answer (Verdict.Extend local false) g = g.answer_is
answer_is old new came answer (Verdict.Extend local true) g = g.answer_is

-- which dialogue a message names, by its birth and by its identifier

record Both (h : List Event) (s : Shelf) (o p : Option ℕ) : Type 0 where
  local : ℕ
  birth : ℕ
  row : Row
  is : o ≡ Some local
  also : p ≡ Some birth
  was : get s.rows local ≡ Some row
  tied : IsTied birth (story h birth) row

row_there : (o : Option Row) → option_map_or is_admitted o false ≡ true → (row : Row) × (o ≡ Some row)
row_there None e = absurd (cc)
row_there (Some row) e = (row, refl)

if_one : {x : Bool} (n : ℕ) (b : Bool) → b ≡ x → cond b (Some n) None ≡ cond x (Some n) None
if_one n b e = ap (λ b. cond b (Some n) None) e

unnamed_row : {h : List Event} {s : Shelf} (local : ℕ) (o : Option Row) → Tied h s → get s.rows local ≡ o → named h local ≡ None → option_map_or is_admitted o false ≡ false
unnamed_row local None t was none = refl
unnamed_row local (Some row) t was none = absurd (none-some row.birth (sym none ∙ t.names local row was))

named_at : {h : List Event} {s : Shelf} (local : ℕ) (o : Option ℕ) → Tied h s → named h local ≡ o
    → ((admitted s.rows local ≡ None) × (option_and_then (taking h) o ≡ None)) ⊎ Both h s (admitted s.rows local) (option_and_then (taking h) o)
named_at {s} local None t name = inl (if_one local (option_map_or is_admitted (get s.rows local) false) (unnamed_row local (get s.rows local) t refl name), refl)
named_at {h} {s} local (Some d) t name =
    let same : admits h d ≡ option_map_or is_admitted (get s.rows local) false = named_admits local d t name in
    ⊎_elim
    (λ e.
    let row = row_there (get s.rows local) (sym same ∙ e) in
    inr (record {
      local = local;
      birth = d;
      row = row.0;
      is = if_one local (option_map_or is_admitted (get s.rows local) false) (sym same ∙ e);
      also = if_one d (admits h d) e;
      was = row.1;
      tied = subst (TiedAt (births h) d (story h d)) (row_named local d t name ∙ row.1) (t.rows d);
    }))
    (λ e. inl (if_one local (option_map_or is_admitted (get s.rows local) false) (sym same ∙ e), if_one d (admits h d) e))
    (cases_Bool (admits h d))

named_both : {h : List Event} {s : Shelf} (n : Option ℕ) → Tied h s
    → ((option_and_then (admitted s.rows) n ≡ None) × (option_and_then (taking h) (option_and_then (named h) n) ≡ None)) ⊎ Both h s (option_and_then (admitted s.rows) n) (option_and_then (taking h) (option_and_then (named h) n))
named_both None t = inl (refl, refl)
named_both {h} (Some local) t = named_at local (named h local) t refl

-- the facts of a book are those of its history
same_facts : {h : List Event} {s : Shelf} (o p : Option ℕ) → Tied h s → is_down h ≡ s.is_down → held h ≡ len s.rows → is_some o ≡ is_some p
    → option_map_or places_taken (option_and_then (get s.rows) o) 0 ≡ option_map_or (λ d. place_count (unserved h d)) p 0 → facts_with s o ≡ facts_in h p
same_facts {h} {s} o p t down many names places =
    λ i. record { is_down = sym down i; names_one = names i; unserved = places i; entries = sym t.entries_are i; held = sym many i }

-- and what a rule is answered is the same
record Agrees (h : List Event) (s : Shelf) (o p : Option ℕ) : Type 0 where
  none : is_none o ≡ is_none p
  facts : facts_with s o ≡ facts_in h p
  extends : (n : ℕ) (came : Prepared) (waiting : ℕ) (next : Option ℕ) (ends : Bool) → answer_of waiting next came (verdict_by (Rule.Extend ends) o (arrival_of came).ids.orig) ≡ answer_by n h came p (Rule.Extend ends)

agrees : {h : List Event} {s : Shelf} (came : Prepared) → Tied h s → Lined h s → held h ≡ len s.rows → Agrees h s (named_in s (arrival_of came).ids) (addressee h came)
agrees {h} {s} came t l many =
    ⊎_elim
    (λ neither. subst (λ o. Agrees h s o (addressee h came)) (sym neither.0)
    (subst (λ p. Agrees h s None p) (sym neither.1) (record { none = refl; facts = same_facts None None t l.down many refl refl; extends = λ n came waiting next ends. refl })))
    (λ both. subst (λ o. Agrees h s o (addressee h came)) (sym both.is)
    (subst (λ p. Agrees h s (Some both.local) p) (sym both.also)
    (record {
      none = refl;
      facts = same_facts (Some both.local) (Some both.birth) t l.down many refl (ap (λ o. option_map_or places_taken o 0) both.was ∙ sym (ap place_count (unserved_tied h both.tied)));
      extends = λ n came waiting next ends. refl;
    })))
    (named_both (number_in came) t)

opened_by : (waiting : ℕ) (next : Option ℕ) (came : Prepared) (dialogue : Option ℕ) (o : Option Tid) → answer_of waiting next came (verdict_by Rule.Open dialogue o) ≡ option_map_or (λ (peer : Tid). opened_with next) o Posted.Discarded
opened_by waiting next came dialogue None = refl
opened_by waiting next came dialogue (Some peer) = refl

rule_answered : {h : List Event} {s : Shelf} (came : Prepared) (o p : Option ℕ) (r : Rule) → Tied h s → Sound s → Lined h s → free h ≡ s.free → Agrees h s o p
    → answer_of (length s.outbox.aborts) (first_identifier (base s) s.free) came (verdict_by r o (arrival_of came).ids.orig) ≡ answer_by (base s) h came p r
rule_answered came o p Rule.Discard t k l freed a = refl
rule_answered {h} {s} came o p (Rule.Refuse named) t k l freed a =
    let aborts : length s.outbox.aborts ≡ length (aborts_waiting h) = sym (length-map s.outbox.aborts frame_octets) ∙ ap length (sym (aborts_wait t k l)) in
    λ i. refused (aborts i) came named (a.none i)
rule_answered {h} {s} came o p Rule.Open t k l freed a =
    opened_by (length s.outbox.aborts) (first_identifier (base s) s.free) came o (arrival_of came).ids.orig
    ∙ ap (λ fs. option_map_or (λ (peer : Tid). opened_with (first_identifier (base s) fs)) (arrival_of came).ids.orig Posted.Discarded) (sym freed)
rule_answered {h} {s} came o p (Rule.Extend ends) t k l freed a = a.extends (base s) came (length s.outbox.aborts) (first_identifier (base s) s.free) ends

-- what a message is answered
pub answered_so : {h : List Event} {s : Shelf} (came : Prepared) → Tied h s → Sound s → Lined h s → Freed h s → held h ≡ len s.rows
    → answer_of (length s.outbox.aborts) (first_identifier (base s) s.free) came (verdict s came) ≡ answer_to (base s) h came
answered_so {h} {s} came t k l f many =
    let o = named_in s (arrival_of came).ids in
    let p = addressee h came in
    let a : Agrees h s o p = agrees came t l many in
    let waiting = length s.outbox.aborts in
    let next = first_identifier (base s) s.free in
    let others = first_that_fits (rules_up (facts_with s o) came (arrival_of came).ids.kind) in
    let same : rule (facts_with s o) came ≡ rule (facts_in h p) came = ap (λ f. rule f came) a.facts in
    ⊎_elim
    (λ down.
    let none : rule (facts_with s o) came ≡ Rule.Discard = ap (λ b. cond b Rule.Discard others) down in
    ap (λ r. answer_of waiting next came (verdict_by r o (arrival_of came).ids.orig)) none ∙ sym (ap (answer_by (base s) h came p) (sym same ∙ none)))
    (λ up. rule_answered came o p (rule (facts_with s o) came) t k l (f up) a ∙ ap (answer_by (base s) h came p) same)
    (cases_Bool s.is_down)

-- EACH MESSAGE

pub posted_is : RowsKeepTheirOrder → {h : List Event} {old : Shelf} (new : Shelf) (p : Prepared) (answer : Posted) (components : ℕ) → Tied h old → Sound old → Lined h old → Freed h old
    → components ≡ components_in answer p → Follows (verdict old p) old p answer new → Output.Posted answer components ≡ Output.Posted (answer_to (base old) h p) (components_in (answer_to (base old) h p) p)
posted_is law {h} {old} new p answer components t k l f count g =
    let so : answer ≡ answer_to (base old) h p = answer_is old new p answer (verdict old p) g ∙ answered_so p t k l f (held_is law t k l) in
    let many : components ≡ components_in (answer_to (base old) h p) p = count ∙ ap (λ a. components_in a p) so in
    λ i. Output.Posted (so i) (many i)

-- one that wasn't read is prepared so by the first table, whatever its records are
abbrev pub no_records : Contents
no_records = record { index = 0; key = 0; rule_count = 0; closed_count = 0; records = [] }

pub lost_prepared : (contexts : List (List ℕ)) (octets : List ℕ) (moment : ℕ) (p : Prepared) → IsLost octets moment p → IsPrepared no_records contexts octets moment p
lost_prepared contexts octets moment (Prepared.Lost arrival) is = record { is_arrival = is.0; by_table = is.1; is_reading = tt }
lost_prepared contexts octets moment p is = absurd is
