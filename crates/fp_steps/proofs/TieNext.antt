-- A step at which no dialogue is opened keeps the tie between a book and its history.
use Rattle.fp_steps.proofs.Names.{AbortsTied, Content, Event, Handed, IsGone, IsTied, List, None, OneChanges, Option, Row, Rows, RowsKeepTheirOrder, Shelf, Some, Story, Tied, TiedAt, [], abort_out, aborts, aborts_sent, ap, append-nil, arith, began_with, beginning, beginning_after, births, births_after, by_local, entry_count, eqb, false, frame_octets, get, handed, insert, keep, local_of, map_list, named, named_after, ne_eqb, none-some, opened_in, option_map, out, parcel_local, parcel_octets as octets_of, refl, row_at, row_of, rules, same_Some, story, subst, sym, ℕ, ◌++◌, ◌+◌, ◌<◌, ◌∙◌, ◌∷◌, ◌≡◌}
use Rattle.fp_steps.proofs.HeldDialogues.{Held, same_birth, by_option, held_of, left_tied, one_left, one_put, other_row, own_row, row_other, row_own, row_there}
use Rattle.fp_steps.proofs.OpenedDialogues.{OpensNext, opened_after}

-- what such a step owes, but for its dialogues
pub record Next (h : List Event) (e : Event) (old new : Shelf) : Type 0 where
  pub opens_none : opened_in e.output ≡ None
  pub born : new.births ≡ old.births
  pub entries : entry_count (e ∷ h) ≡ new.entries
  pub is_out : out (e ∷ h) ≡ option_map (handed h) new.outbox.out
  pub aborts : AbortsTied (e ∷ h) new

-- no Abort of the provider is answered or sent
pub aborts_stay : {h : List Event} (e : Event) {old : Shelf} (new : Shelf) → AbortsTied h old → aborts (e ∷ h) ≡ aborts h ++ [] → aborts_sent (e ∷ h) ≡ aborts_sent h ++ [] → out (e ∷ h) ≡ out h
    → new.is_down ≡ old.is_down → new.outbox.aborts ≡ old.outbox.aborts → AbortsTied (e ∷ h) new
aborts_stay {h} e new a all sent_all same down waiting = record {
  rest = a.rest;
  all = (λ i. (sent_all ∙ append-nil (aborts_sent h)) i ++ (abort_out (same i) ++ a.rest)) ∙ a.all ∙ sym (append-nil (aborts h)) ∙ sym all;
  waiting = λ up. a.waiting (sym down ∙ up) ∙ ap (map_list frame_octets) (sym waiting);
}

-- nothing is done with what is out, and with the Aborts
pub quiet : {h : List Event} (e : Event) {old : Shelf} (new : Shelf) → Tied h old → opened_in e.output ≡ None → entry_count (e ∷ h) ≡ new.entries → aborts (e ∷ h) ≡ aborts h ++ []
    → aborts_sent (e ∷ h) ≡ aborts_sent h ++ [] → out (e ∷ h) ≡ out h
    → new.births ≡ old.births → new.outbox.out ≡ old.outbox.out → new.is_down ≡ old.is_down → new.outbox.aborts ≡ old.outbox.aborts → Next h e old new
quiet {h} e new t none entries all sent_all out_stays born out_is down waits =
    let is_out = out_stays ∙ t.is_out ∙ ap (option_map (handed h)) (sym out_is) in
    let left = aborts_stay e new t.aborts_are all sent_all out_stays down waits in search rules

-- what is out is of the dialogue that it was of, where its identifier names that still
pub handed_still : (h : List Event) (e : Event) (o : Option Content)
    → ((content : Content) → o ≡ Some content → named (e ∷ h) (parcel_local content) ≡ named h (parcel_local content)) → option_map (handed h) o ≡ option_map (handed (e ∷ h)) o
handed_still h e None same = refl
handed_still h e (Some content) same =
    let make : Option ℕ → Option Handed = λ d. Some (record { local = parcel_local content; dialogue = d; octets = octets_of content }) in
    ap make (sym (same content refl))

-- each dialogue that is held then was held before, under the same identifier
abbrev pub Stay : Rows → Rows → Type 0
Stay rows then = (l : ℕ) (after : Row) → get then l ≡ Some after → (before : Row) × (get rows l ≡ Some before) × (after.birth ≡ before.birth)

-- so each dialogue is tied, if those are that were held and those that weren't
pub rows_next : {h : List Event} (e : Event) {old : Shelf} (new : Shelf) → Tied h old → Stay old.rows new.rows
    → ((d : ℕ) → row_at h old d ≡ None → IsGone (births h) d (story h d) → IsGone (births h) d (story (e ∷ h) d))
    → ((local : ℕ) (row : Row) → get old.rows local ≡ Some row → Held h local row.birth row → TiedAt (births h) row.birth (story (e ∷ h) row.birth) (get new.rows local))
    → (d : ℕ) → TiedAt (births h) d (story (e ∷ h) d) (row_at h new d)
rows_next {h} e {old} new t stay gone held d =
    let l = local_of h d in
    by_option (λ o. TiedAt (births h) d (story h d) o → TiedAt (births h) d (story (e ∷ h) d) (row_at h new d)) (row_at h old d)
    (λ none k. subst (TiedAt (births h) d (story (e ∷ h) d)) (sym (by_option (λ o. row_of d o ≡ None) (get new.rows l) (λ is. refl) (λ after is.
    let b = stay l after is in
    other_row d after (ne_eqb after.birth d (λ same. none-some b.0 (sym none ∙ ap (row_of d) b.1 ∙ own_row d b.0 (sym b.2 ∙ same))))))) (gone d none k))
    (λ row is k.
    let there = row_there d (get old.rows l) row is in
    subst (TiedAt (births h) d (story (e ∷ h) d)) (sym (by_option (λ o. row_of d o ≡ o) (get new.rows l) (λ none. refl) (λ after is.
    let b = stay l after is in
    own_row d after (b.2 ∙ ap (λ (r : Row). r.birth) (same_Some b.0 row (sym b.1 ∙ there.0)) ∙ there.1))))
    (subst (λ b. TiedAt (births h) b (story (e ∷ h) b) (get new.rows l)) there.1 (held l row there.0 (held_of l row t there.0))))
    (t.rows d)

pub Tied-next : {h : List Event} {e : Event} {old new : Shelf} → Tied h old → Next h e old new → Stay old.rows new.rows → ((d : ℕ) → TiedAt (births h) d (story (e ∷ h) d) (row_at h new d))
    → ((d : ℕ) → births h < d → story (e ∷ h) d ≡ story h d) → Tied (e ∷ h) new
Tied-next {h} {e} {new = new} t g stay rows later =
    let same : births (e ∷ h) ≡ births h = ap (λ o. births_after o (births h)) g.opens_none in
    let names_same : (local : ℕ) → named (e ∷ h) local ≡ named h local = λ local. ap (λ o. named_after o (births h + 1) (named h local) local) g.opens_none in
    record {
      births_are = same ∙ t.births_are ∙ sym g.born;
      entries_are = g.entries;
      opened = opened_after (opened_in e.output) e.came t.opened (subst (λ o. OpensNext o e.came) (sym g.opens_none) tt);
      names = λ local row is. let b = stay local row is in names_same local ∙ t.names local b.0 b.1 ∙ ap Some (sym b.2);
      rows = λ d.
          subst (λ n. TiedAt n d (story (e ∷ h) d) (row_at (e ∷ h) new d)) (sym same)
          (subst (λ o. TiedAt (births h) d (story (e ∷ h) d) (row_of d (get new.rows (began_with (beginning_after o e.came (eqb d (births h + 1)) (beginning h d)))))) (sym g.opens_none) (rows d));
      later = λ d past. let before : births h < d = subst (λ n. n < d) same past in later d before ∙ t.later d before;
      is_out = g.is_out ∙ handed_still h e new.outbox.out (λ content is. names_same (parcel_local content));
      aborts_are = g.aborts;
    }

-- one dialogue changes
stay_one : {rows then : Rows} {local : ℕ} {before : Row} {left : Option Row} → OneChanges rows then local (Some before) left → ((after : Row) → left ≡ Some after → after.birth ≡ before.birth) → Stay rows then
stay_one {rows} {then} {local} {before} one same l after is =
    by_local l local (λ l. get then l ≡ Some after → (b : Row) × (get rows l ≡ Some b) × (after.birth ≡ b.birth))
    (λ is. (before, one.was, same after (sym one.there ∙ is))) (λ ne is. (after, sym (one.others l ne) ∙ is, refl)) is

birth_by : (n d : ℕ) (t : Story) (left : Option Row) → TiedAt n d t left → (after : Row) → left ≡ Some after → after.birth ≡ d
birth_by n d t left k after is = let tied : IsTied d t after = subst (TiedAt n d t) is k in tied.birth

pub Tied-one : {h : List Event} {e : Event} {old new : Shelf} {local : ℕ} (before : Row) {left : Option Row} → Tied h old → Next h e old new
    → OneChanges old.rows new.rows local (Some before) left
    → TiedAt (births h) before.birth (story (e ∷ h) before.birth) left → ((d : ℕ) → eqb d before.birth ≡ false → story (e ∷ h) d ≡ story h d) → Tied (e ∷ h) new
Tied-one {h} {e} {old} {new} {local} before {left} t g one own others =
    let n = births h in let b = before.birth in let same = birth_by n b (story (e ∷ h) b) left own in
    Tied-next t g (stay_one one same)
    (λ d. by_local d b (λ d. TiedAt n d (story (e ∷ h) d) (row_at h new d))
    (subst (TiedAt n b (story (e ∷ h) b)) (sym (row_own new before left t one same)) own)
    (λ ne.
    subst (λ t. TiedAt n d t (row_at h new d)) (sym (others d ne)) (subst (TiedAt n d (story h d)) (sym (row_other h old new b left d one (same_birth before) same ne)) (t.rows d))))
    (λ d past. others d (ne_eqb d b (λ same. omega (arith, past, (held_of local before t one.was).last, same))))

-- it is put in its place, or what is left of it
pub Tied-put : {h : List Event} {e : Event} {old new : Shelf} (local : ℕ) (before : Row) {after : Row} → Tied h old → Next h e old new
    → get old.rows local ≡ Some before → new.rows ≡ insert old.rows local after
    → IsTied before.birth (story (e ∷ h) before.birth) after → ((d : ℕ) → eqb d before.birth ≡ false → story (e ∷ h) d ≡ story h d) → Tied (e ∷ h) new
Tied-put {old} {new} local before {after} t g was is own others = Tied-one before t g (one_put old new local (Some before) after was is) own others

pub Tied-left : RowsKeepTheirOrder → {h : List Event} {e : Event} {old new : Shelf} (local : ℕ) (before : Row) {after : Row} → Tied h old → Next h e old new
    → get old.rows local ≡ Some before → new.rows ≡ keep old.rows local after
    → IsTied before.birth (story (e ∷ h) before.birth) after → ((d : ℕ) → eqb d before.birth ≡ false → story (e ∷ h) d ≡ story h d) → Tied (e ∷ h) new
Tied-left law {h} {old} {new} local before {after} t g was is own others =
    Tied-one before t g (one_left old new local before after was is) (left_tied law (births h) own) others

-- none does
pub Tied-quiet : {h : List Event} (e : Event) {old new : Shelf} → Tied h old → Next h e old new → ((d : ℕ) → story (e ∷ h) d ≡ story h d) → new.rows ≡ old.rows → Tied (e ∷ h) new
Tied-quiet {h} e {new} t g stays same = Tied-next t g (λ l after is. (after, ap (λ rows. get rows l) (sym same) ∙ is, refl))
    (λ d.
    subst (λ s. TiedAt (births h) d s (row_at h new d)) (sym (stays d)) (subst (λ rows. TiedAt (births h) d (story h d) (row_of d (get rows (local_of h d)))) (sym same) (t.rows d)))
    (λ d past. stays d)
