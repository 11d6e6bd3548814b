-- The serials of a link: which may be given if one dialogue changes, comes or goes.
use Rattle.fp_book.proofs.Names.{AreSerials, Bool, Inside, IsGiven, IsKept, List, LocalIds, None, Option, Row, SerialsAreShown, SerialsComeBackLast, SerialsOfDialoguesComeBackLate, Shelf, Some, Sound, [], ap, arith, base, base_of, cond, drop, eq-eqb, eqb, eqb-true, false, false_from_ne_true, false≢true, first_of, free_with, identifier, is_free, is_held, last_serial, length, length-append, link_with_tag, list_any-append, most_dialogues, or_left, or_parts, refl, serial_of, subst, sym, take, true, with_returned, ℕ, ◌++◌, ◌+◌, ◌-◌, ◌||◌, ◌∙◌, ◌∷◌, ◌≡◌, ◌≤◌}
use Rattle.std.specs.FinMap as map
use Rattle.fp_book.proofs.LowerLaws.{LowerLaws}
use Rattle.fp_book.proofs.Sums.{amount, left_of}

-- which serials may be given then; `before` is the dialogue that changes, and `left` what is left of it
pub record SerialsChange (s : Shelf) (free : List ℕ) (local : ℕ) (before left : Option Row) : Type 0 where
  pub serials : AreSerials free
  -- the serial of another dialogue isn't free
  pub others : (d serial : ℕ) → eqb d local ≡ false → d ≡ identifier (base s) serial → is_free serial s.free ≡ false → is_free serial free ≡ false
  pub count : length free + amount (λ (row : Row). 1) left ≡ length s.free + amount (λ (row : Row). 1) before

-- an identifier shows the serial of its dialogue
pub own_serial : SerialsAreShown → (s : Shelf) (local : ℕ) (row : Row) → (k : Sound s) → (was : map.get s.rows local ≡ Some row) → serial_of local ≡ (k.own local row was).serial.0
own_serial shown s local row k was =
    let own = (k.own local row was).serial in
    let most : own.0 ≤ last_serial = own.2 in
    ap serial_of own.3 ∙ shown s.link s.tag own.0 own.1 most

-- serials of two identifiers of a link are two
two_serials : (link d local serial own : ℕ) → eqb d local ≡ false → d ≡ identifier link serial → local ≡ identifier link own → eqb serial own ≡ false
two_serials link d local serial own ne is here =
    false_from_ne_true (eqb serial own) (λ e. let same : serial ≡ own = eqb-true serial own e in false≢true (sym ne ∙ eq-eqb d local (is ∙ ap (identifier link) same ∙ sym here)))

ended_by : LowerLaws → (s : Shelf) (free : List ℕ) (local : ℕ) (before after : Row) (held : Bool) → Sound s → map.get s.rows local ≡ Some before → free ≡ cond held s.free (s.free ++ serial_of local ∷ [])
    → SerialsChange s free local (Some before) (cond held (Some after) None)
ended_by law s free local before after true k was is = record {
  serials = subst AreSerials (sym is) k.serials;
  others = λ d serial ne names absent. ap (is_free serial) is ∙ absent;
  count = omega (arith, ap length is);
}
ended_by law s free local before after false k was is =
    let own = (k.own local before was).serial in
    let back : free ≡ s.free ++ own.0 ∷ [] = is ∙ ap (λ n. s.free ++ n ∷ []) (own_serial law.shown s local before k was) in
    record {
      serials = subst AreSerials (sym back) (law.ends own.0 s.free own.1 own.2 own.4 k.serials);
      others = λ d serial ne names absent.
          ap (is_free serial) back ∙ list_any-append (eqb serial) s.free (own.0 ∷ []) ∙ ap (λ b. b || (eqb serial own.0 || false)) absent
          ∙ ap (λ b. b || false) (two_serials (base s) d local serial own.0 ne names own.3);
      count = omega (arith, ap length back, length-append s.free (own.0 ∷ []));
    }

-- the serial of a dialogue of which nothing is left may be given, after all others
pub serials_end : LowerLaws → (s : Shelf) (local : ℕ) (before after : Row) → Sound s → map.get s.rows local ≡ Some before → SerialsChange s (free_with s.free local after) local (Some before) (left_of after)
serials_end law s local before after k was = ended_by law s (free_with s.free local after) local before after (is_held after) k was refl

-- what is held keeps its serial
pub held_free : (free : List ℕ) (local : ℕ) (after : Row) → is_held after ≡ true → free_with free local after ≡ free
held_free free local after held = ap (λ b. cond b free (free ++ serial_of local ∷ [])) held

-- it comes back after all others: all serials but those of the dialogues that are held
pub comes_back_late : SerialsAreShown → SerialsComeBackLast → SerialsOfDialoguesComeBackLate
comes_back_late shown last s local row more k up was =
    let own = (k.own local row was).serial in
    let count : length s.free + map.len s.rows ≡ last_serial = k.serial_count up in
    let few : (last_serial - most_dialogues) ≤ length s.free = omega (arith, count, k.held) in
    subst (λ n. is_free n (take (last_serial - most_dialogues) (s.free ++ n ∷ more)) ≡ false) (sym (own_serial shown s local row k was)) (last s.free more own.0 (last_serial - most_dialogues) own.4 few)

-- what was given is the identifier of the front serial, and the others are left
pub given_first : (link : ℕ) (queue rest : List ℕ) (local : ℕ) → Some local ≡ first_of link queue → rest ≡ drop 1 queue
    → (serial : ℕ) × (local ≡ identifier link serial) × (queue ≡ serial ∷ rest)
given_first link [] rest local is left = absurd (cc)
given_first link (serial ∷ serials) rest local is left = (serial, let same : local ≡ identifier link serial = cc in same, ap (λ xs. serial ∷ xs) (sym left))

-- the next serial is given to a new dialogue
pub serial_given : LowerLaws → (s : Shelf) (serial : ℕ) (rest : List ℕ) (local : ℕ) (after : Row) → Sound s → s.free ≡ serial ∷ rest → is_held after ≡ true → SerialsChange s rest local None (left_of after)
serial_given law s serial rest local after k first held =
    let left = law.gives serial rest (subst AreSerials first k.serials) in
    record {
      serials = left.3;
      others = λ d other ne names absent. (or_parts (eqb other serial) (is_free other rest) (sym (ap (is_free other) first) ∙ absent)).1;
      count = omega (arith, ap length first, ap (λ b. amount (λ (row : Row). 1) (cond b (Some after) None)) held);
    }

-- so it is no dialogue's yet
fresh_by : (s : Shelf) (serial : ℕ) (rest : List ℕ) (o : Option Row) → Sound s → s.free ≡ serial ∷ rest → map.get s.rows (identifier (base s) serial) ≡ o → o ≡ None
fresh_by s serial rest None k first e = refl
fresh_by s serial rest (Some row) k first e =
    let own = (k.own (identifier (base s) serial) row e).serial in
    let names : identifier (base s) serial ≡ identifier (base s) own.0 = own.3 in
    let same : own.0 ≡ serial = omega (arith, names) in
    absurd (false≢true (sym own.4 ∙ ap (is_free own.0) first ∙ or_left (eqb own.0 serial) (is_free own.0 rest) (eq-eqb own.0 serial same)))

pub is_fresh : (s : Shelf) (serial : ℕ) (rest : List ℕ) → Sound s → s.free ≡ serial ∷ rest → map.get s.rows (identifier (base s) serial) ≡ None
is_fresh s serial rest k first = fresh_by s serial rest (map.get s.rows (identifier (base s) serial)) k first refl

-- the parts of a book

-- a dialogue that is there has an identifier that was given
pub given_of : (b : Inside) (local : ℕ) (row : Row) → IsKept b → map.get b.rows local ≡ Some row → IsGiven b.ids local
given_of b local row k was =
    let own = (k.sound.own local row was).serial in
    (own.0, own.1, own.2, own.3 ∙ ap (λ (p : ℕ × ℕ). identifier (base_of p.0 p.1) own.0) (sym k.links), own.4)

freed_by : (ids : LocalIds) (local : ℕ) (held : Bool) → (cond held ids (with_returned ids local)).queue ≡ cond held ids.queue (ids.queue ++ serial_of local ∷ [])
freed_by ids local true = refl
freed_by ids local false = refl

-- the link and the tag of identifiers
abbrev pub of_ids : LocalIds → ℕ × ℕ
of_ids ids = link_with_tag ids.link ids.tag

linked_by : (ids : LocalIds) (local : ℕ) (held : Bool) → of_ids (cond held ids (with_returned ids local)) ≡ of_ids ids
linked_by ids local true = refl
linked_by ids local false = refl

-- what may be given once the serial of a dialogue ended, unless that is still held
pub freed : (ids then : LocalIds) (local : ℕ) (held : Bool) (after : Row) → then ≡ cond held ids (with_returned ids local) → held ≡ is_held after → then.queue ≡ free_with ids.queue local after
freed ids then local held after is same =
    ap (λ (i : LocalIds). i.queue) is ∙ freed_by ids local held ∙ ap (λ b. cond b ids.queue (ids.queue ++ serial_of local ∷ [])) same

pub linked : (ids then : LocalIds) (local : ℕ) (held : Bool) → then ≡ cond held ids (with_returned ids local) → of_ids then ≡ of_ids ids
linked ids then local held is = ap of_ids is ∙ linked_by ids local held
