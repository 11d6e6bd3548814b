-- What the type of a book keeps of each dialogue that is held.
use Rattle.fp_book.proofs.Names.{Bool, DialoguesAreKeptInOrder, Entry, IsPrefix, IsSome, KeepsOrder, List, None, Option, Row, RowsKeepTheirOrder, Some, Turn, ap, cond, drop, entries_out, false, frames_of, frames_under, has_turn_out, kept_of, length, of_row, refl, requests_of, sent_of, served_of, subst, sym, take, take-append-drop, true, turn_entries, turn_of, turn_out, unsent_for, unserved, waiting_of, ℕ, ◌++◌, ◌∙◌, ◌≡◌, ◌≢◌}
use Rattle.fp_book.proofs.Changes.{turns_none}

-- a turn that is out has the parts of its dialogue
turn_by : (row : Row) (out : Bool) (entries : List Entry) (turn : Turn) → cond out (Some (turn_of row entries)) None ≡ Some turn → turn ≡ turn_of row turn.entries
turn_by row true entries turn e =
    let is : turn_of row entries ≡ turn = cc in
    sym is ∙ ap (λ (t : Turn). turn_of row t.entries) is
turn_by row false entries turn e = absurd (cc)

-- its entries are those that are out
entries_by : (row : Row) (o : Option Turn) → turn_out row ≡ o → KeepsOrder row → (out : Bool) → has_turn_out row ≡ out → entries_out row ≡ turn_entries o
entries_by row (Some turn) is order out b = order.turn turn is
entries_by row None is order true b = absurd (order.next b is)
entries_by row None is order false b = ap (λ n. take n (unserved row)) (turns_none row b)

some_by : (o : Option Turn) → o ≢ None → IsSome o
some_by None none = absurd (none refl)
some_by (Some turn) none = refl

-- each is kept in order
pub kept_in_order : RowsKeepTheirOrder → DialoguesAreKeptInOrder
kept_in_order law s sound local row there =
    let order = law row in
    let own : row.local ≡ local = (sound.own local row there).local_is in
    let entries : entries_out row ≡ turn_entries (turn_out row) = entries_by row (turn_out row) refl order (has_turn_out row) refl in
    let kept : sent_of row ++ unsent_for local s.outbox ≡ kept_of row =
    subst (λ (o : Option Row). of_row sent_of o ++ unsent_for local s.outbox ≡ of_row kept_of o) there (sound.frames local)
    in
    let framed : frames_of row ≡ frames_under local row.peer (requests_of row) = ap (λ l. frames_under l row.peer (requests_of row)) own in
    let rest = drop row.kept (frames_of row) in
    record {
      local_is = own;
      served = order.served;
      core = order.core;
      turn = λ turn is.
          turn_by row (has_turn_out row) (entries_out row) turn is
          ∙ ap (λ l. record { local = l; peer = row.peer; position = row.served; before = row.core; entries = turn.entries }) own
          ∙ ap (λ n. record { local = local; peer = row.peer; position = n; before = row.core; entries = turn.entries }) (sym order.served_count)
          ∙ ap (λ core. record { local = local; peer = row.peer; position = length (served_of row); before = core; entries = turn.entries }) order.core;
      is_there = λ out. some_by (turn_out row) (order.next out);
      entries = subst (λ e. IsPrefix (served_of row ++ (e ++ waiting_of row)) row.accepted) entries order.parts;
      all_entries = λ taken live. ap (λ e. served_of row ++ (e ++ waiting_of row)) (sym entries) ∙ order.whole taken live;
      frames = subst (IsPrefix _) framed (rest, ap (λ (frames : List (List ℕ)). frames ++ rest) kept ∙ take-append-drop row.kept (frames_of row));
      all_frames = λ none. kept ∙ order.all_kept none ∙ framed;
      frames_born = (sound.own local row there).frames_born;
    }
