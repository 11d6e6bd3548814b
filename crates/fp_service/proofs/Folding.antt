-- The folds of the service step along lists of entries.
use Rattle.std.proofs.Common.{◌≡◌, ◌≤◌, Bool, true, false, cond, Option, Some, None, ℕ, List, [], ◌∷◌, ◌++◌, ◌⊎◌, inl, inr, length, refl, sym, ◌∙◌, ap, append_assoc, append-nil, length-append, arith}
use Rattle.std.proofs.lemmas.Bool.{false≢true}
use Rattle.std.specs.Prelude.{option_to_list}
use Rattle.fp_entry.specs.declared.entry.Entry.{Entry}
use Rattle.fp_entry.specs.declared.entry.EntryKind.{EntryKind}
use Rattle.fp_service.specs.declared.dialogue.Core.{Core}
use Rattle.fp_service.specs.declared.request.Request.{Request}
use Rattle.fp_entry.specs.Entries.{is_clock}
use Rattle.fp_service.specs.declared.state.Stage.{Stage}
use Rattle.fp_service.specs.declared.state.State.{State}
use Rattle.fp_service.specs.declared.state.State.TheVariants.{Live, Over}
use Rattle.fp_service.specs.Dialogue.{ended, has_ended, is_over, touched}
use Rattle.fp_service.specs.Answer.{no_request}
use Rattle.fp_service.specs.Fold.{core_after, requests, cut}
use Rattle.fp_service.specs.Laws.{FoldsGrow, FoldsGrowByOne, IsPeersOwn, PeerEndsDialogue, StaysOver, CutIsFront}
use Rattle.fp_service.specs.Serve.{in_state, on_kind, serve, next, request_of}

-- an entry's moment doesn't change the state of a dialogue
state-touched : (core : Core) (entry : Entry) → (touched core entry).state ≡ core.state
state-touched core entry =
    elim (is_clock entry.kind) as (λ b. (cond b core (record core { last = entry.moment })).state ≡ core.state) [ true ↦ refl | false ↦ refl ]

is_over-touched : (core : Core) (entry : Entry) → is_over (touched core entry) ≡ is_over core
is_over-touched core entry = ap has_ended (state-touched core entry)

in_state-over : (state : State) (core : Core) (entry : Entry) → has_ended state ≡ true → in_state state core entry ≡ no_request core
in_state-over Over core entry over = refl
in_state-over (Live stage) core entry over = absurd (false≢true over)

-- the line of the table for a dialogue that is over
pub serve-over : (core : Core) (entry : Entry) → is_over core ≡ true → serve core entry ≡ no_request (touched core entry)
unfolding serve
serve-over core entry over = in_state-over core.state (touched core entry) entry over

-- a dialogue that is over stays so
pub next-over : (core : Core) (entry : Entry) → is_over core ≡ true → is_over (next core entry) ≡ true
next-over core entry over =
    ap (λ (served : Core × Option Request). is_over served.0) (serve-over core entry over) ∙ is_over-touched core entry ∙ over

-- and requests nothing
pub request_of-over : (core : Core) (entry : Entry) → is_over core ≡ true → request_of core entry ≡ None
request_of-over core entry over = ap (λ (served : Core × Option Request). served.1) (serve-over core entry over)

pub core_after-over : (core : Core) (xs : List Entry) → is_over core ≡ true → is_over (core_after core xs) ≡ true
core_after-over core [] over = over
core_after-over core (x ∷ xs) over = core_after-over (next core x) xs (next-over core x over)

pub requests-over : (core : Core) (xs : List Entry) → is_over core ≡ true → requests core xs ≡ []
requests-over core [] over = refl
requests-over core (x ∷ xs) over =
    ap (λ o. option_to_list o ++ requests (next core x) xs) (request_of-over core x over) ∙ requests-over (next core x) xs (next-over core x over)

pub cut-over : (core : Core) (xs : List Entry) → is_over core ≡ true → cut core xs ≡ []
cut-over core [] over = refl
cut-over core (x ∷ xs) over = ap (λ b. cond b [] (x ∷ cut (next core x) xs)) over

-- the cut of a list whose first entry is served
cut-going : (core : Core) (x : Entry) (xs : List Entry) → is_over core ≡ false → cut core (x ∷ xs) ≡ x ∷ cut (next core x) xs
cut-going core x xs going = ap (λ b. cond b [] (x ∷ cut (next core x) xs)) going

-- the peer ends or aborts the dialogue

-- the line for the peer's End and its Abort
on_kind-peer : (stage : Stage) (core : Core) (moment : ℕ) (kind : EntryKind) → IsPeersOwn kind → on_kind stage core moment kind ≡ no_request (ended core)
unfolding on_kind
on_kind-peer stage core moment kind (inl end) = ap (on_kind stage core moment) end
on_kind-peer stage core moment kind (inr abort) = ap (on_kind stage core moment) abort

in_state-peer : (state : State) (core : Core) (entry : Entry) → has_ended state ≡ false → IsPeersOwn entry.kind → in_state state core entry ≡ no_request (ended core)
in_state-peer Over core entry going own = absurd (false≢true (sym going))
in_state-peer (Live stage) core entry going own = on_kind-peer stage core entry.moment entry.kind own

serve-peer : (core : Core) (entry : Entry) → is_over core ≡ false → IsPeersOwn entry.kind → serve core entry ≡ no_request (ended (touched core entry))
unfolding serve
serve-peer core entry going own = in_state-peer core.state (touched core entry) entry going own

-- a dialogue is over or not
is_over-or : (b : Bool) → (b ≡ true) ⊎ (b ≡ false)
is_over-or true = inl refl
is_over-or false = inr refl

next-peer : (core : Core) (entry : Entry) → IsPeersOwn entry.kind → is_over (next core entry) ≡ true
next-peer core entry own =
    elim (is_over-or (is_over core)) as (λ _. is_over (next core entry) ≡ true) [
      | inl over ↦ next-over core entry over
      | inr going ↦ ap (λ (served : Core × Option Request). is_over served.0) (serve-peer core entry going own)
    ]

request_of-peer : (core : Core) (entry : Entry) → IsPeersOwn entry.kind → request_of core entry ≡ None
request_of-peer core entry own =
    elim (is_over-or (is_over core)) as (λ _. request_of core entry ≡ None) [
      | inl over ↦ request_of-over core entry over
      | inr going ↦ ap (λ (served : Core × Option Request). served.1) (serve-peer core entry going own)
    ]

-- a list and more

pub core_after-append : (core : Core) (xs ys : List Entry) → core_after core (xs ++ ys) ≡ core_after (core_after core xs) ys
core_after-append core [] ys = refl
core_after-append core (x ∷ xs) ys = core_after-append (next core x) xs ys

pub requests-append : (core : Core) (xs ys : List Entry) → requests core (xs ++ ys) ≡ requests core xs ++ requests (core_after core xs) ys
requests-append core [] ys = refl
requests-append core (x ∷ xs) ys =
    ap (λ r. option_to_list (request_of core x) ++ r) (requests-append (next core x) xs ys) ∙ sym (append_assoc (option_to_list (request_of core x)) _ _)

pub cut-append : (core : Core) (xs ys : List Entry) → cut core (xs ++ ys) ≡ cut core xs ++ cut (core_after core xs) ys
cut-append core [] ys = refl
cut-append core (x ∷ xs) ys =
    elim (is_over-or (is_over core)) as (λ _. cut core (x ∷ (xs ++ ys)) ≡ cut core (x ∷ xs) ++ cut (core_after core (x ∷ xs)) ys) [
      | inl over ↦
          cut-over core (x ∷ (xs ++ ys)) over
          ∙ sym (ap (λ r. r ++ cut (core_after core (x ∷ xs)) ys) (cut-over core (x ∷ xs) over) ∙ cut-over (core_after core (x ∷ xs)) ys (core_after-over core (x ∷ xs) over))
      | inr going ↦
          cut-going core x (xs ++ ys) going
          ∙ ap (λ r. x ∷ r) (cut-append (next core x) xs ys)
          ∙ sym (ap (λ r. r ++ cut (core_after core (x ∷ xs)) ys) (cut-going core x xs going))
    ]

-- before the core is over all are served

-- a dialogue that isn't over at the end wasn't over before
going-before : (core : Core) (xs : List Entry) → is_over (core_after core xs) ≡ false → is_over core ≡ false
going-before core xs going =
    elim (is_over-or (is_over core)) as (λ _. is_over core ≡ false) [
      | inl over ↦ absurd (false≢true (sym going ∙ core_after-over core xs over))
      | inr before ↦ before
    ]

pub cut-whole : (core : Core) (xs : List Entry) → is_over (core_after core xs) ≡ false → cut core xs ≡ xs
cut-whole core [] going = refl
cut-whole core (x ∷ xs) going =
    cut-going core x xs (going-before core (x ∷ xs) going) ∙ ap (λ r. x ∷ r) (cut-whole (next core x) xs going)

-- once the core is over no more are
pub cut-closed : (core : Core) (xs ys : List Entry) → is_over (core_after core xs) ≡ true → cut core (xs ++ ys) ≡ cut core xs
cut-closed core xs ys over =
    cut-append core xs ys ∙ ap (λ r. cut core xs ++ r) (cut-over (core_after core xs) ys over) ∙ append-nil (cut core xs)

-- one entry more, if the core isn't over
pub cut-more : (core : Core) (xs : List Entry) (x : Entry) → is_over (core_after core xs) ≡ false → cut core (xs ++ x ∷ []) ≡ xs ++ x ∷ []
cut-more core xs x going =
    cut-append core xs (x ∷ [])
    ∙ ap (λ r. r ++ cut (core_after core xs) (x ∷ [])) (cut-whole core xs going)
    ∙ ap (λ r. xs ++ r) (cut-going (core_after core xs) x [] going)

-- the cut begins the list
pub cut-front : (core : Core) (xs : List Entry) → (rest : List Entry) × (cut core xs ++ rest ≡ xs)
cut-front core [] = ([], refl)
cut-front core (x ∷ xs) =
    let more = cut-front (next core x) xs in
    elim (is_over-or (is_over core)) as (λ _. (rest : List Entry) × (cut core (x ∷ xs) ++ rest ≡ x ∷ xs)) [
      | inl over ↦ (x ∷ xs, ap (λ r. r ++ x ∷ xs) (cut-over core (x ∷ xs) over))
      | inr going ↦ (more.0, ap (λ r. r ++ more.0) (cut-going core x xs going) ∙ ap (λ r. x ∷ r) more.1)
    ]

-- and is its own cut
pub cut-cut : (core : Core) (xs : List Entry) → cut core (cut core xs) ≡ cut core xs
cut-cut core [] = refl
cut-cut core (x ∷ xs) =
    elim (is_over-or (is_over core)) as (λ _. cut core (cut core (x ∷ xs)) ≡ cut core (x ∷ xs)) [
      | inl over ↦ cut-over core (cut core (x ∷ xs)) over ∙ sym (cut-over core (x ∷ xs) over)
      | inr going ↦
          ap (cut core) (cut-going core x xs going)
          ∙ cut-going core x (cut (next core x) xs) going
          ∙ ap (λ r. x ∷ r) (cut-cut (next core x) xs)
          ∙ sym (cut-going core x xs going)
    ]

-- the entries that are cut off change nothing

pub is_over-cut : (core : Core) (xs : List Entry) → is_over (core_after core (cut core xs)) ≡ is_over (core_after core xs)
is_over-cut core [] = refl
is_over-cut core (x ∷ xs) =
    elim (is_over-or (is_over core)) as (λ _. is_over (core_after core (cut core (x ∷ xs))) ≡ is_over (core_after core (x ∷ xs))) [
      | inl over ↦ core_after-over core (cut core (x ∷ xs)) over ∙ sym (core_after-over core (x ∷ xs) over)
      | inr going ↦
          ap (λ r. is_over (core_after core r)) (cut-going core x xs going) ∙ is_over-cut (next core x) xs
    ]

pub requests-cut : (core : Core) (xs : List Entry) → requests core (cut core xs) ≡ requests core xs
requests-cut core [] = refl
requests-cut core (x ∷ xs) =
    elim (is_over-or (is_over core)) as (λ _. requests core (cut core (x ∷ xs)) ≡ requests core (x ∷ xs)) [
      | inl over ↦ requests-over core (cut core (x ∷ xs)) over ∙ sym (requests-over core (x ∷ xs) over)
      | inr going ↦
          ap (requests core) (cut-going core x xs going)
          ∙ ap (λ r. option_to_list (request_of core x) ++ r) (requests-cut (next core x) xs)
    ]

-- an entry requests at most one message

length-option_to_list : {A : Type 0} (o : Option A) → length (option_to_list o) ≤ 1
length-option_to_list None = omega arith
length-option_to_list (Some x) = omega arith

pub length-requests : (core : Core) (xs : List Entry) → length (requests core xs) ≤ length xs
length-requests core [] = omega arith
length-requests core (x ∷ xs) =
    let one = length-option_to_list (request_of core x) in
    let more = length-requests (next core x) xs in
    let both = length-append (option_to_list (request_of core x)) (requests (next core x) xs) in
    omega (arith, one, more, both)

-- the laws

pub folds_grow : FoldsGrow
folds_grow = record {
  core_after_both = core_after-append;
  requests_of_both = requests-append;
  cut_of_both = cut-append;
}

pub folds_grow_by_one : FoldsGrowByOne
folds_grow_by_one = record {
  core_after_one = λ core xs x. core_after-append core xs (x ∷ []);
  requests_of_one = λ core xs x.
      requests-append core xs (x ∷ []) ∙ ap (λ r. requests core xs ++ r) (append-nil (option_to_list (request_of (core_after core xs) x)));
  cut_of_one = cut-more;
}

pub stays_over : StaysOver
stays_over = record {
  next_is_over = next-over;
  no_request = request_of-over;
  core_after_is_over = core_after-over;
  no_requests = requests-over;
}

pub peer_ends_dialogue : PeerEndsDialogue
peer_ends_dialogue = record {
  next_is_over = next-peer;
  no_request = request_of-peer;
}

pub cut_is_front : CutIsFront
cut_is_front = record {
  front = cut-front;
  whole = cut-whole;
  over = cut-closed;
  once = cut-cut;
  same_end = is_over-cut;
  same_requests = requests-cut;
}
