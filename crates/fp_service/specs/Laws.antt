-- Laws of the service step along all lists of entries.
use Rattle.std.specs.Prelude.{◌≡◌, ◌≤◌, true, false, List, [], ◌∷◌, ◌++◌, None, length, option_to_list, ◌⊎◌}
use Rattle.fp_entry.specs.declared.entry.Entry.{Entry}
use Rattle.fp_entry.specs.declared.entry.EntryKind.{EntryKind}
use Rattle.fp_entry.specs.declared.entry.EntryKind.TheVariants.{PeerEnd, PeerAbort}
use Rattle.fp_service.specs.declared.dialogue.Core.{Core}
use Rattle.fp_service.specs.Dialogue.{is_over}
use Rattle.fp_service.specs.Fold.{core_after, requests, cut}
use Rattle.fp_service.specs.Serve.{next, request_of}

-- along a list followed by another the folds are those along the first, and then those along the second from there
pub record FoldsGrow : Type 0 where
  pub core_after_both : (core : Core) (entries more : List Entry) → core_after core (entries ++ more) ≡ core_after (core_after core entries) more
  pub requests_of_both : (core : Core) (entries more : List Entry) → requests core (entries ++ more) ≡ requests core entries ++ requests (core_after core entries) more
  pub cut_of_both : (core : Core) (entries more : List Entry) → cut core (entries ++ more) ≡ cut core entries ++ cut (core_after core entries) more

-- the same with one more entry
pub record FoldsGrowByOne : Type 0 where
  pub core_after_one : (core : Core) (entries : List Entry) (entry : Entry) → core_after core (entries ++ entry ∷ []) ≡ next (core_after core entries) entry
  pub requests_of_one : (core : Core) (entries : List Entry) (entry : Entry) → requests core (entries ++ entry ∷ []) ≡ requests core entries ++ option_to_list (request_of (core_after core entries) entry)
  pub cut_of_one : (core : Core) (entries : List Entry) (entry : Entry) → is_over (core_after core entries) ≡ false → cut core (entries ++ entry ∷ []) ≡ entries ++ entry ∷ []

-- a dialogue that is over stays over, whatever comes, and nothing is requested
pub record StaysOver : Type 0 where
  pub next_is_over : (core : Core) (entry : Entry) → is_over core ≡ true → is_over (next core entry) ≡ true
  pub no_request : (core : Core) (entry : Entry) → is_over core ≡ true → request_of core entry ≡ None
  pub core_after_is_over : (core : Core) (entries : List Entry) → is_over core ≡ true → is_over (core_after core entries) ≡ true
  pub no_requests : (core : Core) (entries : List Entry) → is_over core ≡ true → requests core entries ≡ []

-- the peer's own end of a dialogue, or its abort
abbrev pub IsPeersOwn : EntryKind → Type 0
IsPeersOwn kind = (kind ≡ PeerEnd) ⊎ (kind ≡ PeerAbort)

-- after it the dialogue is over, and nothing is requested
pub record PeerEndsDialogue : Type 0 where
  pub next_is_over : (core : Core) (entry : Entry) → IsPeersOwn entry.kind → is_over (next core entry) ≡ true
  pub no_request : (core : Core) (entry : Entry) → IsPeersOwn entry.kind → request_of core entry ≡ None

-- the cut removes the end of a list: the entries after the first one at which the core is over, which request nothing
pub record CutIsFront : Type 0 where
  pub front : (core : Core) (entries : List Entry) → (rest : List Entry) × (cut core entries ++ rest ≡ entries)
  pub whole : (core : Core) (entries : List Entry) → is_over (core_after core entries) ≡ false → cut core entries ≡ entries
  pub over : (core : Core) (entries more : List Entry) → is_over (core_after core entries) ≡ true → cut core (entries ++ more) ≡ cut core entries
  pub once : (core : Core) (entries : List Entry) → cut core (cut core entries) ≡ cut core entries
  pub same_end : (core : Core) (entries : List Entry) → is_over (core_after core (cut core entries)) ≡ is_over (core_after core entries)
  pub same_requests : (core : Core) (entries : List Entry) → requests core (cut core entries) ≡ requests core entries

-- an entry requests at most one message
abbrev pub AsksOnceAtMost : Type 0
AsksOnceAtMost = (core : Core) (entries : List Entry) → length (requests core entries) ≤ length entries

-- a step keeps the birth of the core
pub record BirthsStay : Type 0 where
  pub next_has_birth : (core : Core) (entry : Entry) → (next core entry).birth ≡ core.birth
  pub core_after_has_birth : (core : Core) (entries : List Entry) → (core_after core entries).birth ≡ core.birth
