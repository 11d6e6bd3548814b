-- The records made of the groups are the table of the file.
use Rattle.std.proofs.Common.{◌≡◌, ℕ, ℤ, List, [], ◌∷◌, Bool, true, false, cond, Option, Some, Result, Ok, Err, map, option_map, refl, sym, ap, ◌∙◌}
use Rattle.std.specs.Prelude.{IfErr, IfOk, bytes_eq}
use Rattle.std.specs.Map.{keys_of, lookup}
use Rattle.fp_records.specs.Choice.{Rules}
use Rattle.fp_records.specs.Closed.{closed_days}
use Rattle.fp_records.specs.Closings.{at_number}
use Rattle.fp_records.specs.Drafts.{Drafts, IsDraft}
use Rattle.fp_records.specs.File.{AreItems, File, rules_of}
use Rattle.fp_records.specs.Gathered.{Gathered}
use Rattle.fp_records.specs.Groups.{record_of_group, some_rules}
use Rattle.fp_records.specs.Head.{head_of}
use Rattle.fp_records.specs.Items.{all_closed, all_rules}
use Rattle.fp_records.specs.Table.{Contents, IsTable, Reads, record_with}
use Rattle.fp_records.specs.Version.{start_of}
use Rattle.fp_records.specs.declared.draft.Draft.{Draft}
use Rattle.fp_records.specs.declared.fault.RecordsFault.{RecordsFault}
use Rattle.fp_records.specs.declared.fault.RecordsFault.TheVariants.{Memory, Record}
use Rattle.fp_records.specs.declared.head.Head.{Head}
use Rattle.fp_records.specs.declared.item.Item.{Item}
use Rattle.fp_records.specs.declared.rule.Rule.{Rule}
use Rattle.fp_records.specs.declared.version.Version.{Version}
use Rattle.fp_records.proofs.Entries.{same_digits}

keys-records : (offset : ℤ) (closed : List (List ℕ × List ℤ)) (groups : List (List ℕ × List Rule)) → keys_of (map (record_of_group offset closed) groups) ≡ keys_of groups
keys-records offset closed [] = refl
keys-records offset closed (group ∷ groups) = ap (λ keys. group.0 ∷ keys) (keys-records offset closed groups)

lookup-records : (offset : ℤ) (closed : List (List ℕ × List ℤ)) (digits : List ℕ) (groups : List (List ℕ × List Rule))
    → lookup (bytes_eq digits) (map (record_of_group offset closed) groups)
    ≡ option_map (λ rules. record { offset = offset; rules = rules; closed = at_number digits closed }) (lookup (bytes_eq digits) groups)
lookup-records offset closed digits [] = refl
lookup-records offset closed digits (group ∷ groups) =
    rw (lookup-records offset closed digits groups) (by (bytes_eq digits group.0) refl (lookup (bytes_eq digits) groups))
  where
    by : (here : Bool) → bytes_eq digits group.0 ≡ here → (found : Option (List Rule))
        → cond here (Some (record { offset = offset; rules = group.1; closed = at_number group.0 closed })) (option_map (λ rules. record { offset = offset; rules = rules; closed = at_number digits closed }) found)
        ≡ option_map {U = Rules} (λ rules. record { offset = offset; rules = rules; closed = at_number digits closed }) (cond here (Some group.1) found)
    by true is found = ap (λ number. Some (record { offset = offset; rules = group.1; closed = at_number number closed })) (sym (same_digits digits group.0 is))
    by false is found = refl

record_with-some : (offset : ℤ) (closed : List ℤ) (rules : List Rule)
    → option_map {U = Rules} (λ them. record { offset = offset; rules = them; closed = closed }) (some_rules rules) ≡ record_with offset closed rules
record_with-some offset closed [] = refl
record_with-some offset closed (rule ∷ rules) = refl

-- the table that is made of the draft of a file
pub table_of : (file : File) (draft : Draft) (contents : Contents) → IsDraft file draft → contents.key ≡ draft.head.key
    → contents.rule_count ≡ draft.gathering.rules.count → contents.closed_count ≡ draft.gathering.closed.count
    → contents.records ≡ map (record_of_group draft.head.offset draft.gathering.closed.days) draft.gathering.rules.groups → IsTable file contents
table_of file draft contents is key count closed records =
    let groups = draft.gathering.rules.groups in
    let days = draft.gathering.closed.days in
    let offset : draft.head.offset ≡ file.offset = ap (λ (head : Head). head.offset) is.head in
    record {
      key = key ∙ ap (λ (head : Head). head.key) is.head;
      rule_count = count ∙ is.items.rules.count;
      closed_count = closed ∙ is.items.closed.count;
      each = λ digits. rw (records, lookup-records draft.head.offset days digits groups, is.items.rules.each digits, is.items.closed.each digits, offset)
          (record_with-some file.offset (closed_days digits (all_closed file.items)) (rules_of digits (all_rules file.items)));
      once = rw (records, keys-records draft.head.offset days groups) is.items.rules.once;
    }

-- an answer made of a draft is one to its text
pub reads : (rows : List (List (List ℕ))) (draft : Draft) (result : Result Contents RecordsFault) → Drafts (Ok draft) rows
    → IfOk result (λ table. (file : File) → IsDraft file draft → IsTable file table × (table.index ≡ 0)) → IfErr result (λ fault. fault ≡ Memory) → Reads result rows
reads rows draft (Ok table) (file, is_file, is) made memory = (file, is_file, (made file is).0, (made file is).1)
reads rows draft (Err fault) drafted made memory = rw memory tt

-- so is a fault of the draft
pub reads-none : (rows : List (List (List ℕ))) (fault : RecordsFault) → Drafts (Err fault) rows → Reads (Err fault) rows
reads-none rows (Record at reason) is = is
reads-none rows Memory is = tt

-- what was read of a text is its draft
pub drafts : (rows : List (List (List ℕ))) (version : Version) (others : ℕ) (first : List (List ℕ)) (behind : List (List (List ℕ))) (draft : Draft) (items : List Item)
    → start_of rows ≡ Some (record { version = version; others = others; rows = first ∷ behind })
    → head_of first ≡ Some draft.head → AreItems version behind items → Gathered items draft.gathering → Drafts (Ok draft) rows
drafts rows version others first behind draft items start is_head are holds = (
  record { key = draft.head.key; offset = draft.head.offset; items = items },
  rw start (is_head, are),
  record { head = refl; items = holds },
)
