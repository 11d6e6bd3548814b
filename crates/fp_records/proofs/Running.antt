-- The file of a text record by record, or the first fault on the way: what is a file or has a first fault comes to it,
-- so that a text is at most one of these.
use Rattle.std.proofs.Common.{◌≡◌, ◌⊎◌, inl, inr, ℕ, ◌+◌, ◌≤◌, List, [], ◌∷◌, ◌++◌, Bool, true, false, ◌&&◌, Option, Some, None, Result, Ok, Err, filter, length, map, nat_lt, if◌then◌else◌, refl, sym, ap, ◌∙◌, arith, append_assoc}
use Rattle.std.specs.Prelude.{IsErrAnd, MatchResult, bytes_eq}
use Rattle.std.specs.Cmp.Lexicographic.{nat_list_eq_equiv}
use Rattle.std.proofs.lemmas.Bool.Decides.{nat_tests}
use Rattle.std.proofs.lemmas.List.{append-nil, length-append, map-append}
use Rattle.std.proofs.lemmas.List.Elements.{filter-append, filter_map-append}
use Rattle.fp_records.specs.Steps.{and_then}
use Rattle.fp_records.specs.File.{FaultHeaded, FaultStarted, FaultUnder, File, FirstFault, IsFile, IsHeaded, IsStarted, Refuses, rules_of}
use Rattle.fp_records.specs.Head.{head_of}
use Rattle.fp_records.specs.Items.{all_closed, all_rules, closed_of, item_in, rule_of}
use Rattle.fp_records.specs.Table.{Contents, IsTable, Reads}
use Rattle.fp_records.specs.Version.{Start, start_of}
use Rattle.fp_records.specs.declared.head.Head.{Head}
use Rattle.fp_records.specs.declared.fault.Reason.{Reason}
use Rattle.fp_records.specs.declared.fault.Reason.TheVariants.{BadHead, BadVersion, TooMany}
use Rattle.fp_records.specs.declared.fault.RecordsFault.{RecordsFault}
use Rattle.fp_records.specs.declared.fault.RecordsFault.TheVariants.{Memory, Record}
use Rattle.fp_records.specs.declared.fields.NumberedRule.{NumberedRule}
use Rattle.fp_records.specs.declared.item.Item.{Item}
use Rattle.fp_records.specs.declared.item.Item.TheVariants as item
use Rattle.fp_records.specs.declared.version.Version.{Version}

-- an item after others, unless these are as many as there may be
abbrev within_limits : List Item → Item → Result Item Reason
within_limits before (item.Rule numbered) =
    if nat_lt (length (all_rules before)) 100000 && nat_lt (length (rules_of numbered.number (all_rules before))) 1000 then Ok (item.Rule numbered)
    else Err TooMany
within_limits before (item.Closed day) = if nat_lt (length (all_closed before)) 10000 then Ok (item.Closed day) else Err TooMany

-- a fault of the record at this place ends the reading
abbrev unless_fault : ℕ → Result Item Reason → (Item → Result (List Item) RecordsFault) → Result (List Item) RecordsFault
unless_fault at (Ok one) next = next one
unless_fault at (Err reason) next = Err (Record at reason)

-- the items that records are, with those before them, after this number of records of the text
abbrev items_from : Version → ℕ → List Item → List (List (List ℕ)) → Result (List Item) RecordsFault
items_from version place before [] = Ok before
items_from version place before (fields ∷ rows) =
    unless_fault (place + 1) (and_then (item_in version fields) (within_limits before))
    (λ one. items_from version (place + 1) (before ++ one ∷ []) rows)

abbrev file_under : Version → ℕ → Option Head → List (List (List ℕ)) → Result File RecordsFault
file_under version others None rows = Err (Record (others + 1) BadHead)
file_under version others (Some head) rows =
    and_then (items_from version (others + 1) [] rows) (λ items. Ok (record { key = head.key; offset = head.offset; items = items }))

abbrev file_headed : Version → ℕ → List (List (List ℕ)) → Result File RecordsFault
file_headed version others [] = Err (Record (others + 1) BadHead)
file_headed version others (first ∷ rows) = file_under version others (head_of first) rows

abbrev file_started : Option Start → Result File RecordsFault
file_started None = Err (Record 1 BadVersion)
file_started (Some start) = file_headed start.version start.others start.rows

-- what records say, or the first of their faults
abbrev file_of : List (List (List ℕ)) → Result File RecordsFault
file_of rows = file_started (start_of rows)

rules_of-append : (digits : List ℕ) (xs ys : List NumberedRule) → rules_of digits (xs ++ ys) ≡ rules_of digits xs ++ rules_of digits ys
rules_of-append digits xs ys =
    ap (map (λ n. n.rule)) (filter-append (λ n. bytes_eq digits n.number) xs ys) ∙ map-append (λ n. n.rule) (filter (λ n. bytes_eq digits n.number) xs) (filter (λ n. bytes_eq digits n.number) ys)

-- items within the limits
record Within (items : List Item) : Type 0 where
  all : length (all_rules items) ≤ 100000
  each : (digits : List ℕ) → length (rules_of digits (all_rules items)) ≤ 1000
  closed : length (all_closed items) ≤ 10000

-- an item among others within the limits is within them after those before it
within-fits : (before : List Item) (one : Item) (more : List Item) → Within (before ++ one ∷ more) → within_limits before one ≡ Ok one
within-fits before (item.Rule numbered) more holds =
    let split = filter_map-append rule_of before (item.Rule numbered ∷ more) in
    let whole = rw (split, length-append (all_rules before) (numbered ∷ all_rules more)) at holds.all in
    let own = rw (split, rules_of-append numbered.number (all_rules before) (numbered ∷ all_rules more), nat_list_eq_equiv.refl numbered.number, length-append (rules_of numbered.number (all_rules before)) (numbered.rule ∷ rules_of numbered.number (all_rules more))) at (holds.each numbered.number) in
    let all : nat_lt (length (all_rules before)) 100000 ≡ true = grind (arith, nat_tests, whole) in
    let few : nat_lt (length (rules_of numbered.number (all_rules before))) 1000 ≡ true = grind (arith, nat_tests, own) in
    rw (all, few) refl
within-fits before (item.Closed day) more holds =
    let whole = rw (filter_map-append closed_of before (item.Closed day ∷ more), length-append (all_closed before) (day ∷ all_closed more)) at holds.closed in
    let few : nat_lt (length (all_closed before)) 10000 ≡ true = grind (arith, nat_tests, whole) in
    rw few refl

-- records that are items within the limits are read as these
read-items : (version : Version) (place : ℕ) (before : List Item) (rows : List (List (List ℕ))) (new : List Item) → map (item_in version) rows ≡ map Ok new → Within (before ++ new)
    → items_from version place before rows ≡ Ok (before ++ new)
read-items version place before [] [] read holds = ap Ok (sym (append-nil before))
read-items version place before [] (one ∷ new) read holds = cc read
read-items version place before (fields ∷ rows) [] read holds = cc read
read-items version place before (fields ∷ rows) (one ∷ new) read holds =
    let here : item_in version fields ≡ Ok one = cc read in
    let rest : map (item_in version) rows ≡ map Ok new = cc read in
    let more = read-items version (place + 1) (before ++ one ∷ []) rows new rest (rw (append_assoc before (one ∷ []) new) holds) in
    rw (here, within-fits before one new holds) (rw (append_assoc before (one ∷ []) new) at more)

-- a record that is refused after items ends the reading
refused-ends : (before : List Item) (read : Result Item Reason) (reason : Reason) → Refuses before read reason → and_then read (within_limits before) ≡ Err reason
refused-ends before (Err fault) reason same = ap Err (sym same)
refused-ends before (Ok (item.Closed day)) reason refused = rw refused.1 (ap Err (sym refused.0))
refused-ends before (Ok (item.Rule numbered)) reason refused = full refused.1 ∙ ap Err (sym refused.0)
  where
    full : (length (all_rules before) ≡ 100000) ⊎ (length (rules_of numbered.number (all_rules before)) ≡ 1000) → within_limits before (item.Rule numbered) ≡ Err TooMany
    full (inl all) = rw all refl
    full (inr own) = rw own (either (nat_lt (length (all_rules before)) 100000))
      where
        either : (room : Bool) → (if room && false then Ok (item.Rule numbered) else Err TooMany) ≡ Err TooMany
        either true = refl
        either false = refl

-- records up to one that is refused are read up to it
read-refused : (version : Version) (place : ℕ) (before : List Item) (front : List (List (List ℕ))) (new : List Item) (fields : List (List ℕ)) (after : List (List (List ℕ))) (reason : Reason)
    → map (item_in version) front ≡ map Ok new → Within (before ++ new) → Refuses (before ++ new) (item_in version fields) reason
    → items_from version place before (front ++ fields ∷ after) ≡ Err (Record (place + length front + 1) reason)
read-refused version place before [] [] fields after reason read holds refused =
    rw (refused-ends before (item_in version fields) reason (rw (append-nil before) at refused)) (ap (λ at. Err (Record at reason)) (omega arith))
read-refused version place before [] (one ∷ new) fields after reason read holds refused = cc read
read-refused version place before (row ∷ front) [] fields after reason read holds refused = cc read
read-refused version place before (row ∷ front) (one ∷ new) fields after reason read holds refused =
    let here : item_in version row ≡ Ok one = cc read in
    let rest : map (item_in version) front ≡ map Ok new = cc read in
    let joined = append_assoc before (one ∷ []) new in
    let more = read-refused version (place + 1) (before ++ one ∷ []) front new fields after reason rest (rw joined holds) (rw joined refused) in
    rw (here, within-fits before one new holds) (more ∙ ap (λ at. Err (Record at reason)) (omega arith))

-- a file is read as it is
read-headed : (version : Version) (others : ℕ) (rows : List (List (List ℕ))) (file : File) → IsHeaded version rows file → file_headed version others rows ≡ Ok file
read-headed version others [] file is = absurd is
read-headed version others (first ∷ rows) file is =
    rw (is.0, read-items version (others + 1) [] rows file.items is.1.read (record { all = is.1.all; each = is.1.each; closed = is.1.closed })) refl

read-file : (rows : List (List (List ℕ))) (file : File) → IsFile rows file → file_of rows ≡ Ok file
read-file rows file is = by (start_of rows) is
  where
    by : (start : Option Start) → IsStarted start file → file_started start ≡ Ok file
    by None is = absurd is
    by (Some start) is = read-headed start.version start.others start.rows file is

-- the first fault of a text ends the reading
read-fault-headed : (version : Version) (others : ℕ) (rows : List (List (List ℕ))) (at : ℕ) (reason : Reason) → FaultHeaded version others rows at reason → file_headed version others rows ≡ Err (Record at reason)
read-fault-headed version others [] at reason is = rw (is.0, is.1) refl
read-fault-headed version others (first ∷ rows) at reason is = by (head_of first) is
  where
    by : (head : Option Head) → FaultUnder version others head rows at reason → file_under version others head rows ≡ Err (Record at reason)
    by None fault = rw (fault.0, fault.1) refl
    by (Some head) fault =
        let cut = fault.4 in
        let ends = read-refused version (others + 1) [] fault.0 fault.3 fault.1 fault.2 reason cut.are_items.read (record { all = cut.are_items.all; each = cut.are_items.each; closed = cut.are_items.closed }) cut.refused in
        rw (cut.split, ends, cut.place) refl

read-fault : (rows : List (List (List ℕ))) (at : ℕ) (reason : Reason) → FirstFault rows at reason → file_of rows ≡ Err (Record at reason)
read-fault rows at reason is = by (start_of rows) is
  where
    by : (start : Option Start) → FaultStarted start at reason → file_started start ≡ Err (Record at reason)
    by None fault = rw (fault.0, fault.1) refl
    by (Some start) fault = read-fault-headed start.version start.others start.rows at reason fault

-- an answer to a file is its table
pub reads-file : (result : Result Contents RecordsFault) (rows : List (List (List ℕ))) (file : File) → Reads result rows → IsFile rows file
    → MatchResult result (λ contents. IsTable file contents) (λ fault. fault ≡ Memory)
reads-file (Ok contents) rows file (other, is_other, table, first) is =
    let same : other ≡ file = cc (read-file rows other is_other, read-file rows file is) in
    rw same at table
reads-file (Err (Record at reason)) rows file fault is = cc (read-fault rows at reason fault, read-file rows file is)
reads-file (Err Memory) rows file fault is = refl

-- an answer to a text with a first fault is this fault
pub reads-fault : (result : Result Contents RecordsFault) (rows : List (List (List ℕ))) (at : ℕ) (reason : Reason) → Reads result rows → FirstFault rows at reason
    → IsErrAnd result (λ fault. (fault ≡ Record at reason) ⊎ (fault ≡ Memory))
reads-fault (Ok contents) rows at reason (file, is_file, table, first) is = cc (read-fault rows at reason is, read-file rows file is_file)
reads-fault (Err (Record other why)) rows at reason fault is =
    let same : Record other why ≡ Record at reason = cc (read-fault rows other why fault, read-fault rows at reason is) in
    inl same
reads-fault (Err Memory) rows at reason fault is = inr refl
