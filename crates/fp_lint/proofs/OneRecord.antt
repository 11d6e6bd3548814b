-- What is said of a record that is alone after a head.
use Rattle.std.proofs.Common.{◌≡◌, ◌<◌, ◌⊎◌, ℕ, zero, List, [], ◌∷◌, ◌++◌, false, Option, Some, None, Result, Ok, Err, append-nil, codes, length, map, refl, sym, ap, ◌∙◌, arith, inl, inr}
use Rattle.std.specs.Prelude.{IfOk, is_none, is_some}
use Rattle.csv.specs.Machine.{next_record}
use Rattle.csv.specs.Reading.{strip_bom}
use Rattle.csv.specs.Writing.{default_writer, escaped, fields_text, is_blank, read_back, row_text}
use Rattle.csv.specs.declared.parser.State.TheVariants as st
use Rattle.csv.proofs.RoundTrip.{read-write}
use Rattle.fp_records.specs.Closed.{closed_in}
use Rattle.fp_records.specs.Fields.{numbered_in}
use Rattle.fp_records.specs.File.{FaultUnder, FirstRefused, Refuses, SplitsAt, records_of}
use Rattle.fp_records.specs.Head.{head_of}
use Rattle.fp_records.specs.Items.{item_in}
use Rattle.fp_records.specs.Steps.{and_then}
use Rattle.fp_records.specs.Table.{Contents, Reads}
use Rattle.fp_records.specs.Unread.{rows_from}
use Rattle.fp_records.specs.Version.{version_line}
use Rattle.fp_records.specs.declared.closed.ClosedDay.{ClosedDay}
use Rattle.fp_records.specs.declared.head.Head.{Head}
use Rattle.fp_records.specs.declared.fault.Reason.{Reason}
use Rattle.fp_records.specs.declared.fault.RecordsFault.{RecordsFault}
use Rattle.fp_records.specs.declared.fault.RecordsFault.TheVariants.{Record, Memory}
use Rattle.fp_records.specs.declared.fields.NumberedRule.{NumberedRule}
use Rattle.fp_records.specs.declared.item.Item.{Item}
use Rattle.fp_records.specs.declared.item.Item.TheVariants as item
use Rattle.fp_records.specs.declared.version.Version.{Version}
use Rattle.fp_records.specs.declared.version.Version.TheVariants.{One, Two}
use Rattle.fp_records.proofs.WholeText.{rows_from-end, rows_from-next}
use Rattle.fp_lint.specs.Alone.{fault_in, reason_in}

-- what is written is read back, record by record
written-next : (row : List (List ℕ)) (tail : List ℕ) → rows_from st.StartRecord (row_text default_writer row ++ tail) ≡ read_back row ∷ rows_from st.StartRecord tail
written-next row tail =
    rows_from-next st.StartRecord (row_text default_writer row ++ tail) (read_back row, st.StartRecord, tail) refl (read-write row tail)

written-last : (row : List (List ℕ)) → rows_from st.StartRecord (row_text default_writer row) ≡ read_back row ∷ []
written-last row =
    ap (rows_from st.StartRecord) (sym (append-nil (row_text default_writer row)))
    ∙ (written-next row [] ∙ ap (λ rows. read_back row ∷ rows) (rows_from-end st.StartRecord [] (unfold next_record in refl)))

-- a head of version 1
abbrev pub head_one : List (List ℕ)
head_one = codes "key" ∷ codes "1" ∷ codes "0" ∷ []

-- the text of a head is that of its record, and has no byte order mark before it
unmarked-one : (more : List ℕ) → records_of (codes "key,1,0\n" ++ more) ≡ rows_from st.StartRecord (row_text default_writer head_one ++ more)
unfolding strip_bom is_blank fields_text escaped
unmarked-one more = refl

unmarked-two : (more : List ℕ) → records_of (codes "fprecords,2\n" ++ more) ≡ rows_from st.StartRecord (row_text default_writer version_line ++ more)
unfolding strip_bom is_blank fields_text escaped
unmarked-two more = refl

unmarked-both : (more : List ℕ) → records_of (codes "fprecords,2\nkey,1,0\n" ++ more)
    ≡ rows_from st.StartRecord (row_text default_writer version_line ++ (row_text default_writer head_one ++ more))
unfolding strip_bom is_blank fields_text escaped
unmarked-both more = refl

-- the records of the texts of a head and one more, of a line of version 2 and a head, and of all three
after-head : (row : List (List ℕ)) → records_of (codes "key,1,0\n" ++ row_text default_writer row) ≡ head_one ∷ read_back row ∷ []
after-head row =
    unmarked-one (row_text default_writer row) ∙ written-next head_one (row_text default_writer row)
    ∙ ap (λ rows. head_one ∷ rows) (written-last row)

after-version : (row : List (List ℕ)) → records_of (codes "fprecords,2\n" ++ row_text default_writer row) ≡ version_line ∷ read_back row ∷ []
after-version row =
    unmarked-two (row_text default_writer row) ∙ written-next version_line (row_text default_writer row)
    ∙ ap (λ rows. version_line ∷ rows) (written-last row)

after-both : (row : List (List ℕ)) → records_of (codes "fprecords,2\nkey,1,0\n" ++ row_text default_writer row) ≡ version_line ∷ head_one ∷ read_back row ∷ []
after-both row =
    unmarked-both (row_text default_writer row) ∙ written-next version_line (row_text default_writer head_one ++ row_text default_writer row)
    ∙ ap (λ rows. version_line ∷ rows) (written-next head_one (row_text default_writer row) ∙ ap (λ rows. head_one ∷ rows) (written-last row))

-- one record that is read is an item
one-read : (version : Version) (row : List (List ℕ)) (items : List Item) → map (item_in version) (row ∷ []) ≡ map Ok items → fault_in (item_in version row) ≡ None
one-read version row [] read = cc read
one-read version row (one ∷ items) read =
    let here : item_in version row ≡ Ok one = cc read in
    rw here refl

-- no records are cut at one
none-cut : (before after : List (List (List ℕ))) (fields : List (List ℕ)) → [] ≡ before ++ fields ∷ after → ⊥
none-cut [] after fields split = cc split
none-cut (first ∷ before) after fields split = cc split

-- one record that is refused has this fault
too-few : (zero ≡ 100000) ⊎ (zero ≡ 1000) → ⊥
too-few (inl all) = omega arith
too-few (inr own) = omega arith

refused-first : (read : Result Item Reason) (reason : Reason) → Refuses [] read reason → fault_in read ≡ Some reason
refused-first (Err fault) reason is = ap Some (sym is)
refused-first (Ok (item.Rule numbered)) reason is = absurd (too-few is.1)
refused-first (Ok (item.Closed day)) reason is = absurd (let full : zero ≡ 10000 = is.1 in omega arith)

cut-one : (version : Version) (others : ℕ) (row : List (List ℕ)) (at : ℕ) (reason : Reason) (before : List (List (List ℕ))) (fields : List (List ℕ)) (after : List (List (List ℕ))) (items : List Item)
    → SplitsAt version others (row ∷ []) at reason before fields after items → fault_in (item_in version row) ≡ Some reason
cut-one version others row at reason [] fields after [] cut =
    let same : row ≡ fields = cc cut.split in
    rw same (refused-first (item_in version fields) reason cut.refused)
cut-one version others row at reason [] fields after (one ∷ items) cut = cc cut.are_items.read
cut-one version others row at reason (first ∷ before) fields after items cut =
    let rest : [] ≡ before ++ fields ∷ after = cc cut.split in
    absurd (none-cut before after fields rest)

one-refused : (version : Version) (others : ℕ) (row : List (List ℕ)) (at : ℕ) (reason : Reason) → FirstRefused version others (row ∷ []) at reason → fault_in (item_in version row) ≡ Some reason
one-refused version others row at reason refused = cut-one version others row at reason refused.0 refused.1 refused.2 refused.3 refused.4

-- the fault of a rule
fault-rule : (row : List (List ℕ)) → fault_in (item_in One row) ≡ fault_in (numbered_in row)
fault-rule row = by (numbered_in row)
  where
    by : (read : Result NumberedRule Reason) → fault_in (and_then read (λ numbered. Ok (item.Rule numbered))) ≡ fault_in read
    by (Ok numbered) = refl
    by (Err reason) = refl

pub rule-alone : (answer : Result Contents RecordsFault) (row : List (List ℕ)) → 0 < length row
    → Reads answer (records_of (codes "key,1,0\n" ++ row_text default_writer row)) → IfOk (reason_in answer) (λ fault. fault ≡ fault_in (numbered_in row))
rule-alone answer [] some reads = absurd (omega arith)
rule-alone answer (field ∷ fields) some reads = by answer (rw (after-head (field ∷ fields)) at reads)
  where
    by : (found : Result Contents RecordsFault) → Reads found (head_one ∷ (field ∷ fields) ∷ []) → IfOk (reason_in found) (λ fault. fault ≡ fault_in (numbered_in (field ∷ fields)))
    by (Ok contents) (file, is, table, first) = sym (sym (fault-rule (field ∷ fields)) ∙ one-read One (field ∷ fields) file.items is.1.read)
    by (Err (Record at reason)) fault = sym (sym (fault-rule (field ∷ fields)) ∙ one-refused One 1 (field ∷ fields) at reason fault)
    by (Err Memory) any = tt

-- a record of a closed day
abbrev closed_row : List ℕ → List ℕ → List (List ℕ)
closed_row number date = codes "closed" ∷ number ∷ date ∷ []

-- the fault of a closed day
fault-closed : (number date : List ℕ) → fault_in (item_in Two (closed_row number date)) ≡ fault_in (closed_in (closed_row number date))
fault-closed number date = by (closed_in (closed_row number date))
  where
    by : (read : Result ClosedDay Reason) → fault_in (and_then read (λ day. Ok (item.Closed day))) ≡ fault_in read
    by (Ok day) = refl
    by (Err reason) = refl

pub closed-alone : (answer : Result Contents RecordsFault) (number date : List ℕ)
    → Reads answer (records_of (codes "fprecords,2\nkey,1,0\n" ++ row_text default_writer (closed_row number date)))
    → IfOk (reason_in answer) (λ fault. fault ≡ fault_in (closed_in (closed_row number date)))
closed-alone answer number date reads = by answer (rw (after-both (closed_row number date)) at reads)
  where
    by : (found : Result Contents RecordsFault) → Reads found (version_line ∷ head_one ∷ closed_row number date ∷ [])
        → IfOk (reason_in found) (λ fault. fault ≡ fault_in (closed_in (closed_row number date)))
    by (Ok contents) (file, is, table, first) =
        sym (sym (fault-closed number date) ∙ one-read Two (closed_row number date) file.items is.1.read)
    by (Err (Record at reason)) fault = sym (sym (fault-closed number date) ∙ one-refused Two 2 (closed_row number date) at reason fault)
    by (Err Memory) any = tt

-- a text without a head
no-head : (head : Option Head) (at : ℕ) (reason : Reason) → FaultUnder Two 1 head [] at reason → false ≡ is_some head
no-head None at reason fault = refl
no-head (Some head) at reason fault = absurd (none-cut fault.0 fault.2 fault.1 (cut-is fault.4))
  where
    cut-is : {before : List (List (List ℕ))} {fields : List (List ℕ)} {after : List (List (List ℕ))} {items : List Item}
        → SplitsAt Two 2 [] at reason before fields after items → [] ≡ before ++ fields ∷ after
    cut-is cut = cut.split

pub head-alone : (answer : Result Contents RecordsFault) (name key offset : List ℕ)
    → Reads answer (records_of (codes "fprecords,2\n" ++ row_text default_writer (name ∷ key ∷ offset ∷ [])))
    → IfOk (reason_in answer) (λ fault. is_none fault ≡ is_some (head_of (name ∷ key ∷ offset ∷ [])))
head-alone answer name key offset reads = by answer (rw (after-version (name ∷ key ∷ offset ∷ [])) at reads)
  where
    by : (found : Result Contents RecordsFault) → Reads found (version_line ∷ (name ∷ key ∷ offset ∷ []) ∷ [])
        → IfOk (reason_in found) (λ fault. is_none fault ≡ is_some (head_of (name ∷ key ∷ offset ∷ [])))
    by (Ok contents) (file, is, table, first) = rw is.0 refl
    by (Err (Record at reason)) fault = no-head (head_of (name ∷ key ∷ offset ∷ [])) at reason fault
    by (Err Memory) any = tt
