-- The text that records migrate to, and that it reads as the same file.
use Rattle.std.proofs.Common.{◌≡◌, ◌≢◌, ℕ, List, [], ◌∷◌, ◌++◌, Bool, true, false, Option, Some, None, Ok, Err, append_assoc, codes, map, refl, sym, ap, ◌∙◌}
use Rattle.std.proofs.lemmas.List.{append-nil}
use Rattle.std.proofs.lemmas.Grind.{flat_map-append}
use Rattle.std.specs.Io.KnownBytes.{Appends}
use Rattle.std.specs.declared.vec.Vec.{Vec}
use Rattle.csv.specs.Machine.{next_record}
use Rattle.csv.specs.Reading.{strip_bom}
use Rattle.csv.specs.Records.{field_at}
use Rattle.csv.specs.Writing.{default_writer, escaped, fields_text, fields_written, has_written, is_blank, read_back, row_text, text_written, with_flexible, writer_pending, writer_setup, writer_under}
use Rattle.csv.specs.declared.writer.QuoteStyle.TheVariants as style
use Rattle.csv.specs.declared.writer.Writer.{Writer}
use Rattle.csv.specs.declared.parser.State.TheVariants as st
use Rattle.csv.proofs.RoundTrip.{read-write}
use Rattle.fp_records.specs.Fields.{numbered_in}
use Rattle.fp_records.specs.File.{File, IsFile, IsHeaded, IsStarted, records_of}
use Rattle.fp_records.specs.Items.{item_in}
use Rattle.fp_records.specs.Migration.{ComesOutAsItIs, HasWritten, KeepsTable, migrated, migrated_from, text_of}
use Rattle.fp_records.specs.Unread.{rows_from}
use Rattle.fp_records.specs.Version.{Start, begins_with, start_of, version_line}
use Rattle.fp_records.specs.declared.fault.Reason.TheVariants.{BadNumber}
use Rattle.fp_records.specs.declared.item.Item.{Item}
use Rattle.fp_records.specs.declared.version.Version.{Version}
use Rattle.fp_records.specs.declared.version.Version.TheVariants.{One, Two}
use Rattle.fp_records.proofs.Entries.{same_digits}
use Rattle.fp_records.proofs.Running.{reads-file}
use Rattle.fp_records.proofs.WholeText.{rows_from-end, rows_from-next}

-- a writer of records of any lengths writes each as the default one does
escaped-flexible : (field : List ℕ) → escaped (with_flexible default_writer true) field ≡ escaped default_writer field
unfolding escaped
escaped-flexible [] = refl
escaped-flexible (octet ∷ rest) = rw (escaped-flexible rest) refl

fields_text-flexible : (fields : List (List ℕ)) → fields_text (with_flexible default_writer true) fields ≡ fields_text default_writer fields
unfolding fields_text
fields_text-flexible [] = refl
fields_text-flexible (field ∷ fields) = rw (escaped-flexible field, fields_text-flexible fields) refl

pub row_text-flexible : (fields : List (List ℕ)) → row_text (with_flexible default_writer true) fields ≡ row_text default_writer fields
unfolding is_blank fields_text
row_text-flexible [] = refl
row_text-flexible (field ∷ []) = rw (escaped-flexible field) refl
row_text-flexible (field ∷ next ∷ fields) = rw (escaped-flexible field, fields_text-flexible (next ∷ fields)) refl

-- what a writer has written once it wrote a record
pub written-more : {A : Type 0} (old new : Writer (Vec ℕ A)) (text : List ℕ) (fields : List (List ℕ)) → HasWritten old text
    → writer_setup new ≡ writer_setup old → fields_written new ≡ 0 → has_written new ≡ false
    → ((fields_written old ≡ 0) → (has_written old ≡ false) → ((writer_setup old).style ≢ style.NonNumeric)
    → Appends (text_written (λ vec. Some vec.items) old) (text_written (λ vec. Some vec.items) new) (row_text (writer_setup old) fields))
    → HasWritten new (text ++ row_text default_writer fields)
written-more old new text fields has setup ended clean bytes =
    let plain : (writer_setup old).style ≢ style.NonNumeric = rw has.setup (λ same. cc same) in
    let added = rw (has.setup, row_text-flexible fields) at (bytes has.fields has.clean plain) in
    let before : old.wtr.inner.items ++ old.wtr.buf ≡ text = cc has.written in
    record {
      setup = setup ∙ has.setup;
      fields = ended;
      clean = clean;
      written = ap Some (added ∙ ap (λ front. front ++ row_text default_writer fields) before);
    }

-- the same of a record whose fields are given one by one
pub written-line : {A : Type 0} (old new : Writer (Vec ℕ A)) (text : List ℕ) (fields line : List (List ℕ)) → fields ≡ line → HasWritten old text
    → writer_setup new ≡ writer_setup old → fields_written new ≡ 0 → has_written new ≡ false
    → ((fields_written old ≡ 0) → (has_written old ≡ false) → ((writer_setup old).style ≢ style.NonNumeric)
    → Appends (text_written (λ vec. Some vec.items) old) (text_written (λ vec. Some vec.items) new) (row_text (writer_setup old) fields))
    → HasWritten new (text ++ row_text default_writer line)
written-line old new text fields line same has setup ended clean bytes = rw (← same) (written-more old new text fields has setup ended clean bytes)

-- what is written is read back, record by record
rows_from-text : (rows : List (List (List ℕ))) → rows_from st.StartRecord (text_of rows) ≡ map read_back rows
rows_from-text [] = rows_from-end st.StartRecord [] (unfold next_record in refl)
rows_from-text (row ∷ rows) =
    rows_from-next st.StartRecord (text_of (row ∷ rows)) (read_back row, st.StartRecord, text_of rows) refl (read-write row (text_of rows))
    ∙ ap (λ more. read_back row ∷ more) (rows_from-text rows)

-- a text that begins with the line of version 2 has no byte order mark
unmarked : (rows : List (List (List ℕ))) → strip_bom (text_of (version_line ∷ rows)) ≡ text_of (version_line ∷ rows)
unfolding strip_bom is_blank fields_text
unmarked rows = refl

-- a record that says something has a field
read_back-items : (version : Version) (rows : List (List (List ℕ))) (items : List Item) → map (item_in version) rows ≡ map Ok items → map read_back rows ≡ rows
unfolding field_at
read_back-items version [] items read = refl
read_back-items version (row ∷ rows) [] read = cc read
read_back-items version (row ∷ rows) (one ∷ items) read =
    let here : item_in version row ≡ Ok one = cc read in
    let rest : map (item_in version) rows ≡ map Ok items = cc read in
    rw (read_back-items version rows items rest) (ap (λ r. r ∷ rows) (some version row here))
  where
    some : (of : Version) (fields : List (List ℕ)) → item_in of fields ≡ Ok one → read_back fields ≡ fields
    some One [] is = cc is
    some Two [] is = cc is
    some of (field ∷ fields) is = refl

read_back-headed : (version : Version) (rows : List (List (List ℕ))) (file : File) → IsHeaded version rows file → map read_back rows ≡ rows
read_back-headed version [] file is = refl
read_back-headed version ([] ∷ rows) file is = cc is.0
read_back-headed version ((field ∷ fields) ∷ rows) file is = ap (λ more. (field ∷ fields) ∷ more) (read_back-items version rows file.items is.1.read)

-- a record that begins with `closed` is no rule
closed-no_rule : (fields : List (List ℕ)) → begins_with (codes "closed") fields ≡ true → numbered_in fields ≡ Err BadNumber
unfolding field_at
closed-no_rule [] is = cc is
closed-no_rule (name ∷ fields) is = rw (same_digits name (codes "closed") is) refl

-- what a record of version 1 says it says in version 2
item_in-two : (version : Version) (fields : List (List ℕ)) (one : Item) → item_in version fields ≡ Ok one → item_in Two fields ≡ Ok one
item_in-two Two fields one is = is
item_in-two One fields one is = by (begins_with (codes "closed") fields) refl
  where
    by : (closed : Bool) → begins_with (codes "closed") fields ≡ closed → item_in Two fields ≡ Ok one
    by true test =
        let none : Err BadNumber ≡ Ok one = rw (closed-no_rule fields test) at is in
        cc none
    by false test = rw test is

items-two : (version : Version) (rows : List (List (List ℕ))) (items : List Item) → map (item_in version) rows ≡ map Ok items → map (item_in Two) rows ≡ map Ok items
items-two version [] [] read = refl
items-two version [] (one ∷ items) read = cc read
items-two version (row ∷ rows) [] read = cc read
items-two version (row ∷ rows) (one ∷ items) read =
    let here : item_in version row ≡ Ok one = cc read in
    let rest : map (item_in version) rows ≡ map Ok items = cc read in
    rw (item_in-two version row one here, items-two version rows items rest) refl

headed-two : (version : Version) (rows : List (List (List ℕ))) (file : File) → IsHeaded version rows file → IsHeaded Two rows file
headed-two version [] file is = is
headed-two version (first ∷ rows) file is =
    (is.0, record { read = items-two version rows file.items is.1.read; all = is.1.all; each = is.1.each; closed = is.1.closed })

-- the records of the text that a file's records migrate to are that of the version, and these
read-again : (start : Start) (file : File) → IsStarted (Some start) file → records_of (text_of (version_line ∷ start.rows)) ≡ version_line ∷ start.rows
read-again start file is =
    rw (unmarked start.rows) (rows_from-text (version_line ∷ start.rows) ∙ ap (λ more. version_line ∷ more) (read_back-headed start.version start.rows file is))

-- they are that file
pub migrated-file : (rows : List (List (List ℕ))) (file : File) → IsFile rows file → IsFile (records_of (migrated rows)) file
migrated-file rows file is = by (start_of rows) is
  where
    by : (start : Option Start) → IsStarted start file → IsFile (records_of (migrated_from start)) file
    by None is = absurd is
    by (Some start) is = rw (read-again start file is) (headed-two start.version start.rows file is)

-- and migrate to that text
pub migrated-again : (rows : List (List (List ℕ))) (file : File) → IsFile rows file → ComesOutAsItIs rows
migrated-again rows file is = by (start_of rows) is
  where
    by : (start : Option Start) → IsStarted start file → migrated (records_of (migrated_from start)) ≡ migrated_from start
    by None is = absurd is
    by (Some start) is = ap migrated (read-again start file is)

-- so its table says the same
pub migrated-table : (rows : List (List (List ℕ))) → KeepsTable rows
migrated-table rows old new (file, is, table, first) reads =
    let other = reads-file (Ok new) (records_of (migrated rows)) file reads (migrated-file rows file is) in
    record {
      key = table.key ∙ sym other.key;
      rule_count = table.rule_count ∙ sym other.rule_count;
      closed_count = table.closed_count ∙ sym other.closed_count;
      records = λ digits. table.each digits ∙ sym (other.each digits);
    }

-- a writer over an empty vector has written nothing
pub written-none : {A : Type 0} (writer : Writer (Vec ℕ A)) (vec : Vec ℕ A) → writer_under writer ≡ vec → vec.items ≡ [] → writer_pending writer ≡ []
    → writer_setup writer ≡ with_flexible default_writer true → fields_written writer ≡ 0 → has_written writer ≡ false → HasWritten writer []
written-none writer vec under none pending setup fields clean = record {
  setup = setup;
  fields = fields;
  clean = clean;
  written = rw (under, none, pending) refl;
}

-- the text of one more record
pub text_of-more : (text : List ℕ) (front : List (List (List ℕ))) (fields : List (List ℕ)) → (text ++ text_of front) ++ row_text default_writer fields ≡ text ++ text_of (front ++ fields ∷ [])
text_of-more text front fields =
    append_assoc text (text_of front) (row_text default_writer fields)
    ∙ ap (λ more. text ++ more) (ap (λ last. text_of front ++ last) (sym (append-nil (row_text default_writer fields))) ∙ sym (flat_map-append (row_text default_writer) front (fields ∷ [])))
