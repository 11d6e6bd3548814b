-- The records of a file as the text of a file of version 2.
use Rattle.std.specs.Prelude.{◌≡◌, ℕ, List, [], ◌∷◌, false, true, Option, Some, None, Ok}
use Rattle.std.specs.List.{flat_map}
use Rattle.std.specs.declared.vec.Vec.{Vec}
use Rattle.csv.specs.Writing.{default_writer, fields_written, has_written, row_text, text_written, with_flexible, writer_setup}
use Rattle.csv.specs.declared.writer.Writer.{Writer}
use Rattle.fp_records.specs.File.{File, IsFile, records_of}
use Rattle.fp_records.specs.Table.{Contents, Reads, record_at}
use Rattle.fp_records.specs.Version.{Start, start_of, version_line}

-- the text of records, each as `csv` writes it by its defaults, ended by a line feed
abbrev pub text_of : List (List (List ℕ)) → List ℕ
text_of rows = flat_map (row_text default_writer) rows

abbrev pub migrated_from : Option Start → List ℕ
migrated_from None = []
migrated_from (Some start) = text_of (version_line ∷ start.rows)

-- the line of version 2, and the records of a text from its head on
abbrev pub migrated : List (List (List ℕ)) → List ℕ
migrated rows = migrated_from (start_of rows)

-- the records of a text are a file, and those of the text that they migrate to are the same file
abbrev pub KeepsFile : List (List (List ℕ)) → Type 0
KeepsFile rows = (file : File) × IsFile rows file × IsFile (records_of (migrated rows)) file

-- two tables have the same key, the same number of rules and of closed days, and the same record of each number
pub record SayTheSame (a b : Contents) : Type 0 where
  pub key : a.key ≡ b.key
  pub rule_count : a.rule_count ≡ b.rule_count
  pub closed_count : a.closed_count ≡ b.closed_count
  pub records : (digits : List ℕ) → record_at a digits ≡ record_at b digits

-- the text that records migrate to comes out as it is
abbrev pub ComesOutAsItIs : List (List (List ℕ)) → Type 0
ComesOutAsItIs rows = migrated (records_of (migrated rows)) ≡ migrated rows

-- the table that a text reads as and the one of the text that it migrates to say the same
abbrev pub KeepsTable : List (List (List ℕ)) → Type 0
KeepsTable rows = (old new : Contents) → Reads (Ok old) rows → Reads (Ok new) (records_of (migrated rows)) → SayTheSame old new

-- a writer of records of any lengths has written this text, and no part of a record after it
pub record HasWritten {A : Type 0} (writer : Writer (Vec ℕ A)) (text : List ℕ) : Type 0 where
  pub setup : writer_setup writer ≡ with_flexible default_writer true
  pub fields : fields_written writer ≡ 0
  pub clean : has_written writer ≡ false
  pub written : text_written (λ vec. Some vec.items) writer ≡ Some text
