-- The pieces that were read so far, and the lines that were taken of them.
use Rattle.std.proofs.Common.{◌≡◌, ◌≢◌, ℕ, ◌+◌, ◌<◌, ◌≤◌, Bool, false, List, [], ◌∷◌, ◌++◌, length, Option, Result, Ok, Err, refl, sym, ◌∙◌, ap, subst, arith, append-nil, length-append, inl, inr}
use Rattle.std.specs.List.{All}
use Rattle.std.specs.Io.KnownBytes.{Consumes, IsAtEnd}
use Rattle.std.proofs.KnownBytes.{Consumes-nil, Consumes-trans}
use Rattle.std.proofs.lemmas.List.Concat.{flat_map-append}
use Rattle.std.proofs.lemmas.List.Elements.{All-append, All-cons, All-nil}
use Rattle.std.specs.Prelude.{MatchResult}
use Rattle.std.proofs.lemmas.Bool.{false≢true}
use Rattle.fp_streams.specs.Ends.{ReadsEnd, ReadsStop}
use Rattle.fp_streams.specs.Feeding.{Ends, Feeds, FeedStops, RefusesLast, fault_at}
use Rattle.fp_streams.specs.Following.{Begins, Follows, IsLine, Reaches, Stops, TakesAll, TakesLast, after_line, cause_of}
use Rattle.fp_streams.specs.Grows.{Grows}
use Rattle.fp_streams.specs.Reads.{IsPiece, joined}
use Rattle.fp_streams.specs.declared.fault.LinesFault.{LinesFault}
use Rattle.fp_streams.specs.declared.fault.LinesFault.TheVariants as faults
use Rattle.fp_streams.specs.declared.following.Stop.{Stop}
use Rattle.fp_streams.specs.declared.following.Stop.TheVariants.{Memory, Refused, TooLong}
use Rattle.fp_streams.proofs.Taken.{reaches_longer, reaches_more, reaches_none}
use Rattle.fp_streams.proofs.Told.{told_more, told_none}

-- a result that is a fault, and one that isn't
abbrev failed : {A E : Type 0} → E → Result A E
failed fault = Err fault

abbrev finished : {A E : Type 0} → A → Result A E
finished value = Ok value

-- this many reads gave octets, whose lines were taken, and this was begun after them
pub record Reading {S : Type 0} (takes : S → Bool → List ℕ → S → Type 0) (most made : ℕ) (had left : Option (List ℕ)) (before after : Option (List (List ℕ))) (old new : S) (taken : ℕ) (begun : List ℕ) : Type 0 where
  pub pieces : List (List ℕ)
  pub count : length pieces ≡ made
  pub sizes : All (IsPiece 4096) pieces
  pub read : Grows before after pieces
  pub consumed : Consumes had left (joined pieces)
  pub lines : List (List ℕ)
  pub taken_is : taken ≡ length lines
  pub reaches : Reaches takes most old new (joined pieces) lines begun
  pub begun_is : IsLine most begun

-- nothing was read yet
pub reading_none : {S : Type 0} (takes : S → Bool → List ℕ → S → Type 0) (most : ℕ) (had : Option (List ℕ)) (before : Option (List (List ℕ))) (old : S)
    → Reading takes most 0 had had before before old old 0 []
reading_none takes most had before old = record {
  pieces = [];
  count = refl;
  sizes = All-nil (IsPiece 4096);
  read = told_none before;
  consumed = Consumes-nil had;
  lines = [];
  taken_is = refl;
  reaches = reaches_none takes most old [];
  begun_is = record { one_line = All-nil (λ o. o ≢ 10); short = omega arith };
}

-- one piece after the others
joined_more : (pieces : List (List ℕ)) (piece : List ℕ) → joined (pieces ++ piece ∷ []) ≡ joined pieces ++ piece
joined_more pieces piece =
    flat_map-append (λ (p : List ℕ). p) pieces (piece ∷ []) ∙ ap (λ l. joined pieces ++ l) (append-nil piece)

-- one more piece was read, whose lines aren't all taken yet
pub record Read {S : Type 0} (takes : S → Bool → List ℕ → S → Type 0) (most made : ℕ) (had left : Option (List ℕ)) (before after : Option (List (List ℕ))) (old new : S) (taken : ℕ) (octets : List ℕ) : Type 0 where
  pub pieces : List (List ℕ)
  pub count : length pieces ≡ made
  pub sizes : All (IsPiece 4096) pieces
  pub read : Grows before after pieces
  pub consumed : Consumes had left (joined pieces)
  pub lines : List (List ℕ)
  pub taken_is : taken ≡ length lines
  pub reaches : Reaches takes most old new (joined pieces) lines octets

pub read_more : {S : Type 0} (takes : S → Bool → List ℕ → S → Type 0) (most made : ℕ) (had left next : Option (List ℕ)) (before after later : Option (List (List ℕ))) (old new : S) (taken : ℕ) (begun piece : List ℕ)
    → Reading takes most made had left before after old new taken begun → Consumes left next piece → Grows after later (piece ∷ []) → IsPiece 4096 piece
    → Read takes most (made + 1) had next before later old new taken (begun ++ piece)
read_more takes most made had left next before after later old new taken begun piece r consumed read size =
    let more = joined_more r.pieces piece in
    let count = r.count in
    let long = length-append r.pieces (piece ∷ []) in
    record {
      pieces = r.pieces ++ piece ∷ [];
      count = omega (arith, count, long);
      sizes = All-append (IsPiece 4096) r.pieces (piece ∷ []) r.sizes (All-cons (IsPiece 4096) piece [] size (All-nil (IsPiece 4096)));
      read = told_more before after later r.pieces (piece ∷ []) r.read read;
      consumed = subst (Consumes had next) (sym more) (Consumes-trans had left next (joined r.pieces) piece r.consumed consumed);
      lines = r.lines;
      taken_is = r.taken_is;
      reaches = subst (λ o. Reaches takes most old new o r.lines (begun ++ piece)) (sym more)
          (reaches_longer takes most old new (joined r.pieces) begun piece r.lines r.reaches);
    }

-- its lines were taken
pub reading_fed : {S : Type 0} (takes : S → Bool → List ℕ → S → Type 0) (most made : ℕ) (had left : Option (List ℕ)) (before after : Option (List (List ℕ))) (old new later : S) (taken now : ℕ) (octets begun : List ℕ)
    → Read takes most made had left before after old new taken octets → Feeds takes most new later octets taken now begun
    → Reading takes most made had left before after old later now begun
reading_fed takes most made had left before after old new later taken now octets begun r f =
    let n = r.taken_is in
    let m = f.taken_is in
    let size = length-append r.lines f.lines in
    record {
      pieces = r.pieces;
      count = r.count;
      sizes = r.sizes;
      read = r.read;
      consumed = r.consumed;
      lines = r.lines ++ f.lines;
      taken_is = omega (arith, n, m, size);
      reaches = reaches_more takes most old new later (joined r.pieces) octets begun r.lines f.lines r.reaches f.reaches;
      begun_is = f.begun_is;
    }

-- a line of it was not taken: which lines were
stops_more : {S F : Type 0} (takes : S → Bool → List ℕ → S → Type 0) (refuses : S → Bool → List ℕ → F → S → Type 0) (most : ℕ) (left : Option (List ℕ)) (old new later : S) (all octets : List ℕ) (first second : List (List ℕ)) (stop : Stop F) (number : ℕ)
    → Reaches takes most old new all first octets → number ≡ length (first ++ second) + 1 → Ends takes refuses most new later octets second stop
    → Stops takes refuses most left old later all (fault_at number stop)
stops_more takes refuses most left old new later all octets first second TooLong number r is long = (
  first ++ second,
  is,
  record {
    begun = long.begun;
    rest = long.rest;
    reaches = reaches_more takes most old new later all octets (long.begun ++ long.rest) first second r long.reaches;
    one_line = long.one_line;
    long = long.long;
  },
)
stops_more takes refuses most left old new later all octets first second (Refused fault) number r is (d, fed) = (
  first ++ second,
  is,
  (
    record {
      line = d.line;
      has_line_feed = d.has_line_feed;
      rest = d.rest;
      before_line = d.before_line;
      reaches = reaches_more takes most old new d.before_line all octets (d.line ++ after_line d.has_line_feed d.rest) first second r d.reaches;
      line_is = d.line_is;
      something = d.something;
      refused = d.refused;
    },
    λ none. absurd (false≢true (sym none ∙ fed)),
  ),
)
stops_more takes refuses most left old new later all octets first second Memory number r is (rest, reaches) = record {
  lines = first ++ second;
  rest = rest;
  reaches = reaches_more takes most old new later all octets rest first second r reaches;
}

-- the reads then
reads_then : {F : Type 0} (reads made : ℕ) (left : Option (List ℕ)) (number : ℕ) (stop : Stop F) → made ≤ reads → ReadsStop reads made left [] (cause_of (fault_at number stop))
reads_then reads made left number TooLong within = (refl, within)
reads_then reads made left number (Refused fault) within = inl (refl, within)
reads_then reads made left number Memory within = (refl, within)

pub stopped : {S F A : Type 0} (takes : S → Bool → List ℕ → S → Type 0) (refuses : S → Bool → List ℕ → F → S → Type 0) (most reads made : ℕ) (had left : Option (List ℕ)) (before after : Option (List (List ℕ))) (old new later : S) (taken now : ℕ) (octets : List ℕ) (stop : Stop F) (fault : LinesFault F)
    → Read takes most made had left before after old new taken octets → FeedStops takes refuses most new later octets taken now stop → made ≤ reads
    → fault ≡ fault_at (now + 1) stop → Follows takes refuses most reads had left before after old later (failed {A = A} fault)
stopped {A = A} takes refuses most reads made had left before after old new later taken now octets stop fault r (lines, taken_is, ends) within is =
    let n = r.taken_is in
    let size = length-append r.lines lines in
    subst (λ f. Follows takes refuses most reads had left before after old later (failed {A = A} f)) (sym is) (record {
      pieces = r.pieces;
      sizes = r.sizes;
      last = [];
      read = subst (Grows before after) (sym (append-nil r.pieces)) r.read;
      consumed = r.consumed;
      stop = subst (λ m. ReadsStop reads m left [] (cause_of (fault_at (now + 1) stop))) (sym r.count) (reads_then reads made left (now + 1) stop within);
      lines = stops_more takes refuses most left old new later (joined r.pieces) octets r.lines lines stop (now + 1) r.reaches (omega (arith, n, taken_is, size)) ends;
    })

-- what is so of the reads, and of the lines, is so of following
follows : {S F A : Type 0} (takes : S → Bool → List ℕ → S → Type 0) (refuses : S → Bool → List ℕ → F → S → Type 0) (most reads made : ℕ) (had left next : Option (List ℕ)) (before after later : Option (List (List ℕ))) (old new final : S) (taken : ℕ) (begun : List ℕ) (last : List (List ℕ)) (result : Result A (LinesFault F))
    → (r : Reading takes most made had left before after old new taken begun) → Consumes left next [] → Grows after later last
    → ReadsEnd cause_of reads made next last result
    → MatchResult result (λ _. TakesAll takes most old final (joined r.pieces)) (Stops takes refuses most next old final (joined r.pieces))
    → Follows takes refuses most reads had next before later old final result
follows takes refuses most reads made had left next before after later old new final taken begun last result r consumed read stop lines = record {
  pieces = r.pieces;
  sizes = r.sizes;
  last = last;
  read = told_more before after later r.pieces last r.read read;
  consumed = subst (Consumes had next) (append-nil (joined r.pieces)) (Consumes-trans had left next (joined r.pieces) [] r.consumed consumed);
  stop = subst (λ m. ReadsEnd cause_of reads m next last result) (sym r.count) stop;
  lines = lines;
}

begins : {S : Type 0} (takes : S → Bool → List ℕ → S → Type 0) (most made : ℕ) (had left : Option (List ℕ)) (before after : Option (List (List ℕ))) (old new : S) (taken : ℕ) (begun : List ℕ)
    → (r : Reading takes most made had left before after old new taken begun) → Begins takes most old new (joined r.pieces)
begins takes most made had left before after old new taken begun r =
    record { lines = r.lines; begun = begun; reaches = r.reaches; begun_is = r.begun_is }

-- there was no memory before the first read
pub no_room : {S F A : Type 0} (takes : S → Bool → List ℕ → S → Type 0) (refuses : S → Bool → List ℕ → F → S → Type 0) (most reads : ℕ) (had : Option (List ℕ)) (before : Option (List (List ℕ))) (old : S)
    → Follows takes refuses most reads had had before before old old (failed {A = A} faults.Memory)
no_room takes refuses most reads had before old = record {
  pieces = [];
  sizes = All-nil (IsPiece 4096);
  last = [];
  read = told_none before;
  consumed = Consumes-nil had;
  stop = (refl, omega arith);
  lines = record { lines = []; rest = []; reaches = reaches_none takes most old [] };
}

-- one more read failed
pub read_failed : {S F A : Type 0} (takes : S → Bool → List ℕ → S → Type 0) (refuses : S → Bool → List ℕ → F → S → Type 0) (most reads made : ℕ) (had left next : Option (List ℕ)) (before after later : Option (List (List ℕ))) (old new : S) (taken : ℕ) (begun : List ℕ)
    → Reading takes most made had left before after old new taken begun → Consumes left next [] → Grows after later [] → made < reads
    → Follows takes refuses most reads had next before later old new (failed {A = A} faults.ReadFault)
read_failed {A = A} takes refuses most reads made had left next before after later old new taken begun r consumed read within =
    follows takes refuses most reads made had left next before after later old new new taken begun [] (failed {A = A} faults.ReadFault) r consumed read
    (refl, within) (begins takes most made had left before after old new taken begun r)

-- all reads were made
pub reads_spent : {S F A : Type 0} (takes : S → Bool → List ℕ → S → Type 0) (refuses : S → Bool → List ℕ → F → S → Type 0) (most reads made : ℕ) (had left : Option (List ℕ)) (before after : Option (List (List ℕ))) (old new : S) (taken : ℕ) (begun : List ℕ)
    → Reading takes most made had left before after old new taken begun → made ≡ reads
    → Follows takes refuses most reads had left before after old new (failed {A = A} faults.TurnLimit)
reads_spent {A = A} takes refuses most reads made had left before after old new taken begun r all =
    follows takes refuses most reads made had left left before after after old new new taken begun [] (failed {A = A} faults.TurnLimit) r
    (Consumes-nil left) (told_none after) (refl, all) (begins takes most made had left before after old new taken begun r)

-- the end was read, and the last line taken, if there is one
pub all_taken : {S F A : Type 0} (takes : S → Bool → List ℕ → S → Type 0) (refuses : S → Bool → List ℕ → F → S → Type 0) (most reads made : ℕ) (had left next : Option (List ℕ)) (before after later : Option (List (List ℕ))) (old new final : S) (taken : ℕ) (begun : List ℕ) (done : A)
    → Reading takes most made had left before after old new taken begun → Consumes left next [] → Grows after later ([] ∷ []) → IsAtEnd next → made < reads
    → TakesLast takes new begun final → Follows takes refuses most reads had next before later old final (finished {E = LinesFault F} done)
all_taken {F = F} takes refuses most reads made had left next before after later old new final taken begun done r consumed read end within last =
    follows takes refuses most reads made had left next before after later old new final taken begun ([] ∷ []) (finished {E = LinesFault F} done) r consumed read
    (record { end = end; nothing = refl; within = within })
    (record { lines = r.lines; last = begun; before_last = new; reaches = r.reaches; last_is = r.begun_is; takes_last = last })

-- the end was read, and the last line refused
pub last_refused : {S F A : Type 0} (takes : S → Bool → List ℕ → S → Type 0) (refuses : S → Bool → List ℕ → F → S → Type 0) (most reads made : ℕ) (had left next : Option (List ℕ)) (before after later : Option (List (List ℕ))) (old new final : S) (taken : ℕ) (begun : List ℕ) (fault : F)
    → Reading takes most made had left before after old new taken begun → Consumes left next [] → Grows after later ([] ∷ []) → IsAtEnd next → made < reads
    → RefusesLast refuses new begun fault final → Follows takes refuses most reads had next before later old final (failed {A = A} (faults.Refused (taken + 1) fault))
last_refused {A = A} takes refuses most reads made had left next before after later old new final taken begun fault r consumed read end within (some, refused) =
    let n = r.taken_is in
    follows takes refuses most reads made had left next before after later old new final taken begun ([] ∷ []) (failed {A = A} (faults.Refused (taken + 1) fault)) r consumed read
    (inr (record { end = end; nothing = refl; within = within })) (
      r.lines,
      omega (arith, n),
      (
        record {
          line = begun;
          has_line_feed = false;
          rest = [];
          before_line = new;
          reaches = subst (Reaches takes most old new (joined r.pieces) r.lines) (sym (append-nil begun)) r.reaches;
          line_is = r.begun_is;
          something = let m = length-append begun [] in omega (arith, m, some);
          refused = refused;
        },
        λ _. end,
      ),
    )
