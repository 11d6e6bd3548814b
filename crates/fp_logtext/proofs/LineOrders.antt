-- Log lines keep their order, and so does their text.
use Rattle.std.proofs.Common.{◌≡◌, ℕ, Option, None, Some, List, [], ◌∷◌, ◌++◌, refl, sym, ◌∙◌, ap, append_assoc, append-nil, drop, take}
use Rattle.std.specs.Io.KnownBytes.{Appends}
use Rattle.std.proofs.KnownBytes.{Appends-trans}
use Rattle.std.proofs.lemmas.List.{take-append-drop}
use Rattle.fp_book.specs.declared.line.Line.{Line}
use Rattle.fp_replay.specs.Format.{text_of}
use Rattle.fp_logtext.specs.Logged.{KeepsLines, KeepsText, LogPart, Logged, Written, lines_text}

-- the text of two lists of lines
pub lines_text-append : (a b : List Line) → lines_text (a ++ b) ≡ lines_text a ++ lines_text b
lines_text-append [] b = refl
lines_text-append (line ∷ a) b =
    ap (λ (later : List ℕ). (text_of line ++ 10 ∷ []) ++ later) (lines_text-append a b)
    ∙ sym (append_assoc (text_of line ++ 10 ∷ []) (lines_text a) (lines_text b))

-- lines came
drains : (came more : List Line) (handed : List ℕ) (part : LogPart) (waiting moved : List Line) → Logged came handed part waiting moved
    → Logged (came ++ more) handed part waiting (moved ++ more)
drains came more handed part waiting moved l = record {
  in_order = lines_text-append came more ∙ ap (λ (all : List ℕ). all ++ lines_text more) l.in_order
      ∙ simp (lines_text-append, append_assoc);
}

takes_in : (came : List Line) (handed : List ℕ) (part : LogPart) (waiting moved : List Line) → Logged came handed part waiting moved
    → Logged came handed part (waiting ++ moved) []
takes_in came handed part waiting moved l = record { in_order = rw (append-nil (waiting ++ moved)) l.in_order }

refills : (came : List Line) (handed : List ℕ) (part : LogPart) (waiting moved : List Line) → part.lines ≡ []
    → Logged came handed part waiting moved → Logged came handed (record part { lines = waiting }) [] moved
refills came handed part waiting moved none l = record {
  in_order = l.in_order ∙ ap (λ (lines : List Line). handed ++ (part.text ++ lines_text (lines ++ (waiting ++ moved)))) none;
}

exchanges : (came more : List Line) (handed : List ℕ) (part : LogPart) → part.lines ≡ [] → Logged came handed part [] []
    → Logged (came ++ more) handed (record part { lines = more }) [] []
exchanges came more handed part none l =
    let all = l.in_order ∙ ap (λ (lines : List Line). handed ++ (part.text ++ lines_text (lines ++ []))) none
    ∙ ap (λ (text : List ℕ). handed ++ text) (append-nil part.text) in
    record {
      in_order = lines_text-append came more ∙ ap (λ (text : List ℕ). text ++ lines_text more) all ∙ append_assoc handed part.text (lines_text more)
          ∙ ap (λ (lines : List Line). handed ++ (part.text ++ lines_text lines)) (sym (append-nil more));
    }

-- the text that was made and that of the lines, apart from the others
pub apart : (text : List ℕ) (lines later : List Line) → text ++ lines_text (lines ++ later) ≡ (text ++ lines_text lines) ++ lines_text later
apart text lines later =
    ap (λ (rest : List ℕ). text ++ rest) (lines_text-append lines later) ∙ sym (append_assoc text (lines_text lines) (lines_text later))

makes : (came : List Line) (handed : List ℕ) (old new : LogPart) (waiting moved : List Line)
    → new.text ++ lines_text new.lines ≡ old.text ++ lines_text old.lines → Logged came handed old waiting moved
    → Logged came handed new waiting moved
makes came handed old new waiting moved made l = record {
  in_order = l.in_order ∙ ap (λ (rest : List ℕ). handed ++ rest)
      (apart old.text old.lines (waiting ++ moved) ∙ ap (λ (all : List ℕ). all ++ lines_text (waiting ++ moved)) (sym made)
      ∙ sym (apart new.text new.lines (waiting ++ moved)));
}

hands : (came : List Line) (handed : List ℕ) (part : LogPart) (waiting moved : List Line) → Logged came handed part waiting moved
    → Logged came (handed ++ part.text) (record part { text = [] }) waiting moved
hands came handed part waiting moved l = record {
  in_order = l.in_order ∙ sym (append_assoc handed part.text (lines_text (part.lines ++ (waiting ++ moved))));
}

pub keeps_lines : KeepsLines
keeps_lines = record {
  begins = record { in_order = refl };
  drains = drains;
  takes_in = takes_in;
  refills = refills;
  exchanges = exchanges;
  makes = makes;
  hands = hands;
}

begins : (before : Option (List ℕ)) → Written before before [] []
begins None = record { has = []; appends = tt; in_order = refl }
begins (Some contents) = record { has = []; appends = sym (append-nil contents); in_order = refl }

writes : (before now later : Option (List ℕ)) (handed unwritten : List ℕ) (count : ℕ) → Appends now later (take count unwritten)
    → Written before now handed unwritten → Written before later handed (drop count unwritten)
writes before now later handed unwritten count more w = record {
  has = w.has ++ take count unwritten;
  appends = Appends-trans before now later w.has (take count unwritten) w.appends more;
  in_order = w.in_order ∙ ap (λ (text : List ℕ). w.has ++ text) (sym (take-append-drop count unwritten))
      ∙ sym (append_assoc w.has (take count unwritten) (drop count unwritten));
}

pub keeps_text : KeepsText
keeps_text = record {
  begins = begins;
  adds = λ before now handed unwritten more w. record {
    has = w.has;
    appends = w.appends;
    in_order = ap (λ (text : List ℕ). text ++ more) w.in_order ∙ append_assoc w.has unwritten more;
  };
  writes = writes;
}
