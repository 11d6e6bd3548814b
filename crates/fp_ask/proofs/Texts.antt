-- The lines of some of the frames, and those of all.
use Rattle.std.proofs.Common.{◌≡◌, ℕ, List, ◌∷◌, ◌++◌, Option, drop, take, sym, ◌∙◌, ap, append_assoc}
use Rattle.std.specs.Io.KnownBytes.{Appends}
use Rattle.std.proofs.KnownBytes.{Appends-trans}
use Rattle.std.proofs.lemmas.List.{take-append-drop}
use Rattle.std.proofs.lemmas.List.Concat.{flat_map-append}
use Rattle.fp_streams.specs.Write.{AppendsFront}
use Rattle.fp_ask.specs.Line.{line_for, text_of}

-- the lines of the first frames are a front of those of all
pub first_front : (old new : Option (List ℕ)) (i : ℕ) (frames : List (List ℕ)) → Appends old new (text_of (take i frames)) → AppendsFront old new (text_of frames)
first_front old new i frames wrote = record {
  front = text_of (take i frames);
  rest = text_of (drop i frames);
  wrote = wrote;
  whole = sym (flat_map-append line_for (take i frames) (drop i frames)) ∙ ap text_of (take-append-drop i frames);
}

-- and so are those and a front of the next frame's
pub more_front : (old mid new : Option (List ℕ)) (i : ℕ) (frames : List (List ℕ)) (frame : List ℕ) (rest : List (List ℕ))
    → Appends old mid (text_of (take i frames)) → drop i frames ≡ frame ∷ rest → AppendsFront mid new (line_for frame) → AppendsFront old new (text_of frames)
more_front old mid new i frames frame rest wrote next f = record {
  front = text_of (take i frames) ++ f.front;
  rest = f.rest ++ text_of rest;
  wrote = Appends-trans old mid new (text_of (take i frames)) f.front wrote f.wrote;
  whole =
      append_assoc (text_of (take i frames)) f.front (f.rest ++ text_of rest)
      ∙ ap (λ l. text_of (take i frames) ++ l) (sym (append_assoc f.front f.rest (text_of rest)) ∙ (λ k. f.whole k ++ text_of rest) ∙ sym (ap text_of next))
      ∙ sym (flat_map-append line_for (take i frames) (drop i frames)) ∙ ap text_of (take-append-drop i frames);
}
