-- Entries served one after the other: where the next one leads, and where it ends.
use Rattle.std.proofs.Common.{◌≡◌, ℕ, ◌+◌, true, false, cond, List, [], ◌∷◌, ◌++◌, length, refl, sym, ◌∙◌, ap, arith, append_assoc, append-nil}
use Rattle.std.proofs.lemmas.List.{map-append}
use Rattle.std.specs.Prelude.{option_to_list}
use Rattle.fp_entry.specs.declared.entry.Entry.{Entry}
use Rattle.fp_q773.specs.Tid.{Tid, octets_of}
use Rattle.fp_reply.specs.Reply.{frame_of}
use Rattle.fp_row.specs.declared.serving.Steps.{Steps}
use Rattle.fp_row.specs.proof_only.Serving.{AreAll, Goes, none_served, one_served}
use Rattle.fp_row.specs.Turn.{frames_under}
use Rattle.fp_service.specs.declared.dialogue.Core.{Core}
use Rattle.fp_service.specs.declared.request.Request.{Request}
use Rattle.fp_service.specs.Dialogue.{is_over}
use Rattle.fp_service.specs.Fold.{core_after, cut, requests}
use Rattle.fp_service.specs.Serve.{next, request_of}

-- nothing is served if the dialogue is over, and else the next entry
cut_over : (core : Core) (entries : List Entry) → is_over core ≡ true → cut core entries ≡ []
cut_over core [] over = refl
cut_over core (entry ∷ entries) over = ap (λ stopped. cond stopped [] (entry ∷ cut (next core entry) entries)) over

cut_live : (core : Core) (entry : Entry) (entries : List Entry) → is_over core ≡ false → cut core (entry ∷ entries) ≡ entry ∷ cut (next core entry) entries
cut_live core entry entries live = ap (λ stopped. cond stopped [] (entry ∷ cut (next core entry) entries)) live

module _ (local : ℕ) (peer : Tid) (before : Core) (entries : List Entry) where
  -- if none was served
  pub begins : Goes local peer before entries none_served before entries
  begins = record { count = omega arith; core = refl; frames = refl }

  -- if one more was
  pub goes_on : (steps : Steps) (after : Core) (entry : Entry) (rest : List Entry) → is_over after ≡ false → Goes local peer before entries steps after (entry ∷ rest)
      → Goes local peer before entries (one_served local peer after steps entry) (next after entry) rest
  goes_on steps after entry rest live goes =
      let more = cut_live after entry rest live in
      let left = cut (next after entry) rest in
      let asked = option_to_list (request_of after entry) in
      record {
        count = let count = goes.count ∙ ap (λ es. steps.served + length es) more in omega arith;
        core = goes.core ∙ ap (core_after after) more;
        frames =
            goes.frames
            ∙ ap (λ es. steps.frames ++ frames_under local peer (requests after es)) more
            ∙ ap (λ fs. steps.frames ++ fs) (map-append (λ (request : Request). frame_of request local (octets_of peer)) asked (requests (next after entry) left))
            ∙ sym (append_assoc steps.frames (frames_under local peer asked) (frames_under local peer (requests (next after entry) left)));
      }

  -- if nothing more is served
  ends : (steps : Steps) (after : Core) (rest : List Entry) → cut after rest ≡ [] → Goes local peer before entries steps after rest → AreAll local peer before entries steps after
  ends steps after rest none goes = record {
    count = let count = goes.count ∙ ap (λ es. steps.served + length es) none in omega arith;
    core = sym (goes.core ∙ ap (core_after after) none);
    frames = sym (goes.frames ∙ ap (λ es. steps.frames ++ frames_under local peer (requests after es)) none ∙ append-nil steps.frames);
  }

  pub ends_over : (steps : Steps) (after : Core) (rest : List Entry) → is_over after ≡ true → Goes local peer before entries steps after rest → AreAll local peer before entries steps after
  ends_over steps after rest over goes = ends steps after rest (cut_over after rest over) goes

  pub ends_all : (steps : Steps) (after : Core) (rest : List Entry) → rest ≡ [] → Goes local peer before entries steps after rest → AreAll local peer before entries steps after
  ends_all steps after rest none goes = ends steps after rest (ap (cut after) none) goes
