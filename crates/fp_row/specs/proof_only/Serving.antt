-- Entries of a dialogue, served one after the other.
use Rattle.std.specs.Prelude.{◌≡◌, ℕ, ◌+◌, List, [], ◌++◌, length, option_to_list}
use Rattle.fp_entry.specs.declared.entry.Entry.{Entry}
use Rattle.fp_q773.specs.Tid.{Tid}
use Rattle.fp_row.specs.declared.serving.Steps.{Steps}
use Rattle.fp_row.specs.Turn.{frames_under}
use Rattle.fp_service.specs.declared.dialogue.Core.{Core}
use Rattle.fp_service.specs.Fold.{core_after, cut, requests}
use Rattle.fp_service.specs.Serve.{request_of}

-- no entry was served
abbrev pub none_served : Steps
none_served = record { served = 0; frames = [] }

-- one more was
abbrev pub one_served : ℕ → Tid → Core → Steps → Entry → Steps
one_served local peer core steps entry = record {
  served = steps.served + 1;
  frames = steps.frames ++ frames_under local peer (option_to_list (request_of core entry));
}

-- the frames of what entries request that are served
abbrev pub frames_along : ℕ → Tid → Core → List Entry → List (List ℕ)
frames_along local peer core entries = frames_under local peer (requests core (cut core entries))

-- what is served of entries is what was, and what is of the rest of them
pub record Goes (local : ℕ) (peer : Tid) (before : Core) (entries : List Entry) (steps : Steps) (after : Core) (rest : List Entry) : Type 0 where
  pub count : length (cut before entries) ≡ steps.served + length (cut after rest)
  pub core : core_after before (cut before entries) ≡ core_after after (cut after rest)
  pub frames : frames_along local peer before entries ≡ steps.frames ++ frames_along local peer after rest

-- all is served of them
pub record AreAll (local : ℕ) (peer : Tid) (before : Core) (entries : List Entry) (steps : Steps) (after : Core) : Type 0 where
  pub count : steps.served ≡ length (cut before entries)
  pub core : after ≡ core_after before (cut before entries)
  pub frames : steps.frames ≡ frames_along local peer before entries
