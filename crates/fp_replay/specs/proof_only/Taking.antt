-- What taking a line makes of a replay.
use Rattle.std.specs.Prelude.{◌≡◌, ℕ, Bool, List, Ok, Err}
use Rattle.fp_replay.specs.proof_only.Making.{TakingEnded}
use Rattle.fp_replay.specs.declared.replay_fault.Refusal.{Refusal}
use Rattle.fp_replay.specs.declared.replaying.Replaying.{Replaying}

-- a line was taken: the tables and the names stay
pub record Takes (old : Replaying) (has_line_feed : Bool) (text : List ℕ) (new : Replaying) : Type 0 where
  pub tables : new.tables.now ≡ old.tables.now
  pub contexts : new.contexts.now ≡ old.contexts.now
  pub taking : TakingEnded old.tables.now old.contexts.now old.links has_line_feed text (Ok tt) new.links

abbrev pub takes : Replaying → Bool → List ℕ → Replaying → Type 0
takes old has_line_feed text new = Takes old has_line_feed text new

-- a line was refused
abbrev pub refuses : Replaying → Bool → List ℕ → Refusal → Replaying → Type 0
refuses old has_line_feed text refusal new =
    TakingEnded old.tables.now old.contexts.now old.links has_line_feed text (Err refusal) new.links
