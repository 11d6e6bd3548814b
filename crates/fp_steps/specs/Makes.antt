-- What a step makes of the book of a run.
use Rattle.std.specs.Prelude.{◌≡◌, ◌≢◌, ◌≤◌, ℕ, List, [], Option, Some, None, IsSome, length}
use Rattle.std.specs.FinMap.{get}
use Rattle.fp_book.specs.Limits.{most_places}
use Rattle.fp_book.specs.declared.line.LoggedStep.TheVariants as line
use Rattle.fp_book.specs.declared.parcel.Content.{Content}
use Rattle.fp_book.specs.declared.parcel.Parcel.{Parcel}
use Rattle.fp_book.specs.Calls.{Follows, GivesDone, GoesDown, PicksParcel, PutsTurnBack, Sends, TakesTurn, Ticks, Unsends, posted_totals, turn_of}
use Rattle.fp_book.specs.Outbox.{nothing}
use Rattle.fp_book.specs.Parcel.{local_of, octets_of}
use Rattle.fp_book.specs.Shelf.{Shelf, places_held}
use Rattle.fp_book.specs.Rules.{verdict}
use Rattle.fp_entry.specs.declared.prepared.Prepared.{Prepared}
use Rattle.fp_row.specs.declared.done.Done.{Done}
use Rattle.fp_row.specs.declared.turn.Turn.{Turn}
use Rattle.fp_steps.specs.declared.output.Output.{Output}
use Rattle.fp_steps.specs.declared.output.Output.TheVariants as outputs
use Rattle.fp_steps.specs.declared.step.Step.{Step}
use Rattle.fp_steps.specs.declared.step.Step.TheVariants as steps
use Rattle.fp_steps.specs.History.{IsCame}
use Rattle.fp_steps.specs.Messages.{components_in}
use Rattle.fp_records.specs.Table.{Contents}

-- a message is posted by its verdict, and its components are told, if it is accepted; nothing is done where none comes
abbrev pub PostsTo : Output → Option Prepared → Shelf → Shelf → Type 0
PostsTo (outputs.Posted answer components) (Some came) old new = (components ≡ components_in answer came) × Follows (verdict old came) old came answer new × (new.totals ≡ posted_totals old.totals came answer)
PostsTo outputs.Nothing None old new = new ≡ old
PostsTo _ _ old new = ⊥

abbrev pub TicksTo : ℕ → Output → Shelf → Shelf → Type 0
TicksTo moment (outputs.Ticked added wanting) old new = (wanting ≡ 0) × Ticks old moment added wanting new
TicksTo moment _ old new = ⊥

abbrev pub TakesTo : Output → Shelf → Shelf → Type 0
TakesTo (outputs.Took local position count) old new =
    (turn : Turn) × (turn.local ≡ local) × (turn.position ≡ position) × (length turn.entries ≡ count) × TakesTurn old turn new
TakesTo outputs.NoRoom old new = (old.ready ≢ []) × (most_places ≤ places_held old) × (new ≡ old)
TakesTo outputs.Nothing old new = (old.ready ≡ []) × (new ≡ old)
TakesTo _ old new = ⊥

abbrev pub GivesTo : ℕ → Output → Shelf → Shelf → Type 0
GivesTo local (outputs.Gave given_local position served given) old new =
    (given_local ≡ local)
    × ((done : Done) × (done.turn.local ≡ local) × (done.turn.position ≡ position) × (done.served ≡ served) × GivesDone old done given new)
GivesTo local outputs.Nothing old new = (turn_of (get old.rows local) ≡ None) × (new ≡ old)
GivesTo local _ old new = ⊥

abbrev pub PutsBackTo : ℕ → Output → Shelf → Shelf → Type 0
PutsBackTo local outputs.WentBack old new = (turn : Turn) × (turn.local ≡ local) × PutsTurnBack old turn new
PutsBackTo local outputs.Nothing old new = (turn_of (get old.rows local) ≡ None) × (new ≡ old)
PutsBackTo local _ old new = ⊥

abbrev pub PicksTo : Output → Shelf → Shelf → Type 0
PicksTo (outputs.Picked local frame) old new =
    (picked : Content) × (local_of picked ≡ local) × (octets_of picked ≡ frame) × PicksParcel old picked new
PicksTo outputs.Busy old new = IsSome old.outbox.out × (new ≡ old)
PicksTo outputs.Nothing old new = (old.outbox ≡ nothing) × (new ≡ old)
PicksTo _ old new = ⊥

abbrev pub SendsTo : Output → Shelf → Shelf → Type 0
SendsTo outputs.Sent old new = (content : Content) × Sends old content new
SendsTo outputs.Nothing old new = (old.outbox.out ≡ None) × (new ≡ old)
SendsTo _ old new = ⊥

abbrev pub UnsendsTo : Output → Shelf → Shelf → Type 0
UnsendsTo outputs.Unsent old new = (parcel : Parcel) × Unsends old parcel new
UnsendsTo outputs.Nothing old new = (old.outbox.out ≡ None) × (new ≡ old)
UnsendsTo _ old new = ⊥

abbrev pub GoesDownTo : Output → Shelf → Shelf → Type 0
GoesDownTo outputs.Down old new = GoesDown old.outbox.out old line.Down new
GoesDownTo _ old new = ⊥

-- a step is made
abbrev pub MakesOf : Step → Option Prepared → Output → Shelf → Shelf → Type 0
MakesOf (steps.Post table frame moment) came output old new = PostsTo output came old new
MakesOf (steps.Lost frame moment) came output old new = PostsTo output came old new
MakesOf (steps.Tick moment) came output old new = TicksTo moment output old new
MakesOf steps.Take came output old new = TakesTo output old new
MakesOf (steps.Give local) came output old new = GivesTo local output old new
MakesOf (steps.PutBack local) came output old new = PutsBackTo local output old new
MakesOf steps.Pick came output old new = PicksTo output old new
MakesOf steps.Sent came output old new = SendsTo output old new
MakesOf steps.Unsent came output old new = UnsendsTo output old new
MakesOf steps.Down came output old new = GoesDownTo output old new

-- a step is made by these tables and names
abbrev pub MakesStep : List Contents → List (List ℕ) → Shelf → Step → Output → Shelf → Type 0
MakesStep tables contexts old step output new = (came : Option Prepared) × IsCame tables contexts step came × MakesOf step came output old new
