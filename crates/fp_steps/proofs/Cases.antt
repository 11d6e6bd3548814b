-- What is made of a book, by cases: each step with the answers that it may have.
use Rattle.fp_steps.proofs.Names.{Content, Contents, Done, Follows, Given, GivesDone, GoesDown, IsRead, IsReadBy, IsSome, List, LoggedStep, MakesOf, None, Option, Output, Parcel, PicksParcel, Posted, PostsTo, Prepared, PutsTurnBack, Sends, Shelf, Some, Step, TakesTurn, Ticks, Turn, Unsends, [], components_in, get, length, most_places, nothing, parcel_local as local_of, parcel_octets as octets_of, places_held, posted_totals, refl, subst, sym, turn_of, verdict, ℕ, ⊤, ◌≡◌, ◌≢◌, ◌≤◌}

-- a step that posts a message
abbrev pub IsPost : Step → Type 0
IsPost (Step.Post table octets moment) = ⊤
IsPost (Step.Lost octets moment) = ⊤
IsPost _ = ⊥

-- a message was read by the records of a table that was handed in
pub record ReadBy (table : Option Contents) (contexts : List (List ℕ)) (octets : List ℕ) (moment : ℕ) (came : Prepared) : Type 0 where
  pub contents : Contents
  pub is : table ≡ Some contents
  pub read : IsRead contents contexts octets moment (Some came)

pub read_by : (table : Option Contents) (contexts : List (List ℕ)) (octets : List ℕ) (moment : ℕ) (came : Prepared) → IsReadBy table contexts octets moment (Some came) → ReadBy table contexts octets moment came
read_by None contexts octets moment came is = absurd is
read_by (Some contents) contexts octets moment came is = record { contents = contents; is = refl; read = is }

pub record Cases (P : Step → Output → Type 0) (came : Option Prepared) (old new : Shelf) : Type 0 where
  pub posted : (step : Step) → IsPost step → (p : Prepared) (answer : Posted) (components : ℕ) → came ≡ Some p → components ≡ components_in answer p → Follows (verdict old p) old p answer new → new.totals ≡ posted_totals old.totals p answer → P step (Output.Posted answer components)
  pub none_posted : (step : Step) → IsPost step → came ≡ None → new ≡ old → P step Output.Nothing
  pub ticked : (moment added wanting : ℕ) → wanting ≡ 0 → Ticks old moment added wanting new → P (Step.Tick moment) (Output.Ticked added wanting)
  pub took : (turn : Turn) → TakesTurn old turn new → P Step.Take (Output.Took turn.local turn.position (length turn.entries))
  pub no_room : old.ready ≢ [] → most_places ≤ places_held old → new ≡ old → P Step.Take Output.NoRoom
  pub none_taken : old.ready ≡ [] → new ≡ old → P Step.Take Output.Nothing
  pub gave : (done : Done) (given : Given) → GivesDone old done given new → P (Step.Give done.turn.local) (Output.Gave done.turn.local done.turn.position done.served given)
  pub none_given : (local : ℕ) → turn_of (get old.rows local) ≡ None → new ≡ old → P (Step.Give local) Output.Nothing
  pub went_back : (turn : Turn) → PutsTurnBack old turn new → P (Step.PutBack turn.local) Output.WentBack
  pub none_back : (local : ℕ) → turn_of (get old.rows local) ≡ None → new ≡ old → P (Step.PutBack local) Output.Nothing
  pub picked : (content : Content) (frame : List ℕ) → octets_of content ≡ frame → PicksParcel old content new → P Step.Pick (Output.Picked (local_of content) frame)
  pub busy : IsSome old.outbox.out → new ≡ old → P Step.Pick Output.Busy
  pub none_picked : old.outbox ≡ nothing → new ≡ old → P Step.Pick Output.Nothing
  pub sent : (content : Content) → Sends old content new → P Step.Sent Output.Sent
  pub none_sent : old.outbox.out ≡ None → new ≡ old → P Step.Sent Output.Nothing
  pub unsent : (parcel : Parcel) → Unsends old parcel new → P Step.Unsent Output.Unsent
  pub none_unsent : old.outbox.out ≡ None → new ≡ old → P Step.Unsent Output.Nothing
  pub down : GoesDown old.outbox.out old LoggedStep.Down new → P Step.Down Output.Down

by_post : (P : Step → Output → Type 0) (step : Step) (came : Option Prepared) (output : Output) {old new : Shelf} → IsPost step → Cases P came old new
    → PostsTo output came old new → P step output
by_post P step (Some p) (Output.Posted answer components) is c g = c.posted step is p answer components refl g.0 g.1 g.2
by_post P step None Output.Nothing is c g = c.none_posted step is refl g
by_post P step came output is c g = absurd g

pub by_made : (P : Step → Output → Type 0) (step : Step) {came : Option Prepared} (output : Output) {old new : Shelf} → Cases P came old new → MakesOf step came output old new → P step output
by_made P (Step.Post table octets moment) output c g = by_post _ (Step.Post table octets moment) _ output tt c g
by_made P (Step.Lost octets moment) output c g = by_post _ (Step.Lost octets moment) _ output tt c g
by_made P (Step.Tick moment) (Output.Ticked added wanting) c g = c.ticked moment added wanting g.0 g.1
by_made P Step.Take (Output.Took l position count) c g = subst (P Step.Take) (λ i. Output.Took (g.1 i) (g.2 i) (g.3 i)) (c.took g.0 g.4)
by_made P Step.Take Output.NoRoom c g = c.no_room g.0 g.1 g.2
by_made P Step.Take Output.Nothing c g = c.none_taken g.0 g.1
by_made P (Step.Give local) (Output.Gave l position served given) c g =
    let done : Done = g.1.0 in
    subst (λ n. P (Step.Give local) (Output.Gave n position served given)) (sym g.0)
    (subst (λ n. P (Step.Give n) (Output.Gave n position served given)) g.1.1
    (subst (P (Step.Give done.turn.local)) (λ i. Output.Gave done.turn.local (g.1.2 i) (g.1.3 i) given) (c.gave done given g.1.4)))
by_made P (Step.Give local) Output.Nothing c g = c.none_given local g.0 g.1
by_made P (Step.PutBack local) Output.WentBack c g = subst (λ n. P (Step.PutBack n) Output.WentBack) g.1 (c.went_back g.0 g.2)
by_made P (Step.PutBack local) Output.Nothing c g = c.none_back local g.0 g.1
by_made P Step.Pick (Output.Picked l frame) c g = subst (λ n. P Step.Pick (Output.Picked n frame)) g.1 (c.picked g.0 frame g.2 g.3)
by_made P Step.Pick Output.Busy c g = c.busy g.0 g.1
by_made P Step.Pick Output.Nothing c g = c.none_picked g.0 g.1
by_made P Step.Sent Output.Sent c g = c.sent g.0 g.1
by_made P Step.Sent Output.Nothing c g = c.none_sent g.0 g.1
by_made P Step.Unsent Output.Unsent c g = c.unsent g.0 g.1
by_made P Step.Unsent Output.Nothing c g = c.none_unsent g.0 g.1
by_made P Step.Down Output.Down c g = c.down g
by_made P step output c g = absurd g
