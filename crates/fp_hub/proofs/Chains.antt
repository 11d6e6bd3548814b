-- Steps that are made one after another.
use Rattle.std.proofs.Common.{◌≡◌, ℕ, ◌+◌, ◌≤◌, ◌⊎◌, ◌||◌, Bool, true, false, List, [], ◌∷◌, ◌++◌, Option, Some, None, MatchOption, map, length, inl, inr, refl, sym, ◌∙◌, ap, subst, arith, append_assoc, length-append}
use Rattle.std.specs.List.{list_any}
use Rattle.std.specs.Option.{option_to_list}
use Rattle.std.proofs.lemmas.Bool.{false≢true, true_from_ne_false}
use Rattle.std.proofs.lemmas.List.{map-append, nil_from_length}
use Rattle.std.proofs.lemmas.List.Folds.{list_any-append}
use Rattle.fp_book.specs.Calls.{Posts, TakesTurn}
use Rattle.fp_book.specs.Holding.{holds_back}
use Rattle.fp_book.specs.Shelf.{Shelf}
use Rattle.fp_book.specs.declared.answers.Posted.{Posted}
use Rattle.fp_entry.specs.declared.prepared.Prepared.{Prepared}
use Rattle.fp_hub.specs.Chain.{Chain}
use Rattle.fp_hub.specs.Holds.{CountsPost, CountsReturn, CountsServe, CountsWork, GivesAndTakes, PostStep, PostsFront, PostsOne, Return, ReturnStep, ReturnsFront, ReturnsIn, ReturnsOne, ServeStep, ServesIn, ServesOne, ServesSome, StopsPosting, StopsServing, StopsTaking, TakesTurns, gave, went_back, foreign, is_aborted, is_queued, queues}
use Rattle.fp_hub.specs.Shares.{Shares, after_post}
use Rattle.fp_hub.specs.declared.work.Stopped.{Stopped}
use Rattle.fp_hub.specs.declared.work.Work.{Work}
use Rattle.fp_hub.specs.declared.work.Work.TheVariants.{Served, Unserved}
use Rattle.fp_hub.specs.declared.work.Worked.{Worked}
use Rattle.fp_row.specs.declared.turn.Turn.{Turn}

-- one more step
pub chain_more : {S X : Type 0} (step : S → X → S → Type 0) (old mid new : S) (xs : List X) (x : X) → Chain step old xs mid → step mid x new
    → Chain step old (xs ++ x ∷ []) new
chain_more step old mid new [] x none one = record { between = new; first = subst (λ s. step s x new) none one; later = refl }
chain_more step old mid new (y ∷ xs) x chain one = record {
  between = chain.between;
  first = chain.first;
  later = chain_more step chain.between mid new xs x chain.later one;
}

-- one more step of a list, of which each has something of a list that is left
front_more : {X Y : Type 0} (f : X → Y) (all rest left : List Y) (xs : List X) (x : X) → all ≡ map f xs ++ rest → rest ≡ f x ∷ left
    → all ≡ map f (xs ++ x ∷ []) ++ left
front_more f all rest left xs x front next =
    front ∙ ap (λ l. map f xs ++ l) next ∙ sym (append_assoc (map f xs) (f x ∷ []) left) ∙ ap (λ l. l ++ left) (sym (map-append f xs (x ∷ [])))

or_false : (b : Bool) → (b || false) ≡ b
or_false true = refl
or_false false = refl

-- whether one of them is of a kind, with one more
any_more : {X : Type 0} (p : X → Bool) (xs : List X) (x : X) (any : Bool) → any ≡ list_any p xs → (any || p x) ≡ list_any p (xs ++ x ∷ [])
any_more p xs x any is =
    ap (λ b. b || p x) is ∙ ap (λ b. list_any p xs || b) (sym (or_false (p x))) ∙ sym (list_any-append p xs (x ∷ []))

-- this number of messages was posted
pub record Posting (made : ℕ) (old new : Shelf) (came left : List Prepared) (before after : Shares) (aborted : Bool) : Type 0 where
  pub steps : List PostStep
  pub count : length steps ≡ made
  pub front : came ≡ map (λ (step : PostStep). step.0) steps ++ left
  pub grows : Chain CountsPost before steps after
  pub posts : Chain PostsOne old steps new
  pub aborted_is : aborted ≡ list_any (λ (step : PostStep). is_aborted step.1) steps

-- none was posted yet
pub posting_none : (s : Shelf) (came : List Prepared) (seat : Shares) → Posting 0 s s came came seat seat false
posting_none s came seat = record { steps = []; count = refl; front = refl; grows = refl; posts = refl; aborted_is = refl }

-- one more was posted
pub posting_more : (made : ℕ) (old mid new : Shelf) (came rest left : List Prepared) (before between after : Shares) (aborted : Bool) (next : Prepared) (answer : Posted)
    → Posting made old mid came rest before between aborted → rest ≡ next ∷ left → holds_back mid next ≡ false → Posts mid next answer new
    → after ≡ after_post between next answer → Posting (made + 1) old new came left before after (aborted || is_aborted answer)
posting_more made old mid new came rest left before between after aborted next answer posting is free posts grows =
    let count = posting.count in
    let long = length-append posting.steps ((next, answer) ∷ []) in
    record {
      steps = posting.steps ++ (next, answer) ∷ [];
      count = omega (arith, count, long);
      front = front_more (λ (step : PostStep). step.0) came rest left posting.steps (next, answer) posting.front is;
      grows = chain_more CountsPost before between after posting.steps (next, answer) posting.grows grows;
      posts = chain_more PostsOne old mid new posting.steps (next, answer) posting.posts (free, posts);
      aborted_is = any_more (λ (step : PostStep). is_aborted step.1) posting.steps (next, answer) aborted posting.aborted_is;
    }

-- no more are posted
pub posts_front : (made : ℕ) (old new : Shelf) (came left : List Prepared) (before after : Shares) (aborted : Bool)
    → Posting made old new came left before after aborted → made ≤ 64 → StopsPosting new made left → PostsFront old new came left before after aborted
posts_front made old new came left before after aborted posting most stops =
    let count = posting.count in
    record {
      counts = record { steps = posting.steps; front = posting.front; few = omega (arith, count, most); grows = posting.grows };
      posts = posting.posts;
      stops = subst (λ n. StopsPosting new n left) (sym count) stops;
      aborted_is = posting.aborted_is;
    }

-- the next message is held back, and put back to the front
pub held_front : (made : ℕ) (old mid new : Shelf) (came rest left later : List Prepared) (before between after : Shares) (aborted : Bool) (next back : Prepared)
    → Posting made old mid came rest before between aborted → made ≤ 64 → rest ≡ next ∷ later → left ≡ back ∷ later
    → (back ≡ next) × (new ≡ mid) × (after ≡ between) → (holds_back mid next ≡ false → false ≡ true) → PostsFront old new came left before after aborted
held_front made old mid new came rest left later before between after aborted next back posting most is put same held =
    rw (put ∙ ap (λ m. m ∷ later) same.0 ∙ sym is) (rw same.1 (rw same.2
    (posts_front made old mid came rest before between aborted posting most
    (rw is (inr (true_from_ne_false (holds_back mid next) (λ free. false≢true (held free))))))))

-- there were as many as may be
pub all_posted : (s : Shelf) (count : ℕ) (left : List Prepared) → count ≡ 64 → StopsPosting s count left
all_posted s count [] all = tt
all_posted s count (next ∷ later) all = inl all

-- nothing was left of a list
pub none_left : {X : Type 0} (old new : List X) (first : Option X) (count later : ℕ) (Q : X → Type 0) → old ≡ option_to_list first ++ new → first ≡ None
    → MatchOption first ((count ≡ 0) × (later ≡ 0)) Q → count ≡ length old → (old ≡ new) × (new ≡ [])
none_left old new None count later Q is none ends long =
    let no = ends.0 in
    (is, sym is ∙ nil_from_length old (sym long ∙ no))
none_left old new (Some x) count later Q is none ends long = absurd (cc)

-- this number of turns came back
pub record Returning (made : ℕ) (old new : Shelf) (work left : List Work) (before after : Shares) (queued : Bool) : Type 0 where
  pub steps : List ReturnStep
  pub count : length steps ≡ made
  pub front : work ≡ map (λ (step : ReturnStep). step.0) steps ++ left
  pub grows : Chain CountsReturn before steps after
  pub returns : Chain ReturnsOne old steps new
  pub queued_is : queued ≡ list_any (λ (step : ReturnStep). is_queued step.1) steps

-- none came back yet
pub returning_none : (s : Shelf) (work : List Work) (seat : Shares) → Returning 0 s s work work seat seat false
returning_none s work seat = record { steps = []; count = refl; front = refl; grows = refl; returns = refl; queued_is = refl }

-- one more came back
pub returning_more : (made : ℕ) (old mid new : Shelf) (work rest left : List Work) (before between after : Shares) (queued queues : Bool) (first : Work)
    → Returning made old mid work rest before between queued → rest ≡ first ∷ left → ReturnsIn mid new first between after queues
    → Returning (made + 1) old new work left before after (queued || queues)
returning_more made old mid new work rest left before between after queued queues first returning is one =
    let count = returning.count in
    let long = length-append returning.steps ((first, one.became) ∷ []) in
    record {
      steps = returning.steps ++ (first, one.became) ∷ [];
      count = omega (arith, count, long);
      front = front_more (λ (step : ReturnStep). step.0) work rest left returning.steps (first, one.became) returning.front is;
      grows = chain_more CountsReturn before between after returning.steps (first, one.became) returning.grows one.grows;
      returns = chain_more ReturnsOne old mid new returning.steps (first, one.became) returning.returns one.returns;
      queued_is =
          ap (λ b. queued || b) one.queued_is
          ∙ any_more (λ (step : ReturnStep). is_queued step.1) returning.steps (first, one.became) queued returning.queued_is;
    }

-- no more come back
pub returns_front : (made : ℕ) (old new : Shelf) (work left : List Work) (before after : Shares) (queued : Bool)
    → Returning made old new work left before after queued → made ≤ 32 → (left ≡ []) ⊎ (made ≡ 32) → ReturnsFront old new work left before after queued
returns_front made old new work left before after queued returning most all =
    let count = returning.count in
    record {
      counts = record {
        steps = returning.steps;
        front = returning.front;
        few = omega (arith, count, most);
        all = subst (λ n. (left ≡ []) ⊎ (n ≡ 32)) (sym count) all;
        grows = returning.grows;
      };
      returns = returning.returns;
      queued_is = returning.queued_is;
    }

-- this number of turns was taken
pub record Taking (made : ℕ) (old new : Shelf) (had have : List Work) : Type 0 where
  pub turns : List Turn
  pub count : length turns ≡ made
  pub have_is : have ≡ had ++ map Unserved turns
  pub takes : Chain TakesTurn old turns new

-- one more was taken
pub taking_more : (made : ℕ) (old mid new : Shelf) (had have more : List Work) (turn : Turn) → Taking made old mid had have → TakesTurn mid turn new
    → more ≡ have ++ Unserved turn ∷ [] → Taking (made + 1) old new had more
taking_more made old mid new had have more turn taking takes is =
    let count = taking.count in
    let long = length-append taking.turns (turn ∷ []) in
    record {
      turns = taking.turns ++ turn ∷ [];
      count = omega (arith, count, long);
      have_is =
          is ∙ ap (λ l. l ++ Unserved turn ∷ []) taking.have_is ∙ append_assoc had (map Unserved taking.turns) (Unserved turn ∷ [])
          ∙ ap (λ l. had ++ l) (sym (map-append Unserved taking.turns (turn ∷ [])));
      takes = chain_more TakesTurn old mid new taking.turns turn taking.takes takes;
    }

-- no more are taken
pub takes_turns : (made : ℕ) (old new : Shelf) (had have : List Work) (limit room : ℕ) (stopped : Stopped) → Taking made old new had have → made ≤ limit
    → StopsTaking stopped new made limit room (length have) → TakesTurns old new had have limit room stopped
takes_turns made old new had have limit room stopped taking few stops =
    let count = taking.count in
    record {
      turns = taking.turns;
      have_is = taking.have_is;
      few = omega (arith, count, few);
      takes = taking.takes;
      stops = subst (λ n. StopsTaking stopped new n limit room (length have)) (sym count) stops;
    }

-- this number of turns was served in their places
pub record InPlaces (made : ℕ) (old new : Shelf) (before after : Shares) (queued : Bool) : Type 0 where
  pub steps : List ServeStep
  pub count : length steps ≡ made
  pub serves : Chain ServesOne old steps new
  pub grows : Chain CountsServe before steps after
  pub queued_is : queued ≡ list_any queues steps

-- none was served yet
pub in_places_none : (s : Shelf) (seat : Shares) → InPlaces 0 s s seat seat false
in_places_none s seat = record { steps = []; count = refl; serves = refl; grows = refl; queued_is = refl }

-- one more was served
pub in_places_more : (made : ℕ) (old mid new : Shelf) (before between after : Shares) (queued queues_too : Bool)
    → InPlaces made old mid before between queued → ServesIn mid new between after queues_too → InPlaces (made + 1) old new before after (queued || queues_too)
in_places_more made old mid new before between after queued queues_too so_far one =
    let had = so_far.count in
    let long = length-append so_far.steps (one.step ∷ []) in
    record {
      steps = so_far.steps ++ one.step ∷ [];
      count = omega (arith, had, long);
      serves = chain_more ServesOne old mid new so_far.steps one.step so_far.serves one.serves;
      grows = chain_more CountsServe before between after so_far.steps one.step so_far.grows one.grows;
      queued_is = ap (λ b. queued || b) one.queued_is ∙ any_more queues so_far.steps one.step queued so_far.queued_is;
    }

-- no more are served
pub serves_some : (made : ℕ) (old new : Shelf) (before after : Shares) (limit : ℕ) (queued : Bool) (stopped : Stopped)
    → InPlaces made old new before after queued → made ≤ limit → StopsServing stopped new made limit → ServesSome old new before after limit queued stopped
serves_some made old new before after limit queued stopped so_far few stops =
    let count = so_far.count in
    record {
      steps = so_far.steps;
      few = omega (arith, count, few);
      serves = so_far.serves;
      grows = so_far.grows;
      queued_is = so_far.queued_is;
      stops = subst (λ n. StopsServing stopped new n limit) (sym count) stops;
    }

-- of a seat nothing changes but the served entries, whose number grows
pub record Serves (before after : Shares) : Type 0 where
  pub same : after ≡ record before { served = after.served }
  pub grows : before.served ≤ after.served

-- it was served nothing, one turn, or several one after another
serves_more : (before between after : Shares) → Serves before between → Serves between after → Serves before after
serves_more before between after one other =
    let front = one.grows in
    let back = other.grows in
    record { same = other.same ∙ ap {A = Shares} (λ s. record s { served = after.served }) one.same; grows = omega (arith, front, back) }

serves_one : (work : Work) (became : Return) (before after : Shares) → CountsReturn before (work, became) after → Serves before after
serves_one (Served done) (gave given) before after counts = rw counts (record { same = refl; grows = omega arith })
serves_one (Unserved turn) (gave given) before after counts = rw counts (record { same = refl; grows = omega arith })
serves_one (Served done) went_back before after counts = rw counts (record { same = refl; grows = omega arith })
serves_one (Unserved turn) went_back before after counts = rw counts (record { same = refl; grows = omega arith })
serves_one (Served done) foreign before after counts = rw counts (record { same = refl; grows = omega arith })
serves_one (Unserved turn) foreign before after counts = rw counts (record { same = refl; grows = omega arith })

pub serves_each : (steps : List ReturnStep) (before after : Shares) → Chain CountsReturn before steps after → Serves before after
serves_each [] before after none = rw none (record { same = refl; grows = omega arith })
serves_each (step ∷ steps) before after chain =
    serves_more before chain.between after (serves_one step.0 step.1 before chain.between chain.first) (serves_each steps chain.between after chain.later)

pub serves_in_places : (steps : List ServeStep) (before after : Shares) → Chain CountsServe before steps after → Serves before after
serves_in_places [] before after none = rw none (record { same = refl; grows = omega arith })
serves_in_places (step ∷ steps) before after chain =
    serves_more before chain.between after (rw chain.first (record { same = refl; grows = omega arith })) (serves_in_places steps chain.between after chain.later)

-- what a hold says of a worker's list and seat
pub counts_work : (old new : Shelf) (work have : List Work) (before after : Shares) (workers most room : ℕ) (worked : Worked)
    → GivesAndTakes old new work have before after workers most room worked → CountsWork work have most before after
counts_work old new work have before after workers most room worked works =
    let few = works.takes.few in
    record { left = works.left; turns = works.takes.turns; returns = works.returns.counts; have_is = works.takes.have_is; few = omega (arith, few) }
