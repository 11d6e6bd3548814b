-- The plain list of dialogues.
use Rattle.std.proofs.Common.{◌≡◌, ℕ, ◌+◌, ◌≤◌, Bool, true, false, cond, eqb, not, ◌&&◌, Option, Some, None, List, [], ◌∷◌, ◌++◌, map, option_to_list, refl, sym, ◌∙◌, ap, subst, arith, append_assoc, ⊎_elim}
use Rattle.std.proofs.lemmas.Bool.{cases_Bool, cond_both, eqb-true, eq-eqb}
use Rattle.std.proofs.lemmas.Bool.Decides.{nat_tests}
use Rattle.std.proofs.lemmas.List.{map-append}
use Rattle.std.proofs.lemmas.List.Sums.{sum_by-append, sum_by-cons}
use Rattle.fp_entry.specs.declared.entry.Entry.{Entry}
use Rattle.fp_reply.specs.Reply.{frame_of}
use Rattle.fp_service.specs.declared.dialogue.Core.{Core}
use Rattle.fp_service.specs.declared.request.Request.{Request}
use Rattle.fp_service.specs.Dialogue.{is_over}
use Rattle.fp_service.specs.Fold.{core_after, cut, requests}
use Rattle.fp_service.specs.Serve.{next, request_of}
use Rattle.fp_tids.specs.Identifiers.{serial_of}
use Rattle.fp_ask.specs.Solo.{Job, Dialogue, Served, after, answer_of, found, going_on, jobs_for, serve_all, serve_at, serve_one, without}
pub use Rattle.fp_ask.specs.proof_only.Serving.{count}
use Rattle.fp_ask.specs.Tied.{times}

-- two numbers are different, the other way round
pub swapped : (d l : ℕ) → eqb d l ≡ false → eqb l d ≡ false
swapped d l ne = grind (arith, nat_tests)

-- a number is this one, or another
pub by_number : (d local : ℕ) (P : ℕ → Type 0) → P local → (eqb d local ≡ false → P d) → P d
by_number d local P own other = ⊎_elim (λ e. subst P (sym (eqb-true d local e)) own) other (cases_Bool (eqb d local))

-- what is one number isn't the other
other_number : (x d k : ℕ) → eqb x d ≡ true → eqb k d ≡ false → eqb x k ≡ false
other_number x d k e ne = grind (arith, nat_tests)

-- a dialogue that left the list isn't found
pub found_without : (d : ℕ) (dialogues : List Dialogue) → found d (without d dialogues) ≡ None
found_without d [] = refl
found_without d (t ∷ dialogues) = grind (arith, found_without d dialogues)

-- the others are found as before
pub found_others : (d k : ℕ) (dialogues : List Dialogue) → eqb k d ≡ false → found k (without d dialogues) ≡ found k dialogues
found_others d k [] ne = refl
found_others d k (t ∷ dialogues) ne = let rest = found_others d k dialogues ne in grind (arith, nat_tests, rest)

-- the dialogue itself, in front of the others,
own_by : (b : Bool) (t : Dialogue) (d : ℕ) (rest : List Dialogue) → t.local ≡ d → found d rest ≡ None → found d (cond b [] (t ∷ []) ++ rest) ≡ cond (not b) (Some t) None
own_by b t d rest e h = grind (arith, nat_tests)

-- a dialogue that has changed is found as it is then, or not, once it is over
pub found_changed : (t : Dialogue) (d : ℕ) (dialogues : List Dialogue) → t.local ≡ d → found d (going_on t ++ without d dialogues) ≡ cond (not (is_over t.core)) (Some t) None
found_changed t d dialogues e = own_by (is_over t.core) t d (without d dialogues) e (found_without d dialogues)

-- another one, in front of the others
other_by : (b : Bool) (t : Dialogue) (k : ℕ) (rest : List Dialogue) → eqb t.local k ≡ false → found k (cond b [] (t ∷ []) ++ rest) ≡ found k rest
other_by true t k rest ne = refl
other_by false t k rest ne = ap (λ b. cond b (Some t) (found k rest)) ne

-- and the others as before
pub found_unchanged : (t : Dialogue) (d k : ℕ) (dialogues : List Dialogue) → t.local ≡ d → eqb k d ≡ false → found k (going_on t ++ without d dialogues) ≡ found k dialogues
found_unchanged t d k dialogues e ne = other_by (is_over t.core) t k (without d dialogues) (other_number t.local d k (eq-eqb t.local d e) ne) ∙ found_others d k dialogues ne

-- what comes of some jobs, and then of others
abbrev pub both : Served → Served → Served
both first then = record { dialogues = then.dialogues; returned = first.returned ++ then.returned; frames = first.frames ++ then.frames }

-- nothing comes of entries of a dialogue that doesn't go on
pub serve_none : (d : ℕ) (entries : List Entry) (dialogues : List Dialogue) → found d dialogues ≡ None → serve_all (jobs_for d entries) dialogues ≡ record { dialogues = dialogues; returned = []; frames = [] }
serve_none d [] dialogues h = refl
serve_none d (e ∷ es) dialogues h =
    ap (λ o. both (serve_at d e dialogues o) (serve_all (jobs_for d es) (serve_at d e dialogues o).dialogues)) h
    ∙ serve_none d es dialogues h

-- ENTRIES OF ONE DIALOGUE, ONE AFTER ANOTHER

-- the dialogue after them: those after the one that ends it change nothing
abbrev pub after_all : Dialogue → List Entry → Dialogue
after_all dialogue entries = record dialogue { core = core_after dialogue.core (cut dialogue.core entries) }

-- the frames of requests, under its identifiers
abbrev pub answers_of : Dialogue → List Request → List (List ℕ)
answers_of dialogue asked = map (λ request. frame_of request dialogue.local dialogue.peer) asked

answer_is : (dialogue : Dialogue) (o : Option Request) → answer_of dialogue o ≡ answers_of dialogue (option_to_list o)
answer_is dialogue None = refl
answer_is dialogue (Some request) = refl

-- what is sent for them
abbrev pub answers_to : Dialogue → List Entry → List (List ℕ)
answers_to dialogue entries = answers_of dialogue (requests dialogue.core (cut dialogue.core entries))

-- nothing is served of a dialogue that is over
pub cut_over : (core : Core) (entries : List Entry) → is_over core ≡ true → cut core entries ≡ []
cut_over core [] o = refl
cut_over core (e ∷ es) o = ap (λ b. cond b [] (e ∷ cut (next core e) es)) o

-- its serial comes back if they end it
abbrev pub returned_in : ℕ → Core → Core → List ℕ
returned_in d before then = cond (not (is_over before) && is_over then) (serial_of d ∷ []) []

-- nothing ends a dialogue that is unchanged
returned_none : (d : ℕ) (b : Bool) → cond {A = List ℕ} (not b && b) (serial_of d ∷ []) [] ≡ []
returned_none d true = refl
returned_none d false = refl

-- an entry ends it, or the next ones may
returned_next : (d : ℕ) (now then : Bool) → (now ≡ true → then ≡ true) → cond {A = List ℕ} now (serial_of d ∷ []) [] ++ cond (not now && then) (serial_of d ∷ []) [] ≡ cond then (serial_of d ∷ []) []
returned_next d true then stays = ap (λ b. cond {A = List ℕ} b (serial_of d ∷ []) []) (sym (stays refl))
returned_next d false then stays = refl

-- what the plain list makes of them
pub record AllServed (d : ℕ) (entries : List Entry) (one : Dialogue) (dialogues : List Dialogue) : Type 0 where
  pub own : found d (serve_all (jobs_for d entries) dialogues).dialogues ≡ cond (not (is_over (after_all one entries).core)) (Some (after_all one entries)) None
  pub others : (k : ℕ) → eqb k d ≡ false → found k (serve_all (jobs_for d entries) dialogues).dialogues ≡ found k dialogues
  pub frames : (serve_all (jobs_for d entries) dialogues).frames ≡ answers_to one entries
  pub returned : (serve_all (jobs_for d entries) dialogues).returned ≡ returned_in d one.core (after_all one entries).core

-- of a dialogue that is over nothing
served_over : (d : ℕ) (entries : List Entry) (one : Dialogue) (dialogues : List Dialogue) → is_over one.core ≡ true → found d dialogues ≡ None → AllServed d entries one dialogues
served_over d entries one dialogues o is =
    let none = serve_none d entries dialogues is in
    let nothing = cut_over one.core entries o in
    record {
      own = ap (λ (v : Served). found d v.dialogues) none ∙ is
          ∙ sym (ap (λ c. cond (not (is_over (core_after one.core c))) (Some (record one { core = core_after one.core c })) None) nothing
          ∙ ap (λ b. cond (not b) (Some one) None) o);
      others = λ k ne. ap (λ (v : Served). found k v.dialogues) none;
      frames = ap (λ (v : Served). v.frames) none ∙ sym (ap (λ c. answers_of one (requests one.core c)) nothing);
      returned = ap (λ (v : Served). v.returned) none ∙ sym (ap (λ b. cond (not b && is_over (after_all one entries).core) (serial_of d ∷ []) []) o);
    }

-- of one that goes on an entry, and then the others
served_next : (d : ℕ) (e : Entry) (es : List Entry) (one : Dialogue) (dialogues : List Dialogue) → is_over one.core ≡ false → one.local ≡ d → found d dialogues ≡ Some one
    → AllServed d es (after one e) (going_on (after one e) ++ without d dialogues) → AllServed d (e ∷ es) one dialogues
served_next d e es one dialogues o local is rest =
    let front = ap (serve_at d e dialogues) is in
    let more = cut (next one.core e) es in
    let cut_is : cut one.core (e ∷ es) ≡ e ∷ more = ap (λ b. cond b [] (e ∷ more)) o in
    record {
      own = ap (λ (v : Served). found d (serve_all (jobs_for d es) v.dialogues).dialogues) front ∙ rest.own
          ∙ sym (ap (λ c. cond (not (is_over (core_after one.core c))) (Some (record one { core = core_after one.core c })) None) cut_is);
      others = λ k ne. ap (λ (v : Served). found k (serve_all (jobs_for d es) v.dialogues).dialogues) front ∙ rest.others k ne
          ∙ found_unchanged (after one e) d k dialogues local ne;
      frames = ap (λ (v : Served). v.frames ++ (serve_all (jobs_for d es) v.dialogues).frames) front
          ∙ (λ i. answer_is one (request_of one.core e) i ++ rest.frames i)
          ∙ sym (map-append (λ request. frame_of request one.local one.peer) (option_to_list (request_of one.core e)) (requests (next one.core e) more))
          ∙ sym (ap (λ c. answers_of one (requests one.core c)) cut_is);
      returned = ap (λ (v : Served). v.returned ++ (serve_all (jobs_for d es) v.dialogues).returned) front
          ∙ (λ i. cond (is_over (next one.core e)) (serial_of (local i) ∷ []) [] ++ rest.returned i)
          ∙ returned_next d (is_over (next one.core e)) (is_over (core_after (next one.core e) more))
          (λ over. ap (λ c. is_over (core_after (next one.core e) c)) (cut_over (next one.core e) es over) ∙ over)
          ∙ sym ((λ i. cond (not (o i) && is_over (core_after one.core (cut_is i))) (serial_of d ∷ []) []));
    }

pub all_served : (d : ℕ) (entries : List Entry) (one : Dialogue) (dialogues : List Dialogue) → one.local ≡ d
    → found d dialogues ≡ cond (not (is_over one.core)) (Some one) None → AllServed d entries one dialogues
all_served d [] one dialogues local is = record { own = is; others = λ k ne. refl; frames = refl; returned = sym (returned_none d (is_over one.core)) }
all_served d (e ∷ es) one dialogues local is = ⊎_elim
    (λ o. served_over d (e ∷ es) one dialogues o (is ∙ ap (λ b. cond (not b) (Some one) None) o))
    (λ o. served_next d e es one dialogues o local (is ∙ ap (λ b. cond (not b) (Some one) None) o)
    (all_served d es (after one e) (going_on (after one e) ++ without d dialogues) local (found_changed (after one e) d dialogues local)))
    (cases_Bool (is_over one.core))

-- some jobs, and then the others
pub serve_both : (jobs more : List Job) (dialogues : List Dialogue) → serve_all (jobs ++ more) dialogues ≡ both (serve_all jobs dialogues) (serve_all more (serve_all jobs dialogues).dialogues)
serve_both [] more dialogues = refl
serve_both (job ∷ jobs) more dialogues =
    let one = serve_one job.local job.entry dialogues in
    let first = serve_all jobs one.dialogues in
    let then = serve_all more first.dialogues in
    ap (both one) (serve_both jobs more one.dialogues)
    ∙ (λ i. record {
      dialogues = then.dialogues;
      returned = sym (append_assoc one.returned first.returned then.returned) i;
      frames = sym (append_assoc one.frames first.frames then.frames) i;
    })

-- HOW OFTEN A NUMBER OR A DIALOGUE IS IN A LIST

-- one, or none
abbrev pub unit : Bool → ℕ
unit b = cond {A = ℕ} b 1 0

pub count-cons : (d x : ℕ) (xs : List ℕ) → count d (x ∷ xs) ≡ unit (eqb x d) + count d xs
count-cons d x xs = sum_by-cons (λ (x : ℕ). cond {A = ℕ} (eqb x d) 1 0) x xs

-- the first of a list is in it
pub count_own : (x : ℕ) (xs : List ℕ) → count x (x ∷ xs) ≡ 1 + count x xs
count_own x xs = count-cons x x xs ∙ ap (λ b. unit b + count x xs) (eq-eqb x x refl)

pub times-cons : (d : ℕ) (t : Dialogue) (dialogues : List Dialogue) → times d (t ∷ dialogues) ≡ unit (eqb t.local d) + times d dialogues
times-cons d t dialogues = sum_by-cons (λ (t : Dialogue). cond {A = ℕ} (eqb t.local d) 1 0) t dialogues

pub times-append : (d : ℕ) (xs ys : List Dialogue) → times d (xs ++ ys) ≡ times d xs + times d ys
times-append d xs ys = sum_by-append (λ (t : Dialogue). cond {A = ℕ} (eqb t.local d) 1 0) xs ys

-- a dialogue that left the list is not in it
pub times_gone : (d : ℕ) (dialogues : List Dialogue) → times d (without d dialogues) ≡ 0
times_gone d [] = refl
times_gone d (t ∷ dialogues) = grind (arith, times-cons, times_gone d dialogues)

-- no dialogue comes into the list when one leaves it
pub times_fewer : (d k : ℕ) (dialogues : List Dialogue) → times k (without d dialogues) ≤ times k dialogues
times_fewer d k [] = omega arith
times_fewer d k (t ∷ dialogues) = cond_both (not (eqb t.local d)) _ _ (λ l. times k l ≤ times k (t ∷ dialogues))
    (λ _. omega (arith, times-cons k t (without d dialogues), times-cons k t dialogues, times_fewer d k dialogues))
    (λ _. omega (arith, times-cons k t dialogues, times_fewer d k dialogues))

-- none is counted only if the test fails,
pub none_if : (b : Bool) → unit b ≡ 0 → b ≡ false
none_if b h = grind arith

-- and one at most if it holds
pub unit_most : (b : Bool) → unit b ≤ 1
unit_most b = grind arith

-- a dialogue that may go on is counted once at most
going_times : (b : Bool) (t : Dialogue) (k : ℕ) → times k (cond b [] (t ∷ [])) ≤ unit (eqb t.local k)
going_times b t k = grind (arith, times-cons)

-- what is found is the dialogue of this identifier
pub found_local : (d : ℕ) (dialogues : List Dialogue) (one : Dialogue) → found d dialogues ≡ Some one → one.local ≡ d
found_local d [] one is = absurd (cc)
found_local d (t ∷ dialogues) one is = grind (arith, nat_tests, found_local d dialogues)

-- one entry leaves no dialogue twice in the list
once_at : (d : ℕ) (entry : Entry) (dialogues : List Dialogue) (o : Option Dialogue) → found d dialogues ≡ o → ((k : ℕ) → times k dialogues ≤ 1) → (k : ℕ) → times k (serve_at d entry dialogues o).dialogues ≤ 1
once_at d entry dialogues None is h k = h k
once_at d entry dialogues (Some t) is h k =
    let one = after t entry in
    by_number k d (λ k. times k (going_on one ++ without d dialogues) ≤ 1)
    (omega (arith, times-append d (going_on one) (without d dialogues), going_times (is_over one.core) one d, unit_most (eqb one.local d), times_gone d dialogues))
    (λ ne. omega (
      arith,
      times-append k (going_on one) (without d dialogues),
      going_times (is_over one.core) one k,
      times_fewer d k dialogues,
      h k,
      ap unit (other_number t.local d k (eq-eqb t.local d (found_local d dialogues t is)) ne),
    ))

-- no dialogue is twice in the list, whatever is served
pub once_served : (jobs : List Job) (dialogues : List Dialogue) → ((k : ℕ) → times k dialogues ≤ 1) → (k : ℕ) → times k (serve_all jobs dialogues).dialogues ≤ 1
once_served [] dialogues h k = h k
once_served (job ∷ jobs) dialogues h k =
    once_served jobs (serve_one job.local job.entry dialogues).dialogues (once_at job.local job.entry dialogues (found job.local dialogues) refl h) k
