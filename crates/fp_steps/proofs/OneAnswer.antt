-- What is answered and retold is one.
use Rattle.fp_steps.proofs.Names.{AllAnswered, AllByRecursion, AnswersAreOne, Arrival, Contents, Event, IsAnswer, IsCame, IsLongestReady, IsLost, IsNext, IsNone, IsPicked, IsReadBy, IsReadyBefore, IsTaken, LinesAreRetoldOnce, List, None, Option, Output, Prepared, QueuedFrame, RetellsOne, RunsAreOne, SameAnswers as Answers, SameArrival, SameIncoming, Some, Step, Tid, [], aborts_waiting, ap, arith, cases_Bool, eqb, eqb-true, false, false≢true, is_lost, is_some, length, map_list as map, min, most_entries, most_places, octets_of, option_map, out, outputs_of, places, positions, refl, reverse, reverse-reverse, subst, sym, table_at, true, unserved, waiting, ℕ, ⊎_elim, ◌-◌, ◌<◌, ◌∙◌, ◌∷◌, ◌≡◌, ◌≤◌}
use Rattle.fp_entry.specs.Laws.{PreparedIsOne}
use Rattle.fp_entry.specs.declared.incoming.Incoming.{Incoming}
use Rattle.fp_steps.proofs.MessageAnswers.{lost_prepared, no_records}
use Rattle.fp_steps.proofs.HeldDialogues.{eqb_swap}
use Rattle.fp_steps.proofs.OpenedDialogues.{same_name}

-- WHAT CAME

same_option : (a b : Option Tid) → option_map octets_of a ≡ option_map octets_of b → a ≡ b
same_option None None same = refl
same_option None (Some y) same = absurd (cc)
same_option (Some x) None same = absurd (cc)
same_option (Some x) (Some y) same = same

one_arrival : {a b : Arrival} → SameArrival a b → a ≡ b
one_arrival {a} {b} same =
    let orig : a.ids.orig ≡ b.ids.orig = same_option a.ids.orig b.ids.orig same.identifiers.originating in
    let dest : a.ids.dest ≡ b.ids.dest = same_option a.ids.dest b.ids.dest same.identifiers.destination in
    λ i. record { frame = same.frames i; moment = same.moments i; table = same.tables i; ids = record { kind = same.identifiers.kinds i; orig = orig i; dest = dest i } }

one_incoming : {a b : Incoming} → SameIncoming a b → a ≡ b
one_incoming same = λ i. record { entries = same.entries i; elements = same.elements i }

-- a message that was read
one_read : (x y : Prepared) → is_lost x ≡ false → is_lost y ≡ false → Answers x y → x ≡ y
one_read (Prepared.Message a i) (Prepared.Message b j) r t same = ap (λ x. Prepared.Message x i) (one_arrival same.same_arrival) ∙ ap (λ x. Prepared.Message b x) (one_incoming same.same_reading)
one_read (Prepared.Refused a f) (Prepared.Refused b g) r t same = ap (λ x. Prepared.Refused x f) (one_arrival same.same_arrival) ∙ ap (λ x. Prepared.Refused b x) same.same_reading
one_read (Prepared.Lost a) y r t same = absurd (false≢true (sym r))
one_read x (Prepared.Lost b) r t same = absurd (false≢true (sym t))
one_read x y r t same = absurd same.same_reading

-- one that wasn't
one_lost : (octets : List ℕ) (moment : ℕ) (x y : Prepared) → IsLost octets moment x → IsLost octets moment y → Answers x y → x ≡ y
one_lost octets moment (Prepared.Lost a) (Prepared.Lost b) l m same = ap (λ x. Prepared.Lost x) (one_arrival same.same_arrival)
one_lost octets moment (Prepared.Lost a) y l m same = absurd m
one_lost octets moment x y l m same = absurd l

no_message : (x y : Option Prepared) → IsNone x → IsNone y → x ≡ y
no_message None None p q = refl
no_message None (Some b) p q = absurd q
no_message (Some a) y p q = absurd p

read_once : PreparedIsOne → (table : Option Contents) (contexts : List (List ℕ)) (octets : List ℕ) (moment : ℕ) (x y : Option Prepared) → IsReadBy table contexts octets moment x → IsReadBy table contexts octets moment y → x ≡ y
read_once one None contexts octets moment x y p q = no_message x y p q
read_once one (Some contents) contexts octets moment None y p q = absurd p
read_once one (Some contents) contexts octets moment (Some a) None p q = absurd q
read_once one (Some contents) contexts octets moment (Some a) (Some b) p q = ap Some (one_read a b p.1 q.1 (one contents contexts octets moment a b p.0 q.0))

came_is_one : PreparedIsOne → (tables : List Contents) (contexts : List (List ℕ)) (step : Step) (x y : Option Prepared) → IsCame tables contexts step x → IsCame tables contexts step y → x ≡ y
came_is_one one tables contexts (Step.Post table frame moment) x y p q = read_once one (table_at tables table) contexts frame moment x y p q
came_is_one one tables contexts (Step.Lost frame moment) None y p q = absurd p
came_is_one one tables contexts (Step.Lost frame moment) (Some a) None p q = absurd q
came_is_one one tables contexts (Step.Lost frame moment) (Some a) (Some b) p q =
    ap Some (one_lost frame moment a b p q (one no_records contexts frame moment a b (lost_prepared contexts frame moment a p) (lost_prepared contexts frame moment b q)))
came_is_one one tables contexts step x y p q = no_message x y p q

-- ANSWERS

-- two dialogues aren't each ready before the other
never_both : (h : List Event) (c d : ℕ) → IsReadyBefore h c d → IsReadyBefore h d c → ⊥
never_both h c d a b = grind arith

one_longest : {h : List Event} {l p n m q k : ℕ} → IsLongestReady h l p n → IsLongestReady h m q k → Output.Took l p n ≡ Output.Took m q k
one_longest {h} {l} {p} {n} {m} a b =
    let same : a.dialogue ≡ b.dialogue = ⊎_elim (λ e. eqb-true a.dialogue b.dialogue e)
    (λ ne. absurd (never_both h b.dialogue a.dialogue (b.longest a.dialogue a.stands ne) (a.longest b.dialogue b.stands (eqb_swap a.dialogue b.dialogue ne))))
    (cases_Bool (eqb a.dialogue b.dialogue)) in
    let local = same_name h l m a.dialogue a.name (b.name ∙ ap Some (sym same)) in
    let position = a.next ∙ ap (λ d. length (positions h d)) same ∙ sym b.next in
    let count = a.count_is ∙ ap (λ d. min most_entries (min (length (unserved h d)) (most_places - places h))) same ∙ sym b.count_is in
    λ i. Output.Took (local i) (position i) (count i)

one_taken : (h : List Event) (x y : Output) → IsTaken h x → IsTaken h y → x ≡ y
one_taken h (Output.Took l p n) (Output.Took m q k) a b = one_longest a.0 b.0
one_taken h (Output.Took l p n) Output.NoRoom a b = absurd (let lt : places h < most_places = a.1 in let le : most_places ≤ places h = b.1 in omega (arith, lt, le))
one_taken h (Output.Took l p n) Output.Nothing a b = absurd (false≢true (sym (b a.0.dialogue) ∙ a.0.stands))
one_taken h Output.NoRoom (Output.Took m q k) a b = absurd (let lt : places h < most_places = b.1 in let le : most_places ≤ places h = a.1 in omega (arith, lt, le))
one_taken h Output.NoRoom Output.NoRoom a b = refl
one_taken h Output.NoRoom Output.Nothing a b = absurd (false≢true (sym (b a.0.0) ∙ a.0.1))
one_taken h Output.Nothing (Output.Took m q k) a b = absurd (false≢true (sym (a b.0.dialogue) ∙ b.0.stands))
one_taken h Output.Nothing Output.NoRoom a b = absurd (false≢true (sym (a b.0.0) ∙ b.0.1))
one_taken h Output.Nothing Output.Nothing a b = refl
one_taken h (Output.Took l p n) y a b = absurd b
one_taken h Output.NoRoom y a b = absurd b
one_taken h Output.Nothing y a b = absurd b
one_taken h x y a b = absurd a

one_next : (h : List Event) (aborts : List (List ℕ)) (frames : List QueuedFrame) (l m : ℕ) (x y : List ℕ) → IsNext h aborts frames l x → IsNext h aborts frames m y → Output.Picked l x ≡ Output.Picked m y
one_next h (abort ∷ aborts) frames l m x y a b = ap (λ n. Output.Picked n x) (a.0 ∙ sym b.0) ∙ ap (λ o. Output.Picked m o) (a.1 ∙ sym b.1)
one_next h [] (first ∷ frames) l m x y a b = ap (λ n. Output.Picked n x) (a.0 ∙ sym b.0) ∙ ap (λ o. Output.Picked m o) (a.1 ∙ sym b.1)
one_next h [] [] l m x y a b = absurd a

none_next : (h : List Event) (aborts : List (List ℕ)) (frames : List QueuedFrame) (l : ℕ) (x : List ℕ) → IsNext h aborts frames l x → aborts ≡ [] → frames ≡ [] → ⊥
none_next h (abort ∷ aborts) frames l x a none empty = cc
none_next h [] (first ∷ frames) l x a none empty = cc
none_next h [] [] l x a none empty = a

busy_not : (h : List Event) → is_some (out h) ≡ true → out h ≡ None → ⊥
busy_not h some none = false≢true (sym (ap (λ o. is_some o) none) ∙ some)

one_picked : (h : List Event) (x y : Output) → IsPicked h x → IsPicked h y → x ≡ y
one_picked h (Output.Picked l octets) (Output.Picked m others) a b = one_next h (aborts_waiting h) (waiting h) l m octets others a.1 b.1
one_picked h (Output.Picked l octets) Output.Busy a b = absurd (busy_not h b a.0)
one_picked h (Output.Picked l octets) Output.Nothing a b = absurd (none_next h (aborts_waiting h) (waiting h) l octets a.1 b.1 b.2)
one_picked h Output.Busy (Output.Picked m others) a b = absurd (busy_not h a b.0)
one_picked h Output.Busy Output.Busy a b = refl
one_picked h Output.Busy Output.Nothing a b = absurd (busy_not h a b.0)
one_picked h Output.Nothing (Output.Picked m others) a b = absurd (none_next h (aborts_waiting h) (waiting h) m others b.1 a.1 a.2)
one_picked h Output.Nothing Output.Busy a b = absurd (busy_not h b a.0)
one_picked h Output.Nothing Output.Nothing a b = refl
one_picked h (Output.Picked l octets) y a b = absurd b
one_picked h Output.Busy y a b = absurd b
one_picked h Output.Nothing y a b = absurd b
one_picked h x y a b = absurd a

one_answer : (base : ℕ) (h : List Event) (step : Step) (came : Option Prepared) (x y : Output) → IsAnswer base h step came x → IsAnswer base h step came y → x ≡ y
one_answer base h Step.Take came x y a b = one_taken h x y a b
one_answer base h Step.Pick came x y a b = one_picked h x y a b
one_answer base h step came x y a b = a ∙ sym b

pub answers_one : PreparedIsOne → AnswersAreOne
answers_one one tables contexts base h step came other x y p q a b =
    let same : other ≡ came = came_is_one one tables contexts step other came q p in
    one_answer base h step came x y a (subst (λ o. IsAnswer base h step o y) same b)

-- HISTORIES

-- an event is one by its step
one_event : PreparedIsOne → (tables : List Contents) (contexts : List (List ℕ)) (base : ℕ) (h : List Event) (e f : Event) → e.step ≡ f.step → IsCame tables contexts e.step e.came → IsCame tables contexts f.step f.came
    → IsAnswer base h e.step e.came e.output → IsAnswer base h f.step f.came f.output → e ≡ f
one_event one tables contexts base h e f same p q a b =
    let came_then : IsCame tables contexts e.step f.came = subst (λ s. IsCame tables contexts s f.came) (sym same) q in
    let answer_then : IsAnswer base h e.step f.came f.output = subst (λ s. IsAnswer base h s f.came f.output) (sym same) b in
    λ i. record {
      step = same i;
      came = came_is_one one tables contexts e.step e.came f.came p came_then i;
      output = answers_one one tables contexts base h e.step e.came f.came e.output f.output p came_then a answer_then i;
    }

-- a history is one by its steps
one_history : PreparedIsOne → (tables : List Contents) (contexts : List (List ℕ)) (base : ℕ) (g h : List Event) → map (λ (e : Event). e.step) g ≡ map (λ (e : Event). e.step) h
    → AllByRecursion (λ (e : Event). IsCame tables contexts e.step e.came) g → AllByRecursion (λ (e : Event). IsCame tables contexts e.step e.came) h → AllAnswered base g → AllAnswered base h → g ≡ h
one_history one tables contexts base [] [] same p q a b = refl
one_history one tables contexts base [] (f ∷ h) same p q a b = absurd (let clash : [] ≡ f.step ∷ map (λ (e : Event). e.step) h = same in cc)
one_history one tables contexts base (e ∷ g) [] same p q a b = absurd (let clash : e.step ∷ map (λ (e : Event). e.step) g ≡ [] = same in cc)
one_history one tables contexts base (e ∷ g) (f ∷ h) same p q a b =
    let all : e.step ∷ map (λ (e : Event). e.step) g ≡ f.step ∷ map (λ (e : Event). e.step) h = same in
    let first : e.step ≡ f.step = cc in
    let others : map (λ (e : Event). e.step) g ≡ map (λ (e : Event). e.step) h = cc in
    let rest : g ≡ h = one_history one tables contexts base g h others p.1 q.1 a.1 b.1 in
    ap (λ x. x ∷ g) (one_event one tables contexts base g e f first p.0 q.0 a.0 (subst (λ k. IsAnswer base k f.step f.came f.output) (sym rest) b.0)) ∙ ap (λ k. f ∷ k) rest

pub runs_one : PreparedIsOne → RunsAreOne
runs_one one tables contexts base steps outputs others r t =
    let forth = λ (h : List Event). reverse-reverse (map (λ (e : Event). e.step) h) in
    let same : r.history ≡ t.history = one_history one tables contexts base r.history t.history
    (sym (forth r.history) ∙ ap reverse (r.tells.steps_are ∙ sym t.tells.steps_are) ∙ forth t.history)
    r.tells.messages t.tells.messages r.answers t.answers in
    (sym r.tells.outputs_are ∙ ap outputs_of same ∙ t.tells.outputs_are, same)

-- WHAT IS RETOLD

pub retold_once : PreparedIsOne → LinesAreRetoldOnce
retold_once one tables contexts base [] [] [] a b = refl
retold_once one tables contexts base (line ∷ lines) (e ∷ g) (f ∷ h) (a, r) (b, t) =
    let rest : h ≡ g = retold_once one tables contexts base lines h g t r in
    let then : RetellsOne tables contexts base line g f = subst (λ k. RetellsOne tables contexts base line k f) rest b in
    let both : Some e.step ≡ Some f.step = sym a.step ∙ then.step in let same : e.step ≡ f.step = cc in
    ap (λ x. x ∷ g) (one_event one tables contexts base g e f same a.came b.came a.answer then.answer) ∙ ap (λ k. f ∷ k) (sym rest)
retold_once one tables contexts base [] (e ∷ g) h a b = absurd a
retold_once one tables contexts base (line ∷ lines) [] h a b = absurd a
retold_once one tables contexts base lines g h a b = absurd b
