-- What is written for lines is one text.
use Rattle.std.proofs.Common.{◌≡◌, ℕ, true, List, [], ◌∷◌, ◌++◌, Option, Some, None, refl, sym, ◌∙◌, ap, subst}
use Rattle.std.specs.Prelude.{option_map}
use Rattle.std.proofs.lemmas.Bool.{false≢true}
use Rattle.fp_entry.specs.declared.prepared.Prepared.{Prepared}
use Rattle.fp_entry.specs.Laws.{PreparedIsOne}
use Rattle.fp_entry.specs.Arrival.{SameIdentifiers}
use Rattle.fp_entry.specs.Prepared.{Answers}
use Rattle.fp_q773.specs.declared.ids.Ids.{Ids}
use Rattle.fp_q773.specs.Tid.{Tid, octets_of}
use Rattle.fp_records.specs.Table.{Contents}
use Rattle.fp_ask.specs.Laws.{LinesHaveOneText}
use Rattle.fp_ask.specs.Line.{Input, line_in, message, wait}
use Rattle.fp_ask.specs.Lines.{Solo, State, Takes, Written, written_at}
use Rattle.fp_ask.specs.Solo.{LinkState, is_read, post}

-- an identifier is its octets
tid_is : (o : Option Tid) → option_map octets_of o ≡ o
tid_is None = refl
tid_is (Some tid) = refl

-- the same identifiers are one
ids_are : (a b : Ids) → SameIdentifiers a b → a ≡ b
ids_are a b same =
    let orig : a.orig ≡ b.orig = sym (tid_is a.orig) ∙ same.originating ∙ tid_is b.orig in
    let dest : a.dest ≡ b.dest = sym (tid_is a.dest) ∙ same.destination ∙ tid_is b.dest in
    λ i. record { kind = same.kinds i; orig = orig i; dest = dest i }

-- ONE ANSWER

-- what is read as the same message, or refused alike, has one outcome
same_post : (w : LinkState) (x y : Prepared) → is_read x ≡ true → is_read y ≡ true → Answers x y → post w x ≡ post w y
same_post w (Prepared.Message a i) (Prepared.Message b j) r t same =
    let ids = ids_are a.ids b.ids same.same_arrival.identifiers in
    let moment = same.same_arrival.moments in
    let incoming : i ≡ j = λ k. record { entries = same.same_reading.entries k; elements = same.same_reading.elements k } in
    λ k. post w (Prepared.Message (record a { ids = ids k; moment = moment k }) (incoming k))
same_post w (Prepared.Message a i) (Prepared.Refused b g) r t same = absurd same.same_reading
same_post w (Prepared.Refused a f) (Prepared.Message b j) r t same = absurd same.same_reading
same_post w (Prepared.Refused a f) (Prepared.Refused b g) r t same =
    let ids = ids_are a.ids b.ids same.same_arrival.identifiers in
    λ k. post w (Prepared.Refused (record a { ids = ids k; moment = same.same_arrival.moments k }) f)
same_post w (Prepared.Lost a) y r t same = absurd (false≢true r)
same_post w x (Prepared.Lost b) r t same = absurd (false≢true t)

-- one line has one text
same_line : PreparedIsOne → (contents : Contents) (contexts : List (List ℕ)) (state : State) (input : Option Input) (x y : Written)
    → Takes contents contexts state input x → Takes contents contexts state input y → x ≡ y
same_line one contents contexts state None x y a b = absurd a
same_line one contents contexts state (Some (message octets)) x y a b =
    a.written_is
    ∙ ap (written_at state.moment) (same_post state.link a.came b.came a.read b.read (one contents contexts octets state.moment a.came b.came a.prepared b.prepared))
    ∙ sym b.written_is
same_line one contents contexts state (Some (wait milliseconds)) x y a b = a.written_is ∙ sym b.written_is

-- and so have lines
pub one_text : PreparedIsOne → LinesHaveOneText
one_text one contents contexts state [] x y a b = a ∙ sym b
one_text one contents contexts state (line ∷ lines) x y (f, r, h, s, e) (g, t, k, u, d) =
    let first = same_line one contents contexts state (line_in line) f g h k in
    let rest = one_text one contents contexts g.state lines r t (subst (λ (v : Written). Solo contents contexts v.state lines r) first s) u in
    e ∙ (λ i. record { state = (rest i).state; text = (first i).text ++ (rest i).text }) ∙ sym d
