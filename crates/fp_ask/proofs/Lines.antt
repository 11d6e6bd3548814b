-- What is written for one line more.
use Rattle.std.proofs.Common.{◌≡◌, ℕ, ◌+◌, ◌<◌, Bool, true, false, cond, ◌&&◌, List, [], ◌∷◌, ◌++◌, length, Option, Some, None, refl, sym, ◌∙◌, ap, subst, arith, append_assoc, append-nil, length-drop}
use Rattle.std.specs.Prelude.{codes, drop, nat_eq, nat_lt, nat_le, Result, Ok, Err}
use Rattle.std.specs.List.{starts_with}
use Rattle.std.proofs.lemmas.Bool.{cond_both, lt-leb, ltb-true}
use Rattle.hex.specs.Hex.{decode_of}
use Rattle.hex.specs.declared.error.FromHexError.{FromHexError}
use Rattle.hex.proofs.HexLemmas.{decode_of-ok}
use Rattle.fp_records.specs.Table.{Contents}
use Rattle.fp_digits.specs.declared.moment.TheConstants.Moment.{END}
use Rattle.fp_entry.specs.declared.prepared.Prepared.{Prepared}
use Rattle.fp_entry.specs.Prepared.{IsPrepared}
use Rattle.fp_ask.specs.declared.answerer.Answerer.{Answerer}
use Rattle.fp_ask.specs.proof_only.Answering.{Answers, IsAt}
use Rattle.fp_ask.specs.Solo.{is_read, post, tick}
use Rattle.fp_ask.specs.proof_only.Serving.{LinkFollows}
use Rattle.fp_ask.specs.declared.line.TheConstants.{MOST as most_line}
use Rattle.fp_ask.specs.Line.{Input, line_in, message, message_in, most_octets, some_wait, text_of, wait, wait_in}
use Rattle.fp_ask.specs.Lines.{IsBad, Solo, State, Takes, Written, written_at}
use Rattle.fp_ask.proofs.Waits.{wait_in-over}

-- what is so after two pieces of text
abbrev pub both : Written → Written → Written
both first rest = record { state = rest.state; text = first.text ++ rest.text }

-- good lines, and a good one after them
pub solo_more : (contents : Contents) (contexts : List (List ℕ)) (state : State) (lines : List (List ℕ)) (line : List ℕ) (written more : Written)
    → Solo contents contexts state lines written → Takes contents contexts written.state (line_in line) more
    → Solo contents contexts state (lines ++ line ∷ []) (both written more)
solo_more contents contexts state [] line written more e takes =
    let takes' = subst (λ (t : Written). Takes contents contexts t.state (line_in line) more) e takes in (
      more,
      record { state = more.state; text = [] },
      takes',
      refl,
      ap (λ (t : Written). both t more) e ∙ ap (λ (l : List ℕ). record { state = more.state; text = l }) (sym (append-nil more.text)),
    )
solo_more contents contexts state (first ∷ lines) line written more (t, rest, h, s, e) takes =
    let takes' = subst (λ (x : Written). Takes contents contexts x.state (line_in line) more) e takes in (
      t,
      both rest more,
      h,
      solo_more contents contexts t.state lines line rest more s takes',
      ap (λ (x : Written). both x more) e ∙ ap (λ (l : List ℕ). record { state = more.state; text = l }) (append_assoc t.text rest.text more.text),
    )

-- what a test that fails would give is none,
none_if : (a b : Bool) (m : Input) → b ≡ false → cond {A = Option Input} (a && b) (Some m) None ≡ None
none_if true b m e = ap (λ x. cond {A = Option Input} x (Some m) None) e
none_if false b m e = refl

-- as the message of a line of more than 8,192 characters
no_message : (text : List ℕ) (r : Result (List ℕ) FromHexError) → decode_of text ≡ r → most_line < length text → message_in r ≡ None
no_message text (Ok octets) e long =
    let size = (decode_of-ok text octets e).2 in
    let most : nat_le (length octets) most_octets ≡ false = lt-leb (length octets) most_octets (omega (arith, size, long)) in
    none_if (nat_le 1 (length octets)) (nat_le (length octets) most_octets) (message octets) most
no_message text (Err e') e long = refl

-- a line of more than 8,192 characters is bad
pub long_is_bad : (state : State) (line : List ℕ) → most_line < length line → IsBad state (line_in line)
long_is_bad state line long = cond_both (starts_with nat_eq line (codes "+")) (some_wait (wait_in (drop 1 line))) (message_in (decode_of line)) (IsBad state)
    (λ _. subst (λ o. IsBad state (some_wait o)) (sym (wait_in-over (drop 1 line) (omega (arith, length-drop 1 line, long)))) tt)
    (λ _. subst (IsBad state) (sym (no_message line (decode_of line) refl long)) tt)

-- a message was taken
pub taken_message : (contents : Contents) (contexts : List (List ℕ)) (state : State) (line octets : List ℕ) (came : Prepared) (frames : List (List ℕ)) (old new : Answerer)
    → line_in line ≡ Some (message octets) → IsAt state old → IsPrepared contents contexts octets old.moment came → is_read came ≡ true
    → LinkFollows (λ w. post w came) old.link new.link frames → new.moment ≡ old.moment
    → Answers contents contexts state line new (λ text. text ≡ text_of frames)
taken_message contents contexts state line octets came frames old new is at prepared read follows same =
    let goes = follows state.link at.tells in
    record {
      written = written_at state.moment (post state.link came);
      takes = subst (λ i. Takes contents contexts state i (written_at state.moment (post state.link came))) (sym is) (record {
        came = came;
        prepared = subst (λ m. IsPrepared contents contexts octets m came) (sym at.moment) prepared;
        read = read;
        written_is = refl;
      });
      text = ap text_of (sym goes.frames_are);
      at = record { moment = at.moment ∙ sym same; tells = goes.tells };
    }

-- a wait was taken
pub taken_wait : (contents : Contents) (contexts : List (List ℕ)) (state : State) (line : List ℕ) (milliseconds moment : ℕ) (frames : List (List ℕ)) (old new : Answerer)
    → line_in line ≡ Some (wait milliseconds) → IsAt state old → old.moment + milliseconds < END → moment ≡ old.moment + milliseconds
    → LinkFollows (λ w. tick w moment) old.link new.link frames → new.moment ≡ moment
    → Answers contents contexts state line new (λ text. text ≡ text_of frames)
taken_wait contents contexts state line milliseconds moment frames old new is at in_time later follows then =
    let goes = follows state.link at.tells in
    let moment_is : moment ≡ state.moment + milliseconds = later ∙ ap (λ m. m + milliseconds) (sym at.moment) in
    record {
      written = written_at moment (tick state.link moment);
      takes = subst (λ i. Takes contents contexts state i (written_at moment (tick state.link moment))) (sym is) (record {
        in_time = subst (λ m. m + milliseconds < END) (sym at.moment) in_time;
        written_is = λ i. written_at (moment_is i) (tick state.link (moment_is i));
      });
      text = ap text_of (sym goes.frames_are);
      at = record { moment = sym then; tells = goes.tells };
    }

-- if there is a moment that much later, it is that
pub in_time : (moment milliseconds later : ℕ) → cond {A = Option ℕ} (nat_lt (moment + milliseconds) END) (Some (moment + milliseconds)) None ≡ Some later
    → (moment + milliseconds < END) × (later ≡ moment + milliseconds)
in_time moment milliseconds later = cond_both (nat_lt (moment + milliseconds) END) (Some (moment + milliseconds)) None
    (λ o. o ≡ Some later → (moment + milliseconds < END) × (later ≡ moment + milliseconds)) (λ is e. (ltb-true (moment + milliseconds) END is, cc)) (λ _ e. absurd (cc))
