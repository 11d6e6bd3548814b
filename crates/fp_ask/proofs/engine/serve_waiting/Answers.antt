use Rattle.std.proofs.Common.{refl, sym, ◌∙◌, ap, subst}
use Rattle.std.proofs.lemmas.Bool.{false≢true}
use Rattle.fp_book.specs.Calls.{TakesTurn}
use Rattle.fp_row.specs.declared.turn.Turn.{Turn}
use Rattle.fp_ask.specs.proof_only.Serving.{Fit, KeepsEnd, SameCounts}
use Rattle.fp_ask.proofs.OneTurn.{OneServed, has_room, known_done, taken_and_given}
use Rattle.fp_ask.proofs.engine.serve_waiting.Goals as goal

pub loop-turn-init : goal.loop-turn-init
loop-turn-init c = record {
  fit = c.requires.fit;
  ends = λ served m. m;
  counts = record { bases = refl; births = refl; entries = refl };
}

served : (c : goal.In_default) → OneServed c.loop-turn.book c.give.new.self
served c =
    let taken = subst (λ (t : Turn). TakesTurn c.loop-turn.book t c.take.new.self) (sym c.in-Ok.ensures.turn) c.in-Turn.ensures.takes in
    taken_and_given c.loop-turn.invariant.fit c.in-Turn.ensures.sound c.in_default.ensures.sound taken c.in_default.ensures.ok

pub unreachable-requires : goal.unreachable-requires
unreachable-requires c =
    let taken = subst (λ (t : Turn). TakesTurn c.loop-turn.book t c.take.new.self) (sym c.in-Ok.ensures.turn) c.in-Turn.ensures.takes in
    false≢true (c.in-Err-give.ensures.known.1 (known_done c.in-Ok.done taken))

pub loop-turn-smaller : goal.loop-turn-smaller
loop-turn-smaller c = (served c).less

pub loop-turn-preserved : goal.loop-turn-preserved
loop-turn-preserved c =
    let one = served c in
    record {
      fit = one.fit;
      ends = λ end m. one.ends end (c.loop-turn.invariant.ends end m);
      counts = record {
        bases = one.counts.bases ∙ c.loop-turn.invariant.counts.bases;
        births = one.counts.births ∙ c.loop-turn.invariant.counts.births;
        entries = one.counts.entries ∙ c.loop-turn.invariant.counts.entries;
      };
    }

pub returns-in-Nothing-clause-served : goal.returns-in-Nothing-clause-served
returns-in-Nothing-clause-served c =
    let same = c.in-Nothing.ensures.takes.1 in
    let none = c.in-Nothing.ensures.takes.0 in
    record {
      fit = subst Fit (sym same) c.loop-turn.invariant.fit;
      ready = ap (λ s. s.ready) same ∙ none;
    }

pub returns-in-Nothing-clause-ends : goal.returns-in-Nothing-clause-ends
returns-in-Nothing-clause-ends c = subst (KeepsEnd c.args.book.now) (sym c.in-Nothing.ensures.takes.1) c.loop-turn.invariant.ends

pub returns-in-Nothing-clause-counts : goal.returns-in-Nothing-clause-counts
returns-in-Nothing-clause-counts c = subst (SameCounts c.args.book.now) (sym c.in-Nothing.ensures.takes.1) c.loop-turn.invariant.counts

pub unreachable-requires-in-NoRoom : goal.unreachable-requires-in-NoRoom
unreachable-requires-in-NoRoom c = has_room c.loop-turn.book c.loop-turn.invariant.fit c.in-NoRoom.ensures.takes.1
