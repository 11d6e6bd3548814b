use Rattle.std.proofs.Common.{refl, sym, ap, subst, arith}
use Rattle.std.specs.FinMap as fin
use Rattle.std.specs.Ordering.{nat_cmp}
use Rattle.fp_book.specs.Shelf.{Sound}
use Rattle.fp_tids.specs.Identifiers.{base_of}
use Rattle.fp_ask.specs.Solo.{at_first}
use Rattle.fp_ask.specs.Tied.{Matches, Rest, is_out, live}
use Rattle.fp_ask.proofs.session.Session.new.Goals as goal

pub returns-clause-rest : goal.returns-clause-rest
returns-clause-rest c = subst (λ s. Sound s → Rest s) (sym c.in_ok-with_tag.ensures.value) (λ sound. record {
  sound = sound;
  link = refl;
  up = refl;
  idle = λ k. ap is_out (fin.get-empty nat_cmp k);
  ready = refl;
  outbox = refl;
}) c.in_ok-with_tag.ensures.sound

pub returns-clause-matches : goal.returns-clause-matches
returns-clause-matches c = subst (Matches (at_first (base_of 0 c.args.tag))) (sym c.in_ok-with_tag.ensures.value)
    (record { bases = refl; births = refl; entries = refl; free = refl; same = λ k. sym (ap live (fin.get-empty nat_cmp k)); once = λ k. omega arith })
