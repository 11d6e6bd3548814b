use Rattle.std.proofs.Common.{◌∷◌, ap}
use Rattle.fp_replay.proofs.Cutting.{three_joined}
use Rattle.fp_replay.proofs.Letters.{tick_only}
use Rattle.fp_replay.proofs.tick.tick_in.Goals as goal

pub returns-in_default : goal.returns-in_default
returns-in_default c = record { found = tt; only = tick_only _ _ c.in_default.ensures.only (λ m a w i j k none. absurd none) }

pub returns-in_default-moment_in : goal.returns-in_default-moment_in
returns-in_default-moment_in c = record {
  found = tt;
  only = tick_only _ _ c.in-Some.ensures.only (λ m a w i j k parts. absurd (cc (c.in_default-moment_in.ensures.only m i parts.0)));
}

pub returns-in_default-short_number_in : goal.returns-in_default-short_number_in
returns-in_default-short_number_in c = record {
  found = tt;
  only = tick_only _ _ c.in-Some.ensures.only (λ m a w i j k parts. absurd (cc (c.in_default-short_number_in.ensures.only a j parts.1)));
}

pub returns-in_default-short_number_in-2 : goal.returns-in_default-short_number_in-2
returns-in_default-short_number_in-2 c = record {
  found = tt;
  only = tick_only _ _ c.in-Some.ensures.only (λ m a w i j k parts. absurd (cc (c.in_default-short_number_in-2.ensures.only w k parts.2)));
}

pub returns : goal.returns
returns c = record {
  found =
      let moment = c.in-Some-moment_in.ensures.found in
      let added = c.in-Some-short_number_in.ensures.found in
      let wanting = c.in-Some-short_number_in-2.ensures.found in
      let text = three_joined c.args.fields.now _ _ _ _ _ _ c.in-Some.ensures.found moment.1 added.1 wanting.1 in
      ((moment.0, added.0, wanting.0), ap (λ fields. 75 ∷ fields) text);
  only = tick_only _ _ c.in-Some.ensures.only (λ m a w i j k parts.
      let moment = c.in-Some-moment_in.ensures.only m i parts.0 in
      let added = c.in-Some-short_number_in.ensures.only a j parts.1 in
      cc (moment, added, c.in-Some-short_number_in-2.ensures.only w k parts.2));
}
