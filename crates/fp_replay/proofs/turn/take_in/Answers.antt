use Rattle.std.proofs.Common.{◌∷◌, ap}
use Rattle.fp_replay.proofs.Cutting.{three_joined}
use Rattle.fp_replay.proofs.Letters.{take_only}
use Rattle.fp_replay.proofs.turn.take_in.Goals as goal

pub returns-in_default : goal.returns-in_default
returns-in_default c = record { found = tt; only = take_only _ _ c.in_default.ensures.only (λ b p n i j k none. absurd none) }

pub returns-in_default-long_number_in : goal.returns-in_default-long_number_in
returns-in_default-long_number_in c = record {
  found = tt;
  only = take_only _ _ c.in-Some.ensures.only (λ b p n i j k parts. absurd (cc (c.in_default-long_number_in.ensures.only b i parts.0)));
}

pub returns-in_default-long_number_in-2 : goal.returns-in_default-long_number_in-2
returns-in_default-long_number_in-2 c = record {
  found = tt;
  only = take_only _ _ c.in-Some.ensures.only (λ b p n i j k parts. absurd (cc (c.in_default-long_number_in-2.ensures.only p j parts.1)));
}

pub returns-in_default-short_number_in : goal.returns-in_default-short_number_in
returns-in_default-short_number_in c = record {
  found = tt;
  only = take_only _ _ c.in-Some.ensures.only (λ b p n i j k parts. absurd (cc (c.in_default-short_number_in.ensures.only n k parts.2)));
}

pub returns : goal.returns
returns c = record {
  found =
      let birth = c.in-Some-long_number_in.ensures.found in
      let position = c.in-Some-long_number_in-2.ensures.found in
      let count = c.in-Some-short_number_in.ensures.found in
      let text = three_joined c.args.fields.now _ _ _ _ _ _ c.in-Some.ensures.found birth.1 position.1 count.1 in
      ((birth.0, position.0, count.0), ap (λ fields. 84 ∷ fields) text);
  only = take_only _ _ c.in-Some.ensures.only (λ b p n i j k parts.
      let birth = c.in-Some-long_number_in.ensures.only b i parts.0 in
      let position = c.in-Some-long_number_in-2.ensures.only p j parts.1 in
      cc (birth, position, c.in-Some-short_number_in.ensures.only n k parts.2));
}
