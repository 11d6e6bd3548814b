use Rattle.std.proofs.Common.{◌≡◌, ap, inl, inr, refl, sym, subst, ◌∙◌, arith, length}
use Rattle.hex.specs.Hex.{upper_digits, decode_of}
use Rattle.hex.proofs.HexLemmas.{decode_of-encode_upper, decode_of-ok, decode_of-same, length-encode_with}
use Rattle.fp_replay.proofs.Hexadecimal.{IsUpperCase, octets_again, written_in_upper_case}
use Rattle.fp_replay.proofs.octets.message_in.Goals as goal
use Rattle.fp_replay.proofs.octets.message_in.Goals.{then-field-via-then-field, then-field-via-else-field+then-not-is_upper_case}

pub returns-then-field-clause-only : goal.returns-then-field-clause-only
returns-then-field-clause-only c = λ message size octets e.
    elim c.then-field.branch [
      | then-field-via-then-field w ↦ absurd (omega (arith, ap length e, length-encode_with upper_digits message))
      | then-field-via-else-field+then-not-is_upper_case w ↦
          let upper = w.is_upper_case.ensures.1 (subst IsUpperCase (sym e) (written_in_upper_case message)) in
          let bad = rw w.if-not-is_upper_case.true at upper in
          absurd (cc bad)
    ]

pub returns-in-Err : goal.returns-in-Err
returns-in-Err c = record {
  found = tt;
  only = λ message size octets e.
      elim c.in-Err.ensures.err [
        | inl memory ↦ c.fault_of.ensures memory
        | inr refused ↦ absurd (cc (sym refused ∙ ap decode_of e ∙ decode_of-encode_upper message octets))
      ];
}

pub returns-in_default-new-clause-only : goal.returns-in_default-new-clause-only
returns-in_default-new-clause-only c = λ message size octets e.
    let read = ap decode_of e ∙ decode_of-encode_upper message octets in
    let same = decode_of-same c.args.field.now c.in-Ok.octets.items message c.in-Ok.ensures.ok read in
    let fits = rw (c.in-Ok-from_vec.ensures.ok, same) at c.in_default-new.ensures in
    absurd (fits size)

pub returns-clause-found : goal.returns-clause-found
returns-clause-found c =
    let octets = decode_of-ok c.args.field.now c.in-Ok.octets.items c.in-Ok.ensures.ok in
    let text = octets_again c.args.field.now c.in-Ok.octets.items (c.if-not-is_upper_case.ensures.0 refl) c.in-Ok.ensures.ok in
    let is : c.in-Some.frame ≡ c.in-Ok.octets.items = c.in-Some.ensures.1 ∙ c.in-Ok-from_vec.ensures.ok in
    let size = rw c.in-Ok-from_vec.ensures.ok at c.in-Some.ensures.0 in
    rw is (size, octets.3, text)

pub returns-clause-only : goal.returns-clause-only
returns-clause-only c = λ message size octets e.
    let read = ap decode_of e ∙ decode_of-encode_upper message octets in
    let same = decode_of-same c.args.field.now c.in-Ok.octets.items message c.in-Ok.ensures.ok read in
    c.in-Some.ensures.1 ∙ c.in-Ok-from_vec.ensures.ok ∙ same
