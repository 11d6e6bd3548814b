use Rattle.std.proofs.Common.{◌≡◌, Some, ap, refl, sym, subst, ◌∙◌}
use Rattle.std.proofs.lemmas.Nat.{from_be_bytes-to_be_bytes_4}
use Rattle.std.specs.Int.{w32, from_be_bytes, to_be_bytes}
use Rattle.hex.specs.Hex.{decode_sized}
use Rattle.fp_replay.specs.Format.{identifier_text}
use Rattle.fp_replay.proofs.Hexadecimal.{IsUpperCase, identifier_again, identifier_read, written_in_upper_case}
use Rattle.fp_replay.proofs.octets.identifier_in.Goals as goal

pub returns-then-not-is_upper_case-clause-only : goal.returns-then-not-is_upper_case-clause-only
returns-then-not-is_upper_case-clause-only c = λ local fits e.
    let upper = c.is_upper_case.ensures.1 (subst IsUpperCase (sym e) (written_in_upper_case (to_be_bytes w32 local))) in
    let bad = rw c.if-not-is_upper_case.true at upper in
    absurd (cc bad)

pub returns-in_default-clause-only : goal.returns-in_default-clause-only
returns-in_default-clause-only c = λ local fits e.
    let read = ap (λ t. decode_sized t 4) e ∙ identifier_read local in
    absurd (c.in_default.not-Ok (to_be_bytes w32 local) (c.from_hex.ensures ∙ read))

pub returns-clause-found : goal.returns-clause-found
returns-clause-found c =
    let text = identifier_again c.args.field.now c.in-Ok.octets (c.if-not-is_upper_case.ensures.0 refl) (sym c.from_hex.ensures ∙ c.in-Ok.is) in
    (c.from_be_bytes.type_inv, text ∙ ap identifier_text (sym c.from_be_bytes.ensures))

pub returns-clause-only : goal.returns-clause-only
returns-clause-only c = λ local fits e.
    let read = ap (λ t. decode_sized t 4) e ∙ identifier_read local in
    let octets : c.in-Ok.octets ≡ to_be_bytes w32 local = cc (read, c.from_hex.ensures) in
    ap Some (c.from_be_bytes.ensures ∙ ap (from_be_bytes w32) octets ∙ from_be_bytes-to_be_bytes_4 local fits)
