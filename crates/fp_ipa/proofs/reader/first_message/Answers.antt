use Rattle.std.proofs.Common.{◌+◌, ◌*◌, arith, rules}
use Rattle.fp_ipa.specs.StreamIdentifier.{stream_code}
use Rattle.fp_ipa.proofs.Streams.{message_first}
use Rattle.fp_ipa.proofs.reader.first_message.Goals as goal

pub returns-clause-first : goal.returns-clause-first
returns-clause-first c =
    let least = c.type_inv.octets 1 in
    message_first c.args.octets.now (c.from.result * 256 + c.from-2.result) (stream_code c.from_code.result)
    c.in-len3-up.len_at_least c.from_code.ensures.code (search rules) (omega (arith, least)) (search rules) (search rules)
