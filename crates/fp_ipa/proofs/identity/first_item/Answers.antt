use Rattle.std.proofs.Common.{◌+◌, ◌*◌, arith, rules}
use Rattle.fp_ipa.proofs.UnitNames.{item_first}
use Rattle.fp_ipa.proofs.identity.first_item.Goals as goal

pub returns : goal.returns
returns c =
    let least = c.type_inv.octets 1 in
    item_first c.args.octets.now (c.from.result * 256 + c.from-2.result) (search rules) (search rules)
    (omega (arith, least)) (search rules) (search rules)
