-- The octets of a number that takes three or four.
use Rattle.std.proofs.Common.{◌≡◌, ◌∷◌, [], false, FitsSigned, w32, arith, rules}
use Rattle.std.proofs.lemmas.Int.{ints, to_z-of_z}
use Rattle.fp_q773.specs.TwosComplement.{is_within, least_octets}
use Rattle.fp_q773.proofs.Integers.{by_least, read_least, four_octets, three_octets, three_least, four_least}
use Rattle.fp_q773.proofs.coded.write_integer.Goals as goal

-- three octets
least_three : (c : goal.After-put_primitive-in-Some-octet_in-2)
    → c.in-Some-octet_in-2.first ∷ c.halves_of-third.result.octet ∷ c.halves_of-last.result.octet ∷ [] ≡ least_octets c.args.number
least_three c =
    let n = c.args.number in
    let last = c.halves_of-last in
    let third = c.halves_of-third in
    let fits : FitsSigned w32 last.result.high = search rules in
    let over : is_within 1 n ≡ false = rw (to_z-of_z w32 n c.ranges.number) at c.in_default.ensures.none in
    let over' : is_within 1 last.result.high ≡ false = rw (to_z-of_z w32 last.result.high fits) at c.in_default-octet_in.ensures.none in
    three_least n last.result.high third.result.high c.in-Some-octet_in-2.first third.result.octet last.result.octet (omega arith) (omega arith) (omega arith)
    (omega (arith, ints, c.in-Some-octet_in-2.ensures.some)) (omega (arith, ints)) (omega (arith, ints)) over over'

pub returns-in-Some-octet_in-2-clause-exact : goal.returns-in-Some-octet_in-2-clause-exact
returns-in-Some-octet_in-2-clause-exact c =
    let put = c.put_primitive-in-Some-octet_in-2 in by_least put.result put.new.self c.args.out.now _ c.args.number (least_three c) put.ensures.ok

pub returns-in-Some-octet_in-2-clause-found : goal.returns-in-Some-octet_in-2-clause-found
returns-in-Some-octet_in-2-clause-found c =
    let last = c.halves_of-last in
    let third = c.halves_of-third in
    read_least _ c.args.number (least_three c)
    (three_octets c.args.number last.result.high third.result.high c.in-Some-octet_in-2.first third.result.octet last.result.octet
    (omega (arith, ints, c.in-Some-octet_in-2.ensures.some)) (omega (arith, ints)) (omega (arith, ints)))

-- four octets
least_four : (c : goal.After-put_primitive-2)
    → c.octet_of-first.result ∷ c.halves_of-second.result.octet ∷ c.halves_of-third.result.octet ∷ c.halves_of-last.result.octet ∷ [] ≡ least_octets c.args.number
least_four c =
    let n = c.args.number in
    let last = c.halves_of-last in
    let third = c.halves_of-third in
    let second = c.halves_of-second in
    let fits : FitsSigned w32 last.result.high = search rules in
    let fits' : FitsSigned w32 third.result.high = search rules in
    let over : is_within 1 n ≡ false = rw (to_z-of_z w32 n c.ranges.number) at c.in_default.ensures.none in
    let over' : is_within 1 last.result.high ≡ false = rw (to_z-of_z w32 last.result.high fits) at c.in_default-octet_in.ensures.none in
    let over'' : is_within 1 third.result.high ≡ false = rw (to_z-of_z w32 third.result.high fits') at c.in_default-octet_in-2.ensures.none in
    four_least n last.result.high third.result.high second.result.high c.octet_of-first.result second.result.octet third.result.octet last.result.octet
    (omega arith) (omega arith) (omega arith) (omega arith)
    (omega (arith, ints)) (omega (arith, ints)) (omega (arith, ints)) (omega (arith, ints)) over over' over''

pub returns-clause-exact : goal.returns-clause-exact
returns-clause-exact c = by_least c.put_primitive-2.result c.put_primitive-2.new.self c.args.out.now _ c.args.number (least_four c) c.put_primitive-2.ensures.ok

pub returns-clause-found : goal.returns-clause-found
returns-clause-found c =
    let last = c.halves_of-last in
    let third = c.halves_of-third in
    let second = c.halves_of-second in
    read_least _ c.args.number (least_four c)
    (four_octets c.args.number last.result.high third.result.high second.result.high c.octet_of-first.result second.result.octet third.result.octet last.result.octet
    (omega (arith, ints)) (omega (arith, ints)) (omega (arith, ints)) (omega (arith, ints)))
