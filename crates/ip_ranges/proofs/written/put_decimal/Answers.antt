use Rattle.std.proofs.Common.{arith}
use Rattle.std.proofs.lemmas.Fmt.{decimal_digit}
use Rattle.ip_ranges.proofs.WrittenLemmas.{decimal_two, decimal_three, then_two, then_three}
use Rattle.ip_ranges.proofs.written.put_decimal.Goals as goal

pub returns-in-0-to-9-clause-text : goal.returns-in-0-to-9-clause-text
returns-in-0-to-9-clause-text c = rw (decimal_digit c.args.octet (omega arith)) c.put.ensures.text

pub returns-in-10-to-99-clause-text : goal.returns-in-10-to-99-clause-text
returns-in-10-to-99-clause-text c =
    rw (decimal_two c.args.octet (omega arith) (omega arith)) (then_two _ _ _ _ _ c.put-at.ensures.text c.put-in-10-to-99.ensures.text)

pub returns-in_default-clause-text : goal.returns-in_default-clause-text
returns-in_default-clause-text c =
    rw (decimal_three c.args.octet (omega arith) (omega arith))
    (then_three _ _ _ _ _ _ _ c.put-at-in_default.ensures.text c.put-at-in_default-2.ensures.text c.put-in_default.ensures.text)
