use Rattle.std.proofs.Common.{arith}
use Rattle.ip_ranges.proofs.WrittenLemmas.{hex_one, hex_two, hex_three, hex_four, then_two, then_three, then_four}
use Rattle.ip_ranges.proofs.written.put_hex.Goals as goal

pub returns-in-0-to-15-clause-text : goal.returns-in-0-to-15-clause-text
returns-in-0-to-15-clause-text c = rw (hex_one c.args.group (omega arith)) c.put_digit.ensures.text

pub returns-in-16-to-255-clause-text : goal.returns-in-16-to-255-clause-text
returns-in-16-to-255-clause-text c =
    rw (hex_two c.args.group (omega arith) (omega arith)) (then_two _ _ _ _ _ c.put_digit-at.ensures.text c.put_digit-in-16-to-255.ensures.text)

pub returns-in-256-to-4095-clause-text : goal.returns-in-256-to-4095-clause-text
returns-in-256-to-4095-clause-text c =
    rw (hex_three c.args.group (omega arith) (omega arith))
    (then_three _ _ _ _ _ _ _ c.put_digit-at-in-256-to-4095.ensures.text c.put_digit-at-in-256-to-4095-2.ensures.text c.put_digit-in-256-to-4095.ensures.text)

pub returns-in_default-clause-text : goal.returns-in_default-clause-text
returns-in_default-clause-text c =
    rw (hex_four c.args.group (omega arith))
    (then_four _ _ _ _ _ _ _ _ _ c.put_digit-at-in_default.ensures.text c.put_digit-at-in_default-2.ensures.text c.put_digit-at-in_default-3.ensures.text
    c.put_digit-in_default.ensures.text)
