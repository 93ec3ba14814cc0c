use Rattle.std.proofs.Common.{◌∙◌, arith}
use Rattle.bgp_reading.proofs.Numbers.{numbers-next}
use Rattle.bgp_reading.proofs.attributes.read_numbers.Goals as goal

pub loop-rest-preserved : goal.loop-rest-preserved
loop-rest-preserved c =
    rw (c.in_ok-_is_new.ensures.keys, c.from_be_bytes.ensures)
    (numbers-next c.loop-rest.numbers.keys c.loop-rest.rest.now (omega arith) ∙ c.loop-rest.invariant)
