use Rattle.std.proofs.Common.{◌∙◌, arith}
use Rattle.bgp_reading.proofs.Numbers.{larges-next}
use Rattle.bgp_reading.proofs.attributes.read_larges.Goals as goal

pub loop-rest-preserved : goal.loop-rest-preserved
loop-rest-preserved c =
    rw (c.in_ok-_is_new.ensures.keys, c.large_at.ensures, c.behind-rest.ensures)
    (larges-next c.loop-rest.numbers.keys c.loop-rest.rest.now (omega arith) ∙ c.loop-rest.invariant)
