use Rattle.std.proofs.Common.{◌∙◌, arith}
use Rattle.std.proofs.lemmas.List.{length-set}
use Rattle.bgp_reading.proofs.Wide.{set-known, wide-same}
use Rattle.bgp_reading.specs.Places.{wide_in}
use Rattle.bgp_reading.proofs.octets.wide_in.Goals as goal

pub loop-place-preserved : goal.loop-place-preserved
loop-place-preserved c = (
  length-set c.loop-place.octets c.loop-place.place c.octet.result ∙ c.loop-place.invariant.0,
  set-known c.loop-place.octets c.args.bytes.now c.loop-place.place c.octet.result c.loop-place.invariant.1 (omega arith) c.octet.ensures,
)

pub returns : goal.returns
unfolding wide_in
returns c =
    c.from_be_bytes.ensures ∙ wide-same c.loop-place.octets c.args.bytes.now (λ i within. c.loop-place.invariant.1 i (omega arith))
