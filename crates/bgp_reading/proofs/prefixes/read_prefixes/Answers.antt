use Rattle.std.proofs.Common.{◌∙◌, arith}
use Rattle.std.proofs.lemmas.List.Elements.{All-push}
use Rattle.bgp_updates.specs.Message.{Fits}
use Rattle.bgp_reading.proofs.PrefixWalk.{read-next}
use Rattle.bgp_reading.proofs.prefixes.read_prefixes.Goals as goal

pub loop-rest-preserved : goal.loop-rest-preserved
loop-rest-preserved c = (
  rw (c.in_ok-push.ensures.ok, c.prefix_in.ensures.value, c.front.ensures, c.behind-rest.ensures) (
      read-next c.args.family c.loop-rest.prefixes c.loop-rest.rest.now (omega arith) (omega arith) ∙ c.loop-rest.invariant.0
      ),
  rw c.in_ok-push.ensures.ok (All-push Fits c.loop-rest.prefixes c.prefix_in.result c.loop-rest.invariant.1 c.prefix_in.ensures.fits),
)
