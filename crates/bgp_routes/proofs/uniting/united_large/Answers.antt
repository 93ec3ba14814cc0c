use Rattle.std.proofs.Common.{◌∙◌, sym}
use Rattle.bgp_routes.proofs.Same.{copy-united}
use Rattle.bgp_routes.proofs.uniting.united_large.Goals as goal

pub returns-then-eq : goal.returns-then-eq
returns-then-eq c =
    copy-united c.args.a.now c.args.b.now c.copy.result
    (rw (c.as_slice.ensures.numbers, c.as_slice-2.ensures.numbers) at (sym c.eq.ensures ∙ c.if-eq.true)) c.as_slice.ensures.ascending c.copy.ensures
