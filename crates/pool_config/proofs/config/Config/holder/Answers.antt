use Rattle.std.proofs.Common.{◌≡◌, ◌∙◌, ◌<◌, length, Some, None, sym}
use Rattle.pool_config.specs.PoolOf.{pool_of}
use Rattle.pool_config.proofs.OnePool.{place_bound, got, with_at, with_none}
use Rattle.pool_config.proofs.SpanPlaces.{found-is}
use Rattle.pool_config.proofs.config.Config.holder.Goals as goal

pub returns-in-Some-clause-value : goal.returns-in-Some-clause-value
returns-in-Some-clause-value c =
    let inside = c.self.inside in
    let apart = c.self.invariant.0.apart in
    let found : Some c.in-Some.place ≡ pool_of inside.pools c.args.address.now = rw c.in-Some.is at
    (found-is inside.pools inside.index apart c.self.invariant.1 c.args.address.now c.holder.result c.holder.ensures.found c.holder.ensures.none) in
    let below : c.in-Some.place < length inside.pools = place_bound inside.pools c.args.address.now c.in-Some.place (sym found) in
    let lookup = rw c.as_slice.ensures at c.get.ensures.lookup in
    rw (← c.self.view_is)
    (got inside.pools c.in-Some.place c.get.result lookup.1 lookup.2 below ∙ with_at inside.pools apart c.args.address.now c.in-Some.place (sym found))

pub returns-in-None-clause-value : goal.returns-in-None-clause-value
returns-in-None-clause-value c =
    let inside = c.self.inside in
    let apart = c.self.invariant.0.apart in
    let found : None ≡ pool_of inside.pools c.args.address.now = rw c.in-None.is at
    (found-is inside.pools inside.index apart c.self.invariant.1 c.args.address.now c.holder.result c.holder.ensures.found c.holder.ensures.none) in
    rw (← c.self.view_is) (with_none inside.pools apart c.args.address.now (sym found))
