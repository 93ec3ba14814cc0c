use Rattle.std.proofs.Common.{refl, sym, ◌∙◌, arith}
use Rattle.std.proofs.lemmas.List.{append-nil, drop_all}
use Rattle.std.proofs.lemmas.Result.{err_from_is_err_and}
use Rattle.pool_config.specs.Bounds.{low_in, high_in}
use Rattle.pool_config.proofs.Spans.{ranges_more, numbers_more}
use Rattle.pool_config.proofs.bounds.push_all_bounds.Goals as goal

pub loop-pool-preserved : goal.loop-pool-preserved
loop-pool-preserved c =
    let pushed = c.in_ok-push_bounds.ensures in
    let here = c.as_slice.ensures in
    record {
      lows = numbers_more (low_in c.args.family) _ _ _ c.loop-pool-test.true c.pool-item.is _ _ _ (rw (← here) pushed.lows) c.loop-pool.invariant.lows;
      highs = numbers_more (high_in c.args.family) _ _ _ c.loop-pool-test.true c.pool-item.is _ _ _ (rw (← here) pushed.highs) c.loop-pool.invariant.highs;
      ranges = λ later. c.loop-pool.invariant.ranges (ranges_more _ _ _ c.loop-pool-test.true c.pool-item.is (rw (← here) pushed.ranges) later);
    }

pub loop-pool-init : goal.loop-pool-init
loop-pool-init c = record { lows = refl; highs = refl; ranges = λ all. all }

pub returns-clause-lows : goal.returns-clause-lows
returns-clause-lows c =
    sym (append-nil c.loop-pool.lows.items)
    ∙ (rw (drop_all c.loop-pool.pool-index c.args.pools.now (omega (arith, c.loop-pool-test.false))) at c.loop-pool.invariant.lows)

pub returns-clause-highs : goal.returns-clause-highs
returns-clause-highs c =
    sym (append-nil c.loop-pool.highs.items)
    ∙ (rw (drop_all c.loop-pool.pool-index c.args.pools.now (omega (arith, c.loop-pool-test.false))) at c.loop-pool.invariant.highs)

pub returns-clause-ranges : goal.returns-clause-ranges
returns-clause-ranges c =
    c.loop-pool.invariant.ranges (rw (drop_all c.loop-pool.pool-index c.args.pools.now (omega (arith, c.loop-pool-test.false))) tt)

pub returns-in_err-push_bounds-clause-lows : goal.returns-in_err-push_bounds-clause-lows
returns-in_err-push_bounds-clause-lows c =
    let p = err_from_is_err_and c.from_residual.result c.from_residual.ensures.1 in
    rw p.1 tt

pub returns-in_err-push_bounds-clause-highs : goal.returns-in_err-push_bounds-clause-highs
returns-in_err-push_bounds-clause-highs c =
    let p = err_from_is_err_and c.from_residual.result c.from_residual.ensures.1 in
    rw p.1 tt

pub returns-in_err-push_bounds-clause-ranges : goal.returns-in_err-push_bounds-clause-ranges
returns-in_err-push_bounds-clause-ranges c =
    let p = err_from_is_err_and c.from_residual.result c.from_residual.ensures.1 in
    rw p.1 tt
