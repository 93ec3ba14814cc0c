use Rattle.std.proofs.Common.{◌≡◌, ◌++◌, sym, ◌∙◌, append_assoc, arith}
use Rattle.std.proofs.lemmas.List.{append-nil, drop_all}
use Rattle.std.proofs.lemmas.Result.{err_from_is_err_and}
use Rattle.std.specs.List.{filter_map}
use Rattle.pool_config.specs.SpanIndex.{placed_in}
use Rattle.pool_config.proofs.Steps.{left_at}
use Rattle.pool_config.proofs.span_index.FamilyIndex.push_pools.Goals as goal

pub returns-in_err-push_spans : goal.returns-in_err-push_spans
returns-in_err-push_spans c =
    let p = err_from_is_err_and c.from_residual.result c.from_residual.ensures.1 in
    rw p.1 tt

pub loop-place-preserved : goal.loop-place-preserved
loop-place-preserved c =
    let i = c.loop-place.place in
    let x = c.index-pools-place.result in
    let pushed : c.push_spans.new.spans.items ≡ c.loop-place.spans.items ++ filter_map (placed_in c.args.family i) x.spans =
    rw (← c.as_slice.ensures) c.in_ok-push_spans.ensures in
    rw (pushed, append_assoc) (rw (left_at c.args.pools.now i x c.loop-place-test.true c.index-pools-place.is) at c.loop-place.invariant)

pub returns : goal.returns
returns c =
    sym (append-nil c.loop-place.spans.items)
    ∙ (rw (drop_all c.loop-place.place c.args.pools.now (omega (arith, c.loop-place-test.false))) at c.loop-place.invariant)
