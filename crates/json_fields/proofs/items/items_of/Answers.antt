use Rattle.std.proofs.lemmas.Result.{err_from_is_err_and}
use Rattle.json_fields.proofs.Loop.{goes_on, ends, is_done}
use Rattle.json_fields.proofs.items.items_of.Goals as goal

pub returns-in_err-item_from : goal.returns-in_err-item_from
returns-in_err-item_from g c =
    let p = err_from_is_err_and c.from_residual.result c.from_residual.ensures.1 in
    rw (p.1, p.2) (ends g.T.FromValue.reading c.in_err-item_from.field-0.0 c.loop-index.items c.loop-index.index c.args.values.now
    c.index-values-index.result _ c.loop-index-test.true c.index-values-index.is c.in_err-item_from.ensures c.loop-index.invariant)

pub returns-in_err-push : goal.returns-in_err-push
returns-in_err-push g c =
    let p = err_from_is_err_and c.from_residual-in_err-push.result c.from_residual-in_err-push.ensures.1 in
    rw (p.1, p.2) tt

pub loop-index-preserved : goal.loop-index-preserved
loop-index-preserved g c =
    rw c.in_ok-push.ensures.ok (goes_on g.T.FromValue.reading c.loop-index.items c.loop-index.index c.args.values.now c.index-values-index.result
    c.in_ok-item_from.field-0 _ c.loop-index-test.true c.index-values-index.is c.in_ok-item_from.ensures c.loop-index.invariant)

pub returns : goal.returns
returns g c = is_done g.T.FromValue.reading c.loop-index.items c.loop-index.index c.args.values.now _ c.loop-index-test.false c.loop-index.invariant
