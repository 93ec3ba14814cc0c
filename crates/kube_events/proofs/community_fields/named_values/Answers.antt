use Rattle.std.proofs.Common.{refl}
use Rattle.std.proofs.lemmas.Result.{err_from_is_err_and}
use Rattle.kube_events.proofs.community_fields.named_values.Goals as goal

pub returns-in_err-named : goal.returns-in_err-named
returns-in_err-named c =
    let p = err_from_is_err_and c.from_residual.result c.from_residual.ensures.1 in
    rw (p.1, p.2) c.in_err-named.ensures

pub returns-in_err-pairs_from : goal.returns-in_err-pairs_from
returns-in_err-pairs_from c =
    let p = err_from_is_err_and c.from_residual-in_err-pairs_from.result c.from_residual-in_err-pairs_from.ensures.1 in
    rw (p.1, p.2) tt

pub returns : goal.returns
returns c = rw (c.in_ok-named.ensures, c.in_ok-pairs_from.ensures) refl
