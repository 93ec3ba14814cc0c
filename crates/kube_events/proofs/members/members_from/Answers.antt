use Rattle.std.proofs.Common.{refl}
use Rattle.std.proofs.lemmas.Result.{err_from_is_err_and}
use Rattle.kube_events.specs.Members.{members_of}
use Rattle.kube_model.proofs.Fails.{Fails-bind}
use Rattle.kube_events.proofs.members.members_from.Goals as goal

pub returns-in_err-names : goal.returns-in_err-names
unfolding members_of
returns-in_err-names c =
    let p = err_from_is_err_and c.from_residual.result c.from_residual.ensures.1 in
    rw (p.1, p.2) (Fails-bind c.in_err-names.field-0.0 _ _ c.in_err-names.ensures)

pub returns-in_err-distinct : goal.returns-in_err-distinct
returns-in_err-distinct c =
    let p = err_from_is_err_and c.from_residual-in_err-distinct.result c.from_residual-in_err-distinct.ensures.1 in
    rw (p.1, p.2) tt

pub returns : goal.returns
unfolding members_of
returns c = rw (c.in_ok-names.ensures, c.in_ok-distinct.ensures) refl
