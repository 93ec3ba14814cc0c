use Rattle.std.proofs.Common.{refl}
use Rattle.std.proofs.lemmas.Result.{err_from_is_err_and}
use Rattle.kube_events.specs.Frame.{frame_of}
use Rattle.kube_model.proofs.Fails.{Fails-bind}
use Rattle.kube_events.proofs.frame.frame_from.Goals as goal

pub returns-in_err-interface : goal.returns-in_err-interface
unfolding frame_of
returns-in_err-interface c =
    let p = err_from_is_err_and c.from_residual.result c.from_residual.ensures.1 in
    rw (p.1, p.2) (Fails-bind c.in_err-interface.field-0.0 _ _ c.in_err-interface.ensures)

pub returns-in_err-digits : goal.returns-in_err-digits
unfolding frame_of
returns-in_err-digits c =
    let p = err_from_is_err_and c.from_residual-in_err-digits.result c.from_residual-in_err-digits.ensures.1 in
    rw (p.1, p.2, c.in_ok-interface.ensures) (Fails-bind c.in_err-digits.field-0.0 _ _ c.in_err-digits.ensures)

pub returns : goal.returns
unfolding frame_of
returns c = rw (c.in_ok-interface.ensures, c.in_ok-digits.ensures, ← c.digits.view_is) refl
