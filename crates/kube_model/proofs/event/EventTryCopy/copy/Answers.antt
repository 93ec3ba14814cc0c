use Rattle.std.proofs.lemmas.Result.{err_from_is_err_and}
use Rattle.kube_model.proofs.event.EventTryCopy.copy.Goals as goal

pub returns-in_err-copy-in-Changed : goal.returns-in_err-copy-in-Changed
returns-in_err-copy-in-Changed c =
    let p = err_from_is_err_and c.from_residual.result c.from_residual.ensures.1 in
    rw p.1 tt

pub returns-in_err-copy-in-Deleted : goal.returns-in_err-copy-in-Deleted
returns-in_err-copy-in-Deleted c =
    let p = err_from_is_err_and c.from_residual-in_err-copy-in-Deleted.result c.from_residual-in_err-copy-in-Deleted.ensures.1 in
    rw p.1 tt

pub returns-in_err-copy-in-Members : goal.returns-in_err-copy-in-Members
returns-in_err-copy-in-Members c =
    let p = err_from_is_err_and c.from_residual-in_err-copy-in-Members.result c.from_residual-in_err-copy-in-Members.ensures.1 in
    rw p.1 tt

pub returns-in_err-interface-in-Frame : goal.returns-in_err-interface-in-Frame
returns-in_err-interface-in-Frame c =
    let p = err_from_is_err_and c.from_residual-in_err-interface-in-Frame.result c.from_residual-in_err-interface-in-Frame.ensures.1 in
    rw p.1 tt
