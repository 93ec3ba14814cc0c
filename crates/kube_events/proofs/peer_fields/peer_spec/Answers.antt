use Rattle.std.proofs.lemmas.Result.{err_from_is_err_and}
use Rattle.kube_events.specs.PeerFields.{peer_of}
use Rattle.kube_model.proofs.Fails.{Fails-bind}
use Rattle.kube_events.proofs.peer_fields.peer_spec.Goals as goal

pub returns-in_err-my_asn : goal.returns-in_err-my_asn
unfolding peer_of
returns-in_err-my_asn c =
    let p = err_from_is_err_and c.from_residual.result c.from_residual.ensures.1 in
    rw (p.1, p.2) (Fails-bind c.in_err-my_asn.field-0.0 _ _ c.in_err-my_asn.ensures.read)

pub returns-in_err-peer_asn : goal.returns-in_err-peer_asn
unfolding peer_of
returns-in_err-peer_asn c =
    let p = err_from_is_err_and c.from_residual-in_err-peer_asn.result c.from_residual-in_err-peer_asn.ensures.1 in
    rw (p.1, p.2, c.in_ok-my_asn.ensures.read) (Fails-bind c.in_err-peer_asn.field-0.0 _ _ c.in_err-peer_asn.ensures.read)

pub returns-in_err-node_selectors : goal.returns-in_err-node_selectors
unfolding peer_of
returns-in_err-node_selectors c =
    let p = err_from_is_err_and c.from_residual-in_err-node_selectors.result c.from_residual-in_err-node_selectors.ensures.1 in
    rw (p.1, p.2, c.in_ok-my_asn.ensures.read, c.in_ok-peer_asn.ensures.read)
    (Fails-bind c.in_err-node_selectors.field-0.0 _ _ c.in_err-node_selectors.ensures)
