use Rattle.std.proofs.Common.{refl}
use Rattle.std.proofs.lemmas.Result.{err_from_is_err_and}
use Rattle.kube_events.specs.ObjectFields.{body_of}
use Rattle.kube_model.proofs.Fails.{Fails-bind}
use Rattle.kube_events.proofs.object_fields.spec_from.Goals as goal

pub returns-in_err-service_spec-in-Service : goal.returns-in_err-service_spec-in-Service
unfolding body_of
returns-in_err-service_spec-in-Service c =
    let p = err_from_is_err_and c.from_residual.result c.from_residual.ensures.1 in
    rw (p.1, p.2, c.in-Service.is) (Fails-bind c.in_err-service_spec-in-Service.field-0.0 _ _ c.in_err-service_spec-in-Service.ensures)

pub returns-in_err-pool_spec-in-Pool : goal.returns-in_err-pool_spec-in-Pool
unfolding body_of
returns-in_err-pool_spec-in-Pool c =
    let p = err_from_is_err_and c.from_residual-in_err-pool_spec-in-Pool.result c.from_residual-in_err-pool_spec-in-Pool.ensures.1 in
    rw (p.1, p.2, c.in-Pool.is) (Fails-bind c.in_err-pool_spec-in-Pool.field-0.0 _ _ c.in_err-pool_spec-in-Pool.ensures)

pub returns-in_err-l2_spec-in-L2 : goal.returns-in_err-l2_spec-in-L2
unfolding body_of
returns-in_err-l2_spec-in-L2 c =
    let p = err_from_is_err_and c.from_residual-in_err-l2_spec-in-L2.result c.from_residual-in_err-l2_spec-in-L2.ensures.1 in
    rw (p.1, p.2, c.in-L2.is) (Fails-bind c.in_err-l2_spec-in-L2.field-0.0 _ _ c.in_err-l2_spec-in-L2.ensures)

pub returns-in_err-bgp_spec-in-Bgp : goal.returns-in_err-bgp_spec-in-Bgp
unfolding body_of
returns-in_err-bgp_spec-in-Bgp c =
    let p = err_from_is_err_and c.from_residual-in_err-bgp_spec-in-Bgp.result c.from_residual-in_err-bgp_spec-in-Bgp.ensures.1 in
    rw (p.1, p.2, c.in-Bgp.is) (Fails-bind c.in_err-bgp_spec-in-Bgp.field-0.0 _ _ c.in_err-bgp_spec-in-Bgp.ensures)

pub returns-in_err-peer_spec-in-Peer : goal.returns-in_err-peer_spec-in-Peer
unfolding body_of
returns-in_err-peer_spec-in-Peer c =
    let p = err_from_is_err_and c.from_residual-in_err-peer_spec-in-Peer.result c.from_residual-in_err-peer_spec-in-Peer.ensures.1 in
    rw (p.1, p.2, c.in-Peer.is) (Fails-bind c.in_err-peer_spec-in-Peer.field-0.0 _ _ c.in_err-peer_spec-in-Peer.ensures)

pub returns-in_err-named_values-in-Community : goal.returns-in_err-named_values-in-Community
unfolding body_of
returns-in_err-named_values-in-Community c =
    let p = err_from_is_err_and c.from_residual-in_err-named_values-in-Community.result c.from_residual-in_err-named_values-in-Community.ensures.1 in
    rw (p.1, p.2, c.in-Community.is) (Fails-bind c.in_err-named_values-in-Community.field-0.0 _ _ c.in_err-named_values-in-Community.ensures)

pub returns-in_err-slice_spec-in-Slice : goal.returns-in_err-slice_spec-in-Slice
unfolding body_of
returns-in_err-slice_spec-in-Slice c =
    let p = err_from_is_err_and c.from_residual-in_err-slice_spec-in-Slice.result c.from_residual-in_err-slice_spec-in-Slice.ensures.1 in
    rw (p.1, p.2, c.in-Slice.is) (Fails-bind c.in_err-slice_spec-in-Slice.field-0.0 _ _ c.in_err-slice_spec-in-Slice.ensures)

pub returns-in_ok-service_spec-in-Service : goal.returns-in_ok-service_spec-in-Service
unfolding body_of
returns-in_ok-service_spec-in-Service c = rw (c.in-Service.is, c.in_ok-service_spec-in-Service.ensures) refl

pub returns-in_ok-pool_spec-in-Pool : goal.returns-in_ok-pool_spec-in-Pool
unfolding body_of
returns-in_ok-pool_spec-in-Pool c = rw (c.in-Pool.is, c.in_ok-pool_spec-in-Pool.ensures) refl

pub returns-in_ok-l2_spec-in-L2 : goal.returns-in_ok-l2_spec-in-L2
unfolding body_of
returns-in_ok-l2_spec-in-L2 c = rw (c.in-L2.is, c.in_ok-l2_spec-in-L2.ensures) refl

pub returns-in_ok-bgp_spec-in-Bgp : goal.returns-in_ok-bgp_spec-in-Bgp
unfolding body_of
returns-in_ok-bgp_spec-in-Bgp c = rw (c.in-Bgp.is, c.in_ok-bgp_spec-in-Bgp.ensures) refl

pub returns-in_ok-peer_spec-in-Peer : goal.returns-in_ok-peer_spec-in-Peer
unfolding body_of
returns-in_ok-peer_spec-in-Peer c = rw (c.in-Peer.is, c.in_ok-peer_spec-in-Peer.ensures) refl

pub returns-in_ok-named_values-in-Community : goal.returns-in_ok-named_values-in-Community
unfolding body_of
returns-in_ok-named_values-in-Community c = rw (c.in-Community.is, c.in_ok-named_values-in-Community.ensures) refl

pub returns-in_ok-slice_spec-in-Slice : goal.returns-in_ok-slice_spec-in-Slice
unfolding body_of
returns-in_ok-slice_spec-in-Slice c = rw (c.in-Slice.is, c.in_ok-slice_spec-in-Slice.ensures) refl
