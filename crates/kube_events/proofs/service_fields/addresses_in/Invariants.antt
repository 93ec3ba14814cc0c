use Rattle.std.proofs.Common.{◌≡◌, ◌++◌}
use Rattle.std.specs.Vec.Iter.{into_iter_items}
use Rattle.kube_events.specs.ServiceFields.{addresses_in}
use Rattle.kube_events.proofs.service_fields.addresses_in.Given as goal

abbrev pub invariant-loop-place : goal.invariant-loop-place
invariant-loop-place l = l.addresses ++ addresses_in (into_iter_items l.place-iterator) ≡ addresses_in l.fn.ingress
